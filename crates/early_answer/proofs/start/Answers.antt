-- `early_answer::start` meets its contract.
use Rattle.early_answer.proofs.AnsweredLaws.{start-made}
use Rattle.early_answer.proofs.start.Goals as goal

pub returns : goal.returns
returns c =
    let x = c.args in
    record { held = c.hold.ensures; left = start-made x.site x.threads x.k c.from-i.result c.cycle_of-c.result c.from-i.ensures c.cycle_of-c.ensures }
