-- `early_answer::finish` meets its contract.
use mathlib.Core.Path.{ap, ◌∙◌}
use native.Mathlib.Omega.{arith}
use Rattle.early_answer.specs.After.{after_of}
use Rattle.early_answer.specs.Answered.{effect_from, grant_on}
use Rattle.early_answer.proofs.AnsweredLaws.{finish-made}
use Rattle.early_answer.proofs.finish.Goals as goal

pub returns : goal.returns
returns c =
    let start = c in
    let x = start.args in
    let i = c.from-i in
    finish-made x.reach.now x.t (omega arith) x.site x.threads.at i.result x.at.cycle x.ran start.requires.ran_bound c.note-noted.result c.drop_before-kept.result c.settle-after.result c.floor_of-floor.result
    c.note-noted.ensures c.settle-after.ensures c.floor_of-floor.ensures c.drop_before-kept.ensures
    ∙ ap (λ j. after_of (grant_on x.reach.now x.t x.site x.threads.at j x.at.cycle (effect_from x.ran))) i.ensures
