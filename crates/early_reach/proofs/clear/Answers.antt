-- `early_reach::clear` meets its contract: the first places filled.
use Rattle.std.proofs.lemmas.List.{length-take-le}
use Rattle.early_reach.proofs.StoreLaws.{cleared-filled}
use Rattle.early_reach.proofs.clear.Goals as goal

pub returns : goal.returns
returns c =
    let x = c.args.reach.now in
    cleared-filled x c.fill.new.self _ c.requires (length-take-le 2048 x c.requires) (c.fill.ensures.after (λ y e. e))
