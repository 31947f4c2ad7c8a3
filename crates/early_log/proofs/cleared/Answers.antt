-- `early_log::cleared` meets its contract: the places from the count on hold nothing.
use Rattle.std.proofs.Common.{arith, ◌∙◌, ap, ◌-◌, length, take, drop, replicate}
use Rattle.early.specs.Log.{log_of}
use Rattle.early_log.proofs.LengthLaws.{log-length}
use Rattle.early_log.proofs.PlaceLaws.{site_of-padded}
use Rattle.early_log.proofs.HeldLaws.{log_of-length, cleared-places}
use Rattle.early_log.proofs.cleared.Goals as goal

pub returns : goal.returns
returns c =
    let s = c.args.site in
    let used = c.within-used.result in
    let size = log-length s _ c.well_formed.0 in
    let nothing = c.fill.ensures.after (λ y e. e) ∙ ap (replicate (length (take (128 - used) (drop used s.log)))) c.nothing.ensures in
    site_of-padded s.variables (log_of s) _ used (cleared-places s size used _ c.within-used.ensures nothing) (omega (arith, log_of-length s size))
