-- `early_fit::is_unfit_log` meets its contract: too many places, or one that is unfit.
use Rattle.std.proofs.Common.{rules, tests, ◌∙◌, ap, not, take, ltb, arith}
use Rattle.std.proofs.lemmas.Iterator.{YieldsList-from_slice}
use Rattle.std.proofs.lemmas.Iterator.Search.{any_from_yields_List}
use Rattle.early.specs.declared.Notification.{Notification}
use Rattle.early.specs.Log.{pair_of}
use Rattle.early.specs.Fit.{is_fit_pair}
use Rattle.clock.specs.Cycle.{cycle_at}
use Rattle.early_log.proofs.LengthLaws.{log-length}
use Rattle.early_log.proofs.AnyLaws.{list_any-below}
use Rattle.early_fit.proofs.FitnessLaws.{is_unfit_log-above, is_unfit_log-below}
use Rattle.early_fit.proofs.is_unfit_log.Goals as goal

pub returns-then-count-gt128 : goal.returns-then-count-gt128
returns-then-count-gt128 c = ap (ltb 128) c.from-count.ensures ∙ is_unfit_log-above c.args.m.now c.args.site (omega arith)

pub returns-else-count-gt128 : goal.returns-else-count-gt128
returns-else-count-gt128 c =
    let m = c.args.m.now in
    let s = c.args.site in
    let size = log-length s _ c.well_formed.1.0 in
    let test = λ (x : Notification). not (is_fit_pair m x) in
    any_from_yields_List test _ _ _ c.any.ensures.ran (YieldsList-from_slice (take s.count s.log) (c.iter.ensures.rest ∙ ap (λ n. take n s.log) c.from-count.ensures)) (λ x b q k. search (rules, tests))
    ∙ (list_any-below test s.log (pair_of 0 (cycle_at 0 0)) s.count (omega arith) ∙ is_unfit_log-below m s (omega arith))
