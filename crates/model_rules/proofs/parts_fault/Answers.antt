-- `model_rules::parts_fault` meets its contract: the head, the segments, the counts, the targets.
use mathlib.Core.Path.{sym}
use Rattle.std.proofs.lemmas.Result.{err_from_is_err_and}
use Rattle.refusal.proofs.NumberLaws.{number_of-not_0}
use Rattle.model_rules.specs.Asked.{parts_fault}
use Rattle.model_rules.proofs.FaultLaws.{fault-here, fault-later}
use Rattle.model_rules.proofs.parts_fault.Goals as goal

pub returns-in_err-head_fault : goal.returns-in_err-head_fault
unfolding parts_fault
returns-in_err-head_fault c =
    let p = err_from_is_err_and c.from_residual.result c.from_residual.ensures.1 in
    rw (p.1, p.2)
    (fault-here _ _ _ c.in_err-head_fault.ensures (number_of-not_0 c.in_err-head_fault.field-0.0))

pub returns-in_err-segments_fault : goal.returns-in_err-segments_fault
unfolding parts_fault
returns-in_err-segments_fault c =
    let p = err_from_is_err_and c.from_residual-in_err-segments_fault.result c.from_residual-in_err-segments_fault.ensures.1 in
    rw (p.1, p.2)
    (fault-later _ _ _ (sym c.in_ok-head_fault.ensures) (fault-here _ _ _ c.in_err-segments_fault.ensures (number_of-not_0 c.in_err-segments_fault.field-0.0)))

pub returns-in_err-counts_fault : goal.returns-in_err-counts_fault
unfolding parts_fault
returns-in_err-counts_fault c =
    let p = err_from_is_err_and c.from_residual-in_err-counts_fault.result c.from_residual-in_err-counts_fault.ensures.1 in
    rw (p.1, p.2)
    (fault-later _ _ _ (sym c.in_ok-head_fault.ensures) (fault-later _ _ _ (sym c.in_ok-segments_fault.ensures) (fault-here _ _ _ c.in_err-counts_fault.ensures (number_of-not_0 c.in_err-counts_fault.field-0.0))))

pub returns : goal.returns
unfolding parts_fault
returns c = fault-later _ _ _ (sym c.in_ok-head_fault.ensures) (fault-later _ _ _ (sym c.in_ok-segments_fault.ensures) (fault-later _ _ _ (sym c.in_ok-counts_fault.ensures) (c.targets_fault.ensures)))
