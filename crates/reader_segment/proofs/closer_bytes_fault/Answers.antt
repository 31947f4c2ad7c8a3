-- `reader_segment::closer_bytes_fault` meets its contract: the shape's 5, then the closer's 5 and 7.
use mathlib.Core.Path.{sym, ap, ◌∙◌}
use Rattle.std.proofs.lemmas.Result.{err_from_is_err_and}
use Rattle.refusal.proofs.NumberLaws.{number_of-not_0}
use Rattle.model.specs.Rules.{closer_fault}
use Rattle.model_rules.proofs.FaultLaws.{fault-here, fault-later}
use Rattle.reader.specs.Closer.{closer_bytes_fault}
use Rattle.reader_segment.proofs.closer_bytes_fault.Goals as goal

pub returns-in_err-closer_shape_fault : goal.returns-in_err-closer_shape_fault
unfolding closer_bytes_fault
returns-in_err-closer_shape_fault c =
    let p = err_from_is_err_and c.from_residual.result c.from_residual.ensures.1 in
    rw (p.1, p.2) (fault-here _ _ _ c.in_err-closer_shape_fault.ensures (number_of-not_0 c.in_err-closer_shape_fault.field-0.0))

pub returns : goal.returns
unfolding closer_bytes_fault
returns c = fault-later _ _ _ (sym c.in_ok-closer_shape_fault.ensures) (c.closer_fault.ensures ∙ ap (closer_fault _ _) c.closer_from.ensures)
