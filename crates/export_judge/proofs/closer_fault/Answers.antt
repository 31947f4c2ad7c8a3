-- `export_judge::closer_fault` meets its contract: its form, then its values.
use mathlib.Core.Path.{sym}
use Rattle.std.proofs.lemmas.Result.{err_from_is_err_and}
use Rattle.refusal.proofs.NumberLaws.{number_of-not_0}
use Rattle.model_rules.proofs.FaultLaws.{fault-here, fault-later}
use Rattle.export_model.specs.Judged.{closer_numbers_fault}
use Rattle.export_judge.proofs.closer_fault.Goals as goal

pub returns-in_err-closer_form_fault : goal.returns-in_err-closer_form_fault
unfolding closer_numbers_fault
returns-in_err-closer_form_fault c =
    let p = err_from_is_err_and c.from_residual.result c.from_residual.ensures.1 in
    rw (p.1, p.2)
    (fault-here _ _ _ c.in_err-closer_form_fault.ensures (number_of-not_0 c.in_err-closer_form_fault.field-0.0))

pub returns : goal.returns
unfolding closer_numbers_fault
returns c = fault-later _ _ _ (sym c.in_ok-closer_form_fault.ensures) (c.closer_value_fault.ensures)
