-- `export_judge::op_fault` meets its contract: its 6, then its 7.
use mathlib.Core.Path.{sym}
use Rattle.std.proofs.lemmas.Result.{err_from_is_err_and}
use Rattle.refusal.proofs.NumberLaws.{number_of-not_0}
use Rattle.model_rules.proofs.FaultLaws.{fault-here, fault-later}
use Rattle.export_model.specs.Judged.{op_numbers_fault}
use Rattle.export_judge.proofs.op_fault.Goals as goal

pub returns-in_err-op_form_fault : goal.returns-in_err-op_form_fault
unfolding op_numbers_fault
returns-in_err-op_form_fault c =
    let p = err_from_is_err_and c.from_residual.result c.from_residual.ensures.1 in
    rw (p.1, p.2)
    (fault-here _ _ _ c.in_err-op_form_fault.ensures (number_of-not_0 c.in_err-op_form_fault.field-0.0))

pub returns : goal.returns
unfolding op_numbers_fault
returns c = fault-later _ _ _ (sym c.in_ok-op_form_fault.ensures) (c.op_value_fault.ensures)
