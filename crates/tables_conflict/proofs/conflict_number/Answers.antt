-- `tables_conflict::conflict_number` meets its contract: unfit, or none.
use mathlib.Core.Path.{sym, ◌∙◌}
use Rattle.tables.proofs.OutcomeLaws.{conflict-unfit, conflict-held}
use Rattle.refusal.proofs.NumberLaws.{told-refused, told-held}
use Rattle.tables_conflict.proofs.conflict_number.Goals as goal

pub returns-then-is_err : goal.returns-then-is_err
returns-then-is_err c = (conflict-unfit c.args.m (told-refused c.model_fault.result _ c.model_fault.ensures (sym c.is_err.ensures.value ∙ c.if-is_err.true))).0

pub returns : goal.returns
returns c = (conflict-held c.args.m (told-held c.model_fault.result _ c.model_fault.ensures (sym c.is_err.ensures.value ∙ c.if-is_err.false))).0
