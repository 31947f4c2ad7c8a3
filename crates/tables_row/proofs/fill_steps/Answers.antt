-- `tables_row::fill_steps` meets its contract: too short, or all 64 stored.
use native.Mathlib.Omega.{arith}
use Rattle.tables_row.proofs.StepLaws.{steps_in-short}
use Rattle.tables_row.proofs.fill_steps.Goals as goal

pub returns-else-steps-ge64 : goal.returns-else-steps-ge64
returns-else-steps-ge64 c = steps_in-short _ _ (omega arith)
