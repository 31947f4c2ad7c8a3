-- `export_state::are_held` meets its contract: the variables, then the log, then the records.
use native.Mathlib.Omega.{arith}
use Rattle.export_state.specs.Numbers.{are_held}
use Rattle.export_state.proofs.are_held.Goals as goal

pub returns-then-is_log_held : goal.returns-then-is_log_held
unfolding are_held
returns-then-is_log_held c = grind arith

pub returns-else-is_log_held : goal.returns-else-is_log_held
unfolding are_held
returns-else-is_log_held c = grind arith
