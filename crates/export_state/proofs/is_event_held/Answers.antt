-- `export_state::is_event_held` meets its contract: waiting, or not.
use native.Mathlib.Omega.{arith}
use Rattle.export_state.specs.Numbers.{is_event_held}
use Rattle.export_state.proofs.is_event_held.Goals as goal

pub returns-then-number-eq3 : goal.returns-then-number-eq3
unfolding is_event_held
returns-then-number-eq3 c = grind arith

pub returns-else-number-eq3 : goal.returns-else-number-eq3
unfolding is_event_held
returns-else-number-eq3 c = grind arith
