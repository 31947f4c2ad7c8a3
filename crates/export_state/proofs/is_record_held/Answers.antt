-- `export_state::is_record_held` meets its contract: segment, state, event, delta.
use native.Mathlib.Omega.{arith}
use Rattle.export_state.specs.Numbers.{is_record_held}
use Rattle.export_state.proofs.is_record_held.Goals as goal

pub returns-then-is_event_held : goal.returns-then-is_event_held
unfolding is_record_held
returns-then-is_event_held c = grind arith

pub returns-else-is_event_held : goal.returns-else-is_event_held
unfolding is_record_held
returns-else-is_event_held c = grind arith
