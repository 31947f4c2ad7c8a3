-- `export_state::is_pair_held` meets its contract: the event, then the delta.
use native.Mathlib.Omega.{arith}
use Rattle.export_state.specs.Numbers.{is_pair_held}
use Rattle.export_state.proofs.is_pair_held.Goals as goal

pub returns-then-word_at-lt256 : goal.returns-then-word_at-lt256
unfolding is_pair_held
returns-then-word_at-lt256 c = grind arith

pub returns-else-word_at-lt256 : goal.returns-else-word_at-lt256
unfolding is_pair_held
returns-else-word_at-lt256 c = grind arith
