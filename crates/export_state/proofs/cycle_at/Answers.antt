-- `export_state::cycle_at` meets its contract: its two words.
use mathlib.Core.Path.{refl}
use Rattle.export_state.proofs.cycle_at.Goals as goal

pub returns : goal.returns
returns c = rw (c.word_at.ensures, c.delta_at.ensures) refl
