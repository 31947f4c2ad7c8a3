-- `export_state::pair_at` meets its contract: its three words.
use mathlib.Core.Path.{refl}
use Rattle.export_state.specs.Numbers.{pair_at}
use Rattle.export_state.proofs.pair_at.Goals as goal

pub returns : goal.returns
unfolding pair_at
returns c = rw (c.byte_at.ensures, c.cycle_at.ensures) refl
