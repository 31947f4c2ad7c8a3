-- `export_state::thread_from` meets its contract: its five words.
use mathlib.Core.Path.{refl}
use Rattle.export_state.specs.Numbers.{thread_from}
use Rattle.export_state.proofs.thread_from.Goals as goal

pub returns : goal.returns
unfolding thread_from
returns c =
    rw (c.state_from.ensures, c.word_at.ensures, c.byte_at.ensures, c.cycle_at-c.ensures, c.byte_at-event.ensures) refl
