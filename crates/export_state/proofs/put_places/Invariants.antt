-- `export_state::put_places` meets its contract. The invariant: the words of the first i places.
use mathlib.Core.Path.{◌≡◌}
use lib.ListN.{take}
use lib.Seq.{sets}
use Rattle.export_state.specs.Numbers.{pair_words, in_turn}
use Rattle.export_state.proofs.put_places.Given as goal

abbrev pub invariant-loop-i : goal.invariant-loop-i
invariant-loop-i l = l.out ≡ sets l.initial.out 1 (in_turn pair_words (take l.i l.fn.places))
