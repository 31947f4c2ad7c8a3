-- `reader_segment::record_names` meets its contract. The invariant: the first j statements name no port.
use Prim.Native.Nat.{ℕ, ◌<◌}
use mathlib.Core.Path.{◌≡◌}
use mathlib.Core.Bool.{false}
use Rattle.reader_segment.proofs.NamedLaws.{op_names_at}
use Rattle.reader_segment.proofs.record_names.Given as goal

abbrev pub invariant-loop-j : goal.invariant-loop-j
invariant-loop-j l = (i : ℕ) → i < l.j → op_names_at l.r i ≡ false
