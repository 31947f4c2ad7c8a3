-- `tables_conflict::masks_for` meets its contract: two words for each segment.
use Prim.Native.Nat.{ℕ, ◌≤◌, ◌<◌}
use mathlib.Core.Path.{◌≡◌}
use lib.ListN.{length}
use Rattle.tables_conflict.specs.Mask.{masks_for}
use Rattle.model.specs.Values.{segment_at}
use Rattle.tables_conflict.proofs.masks_for.Given as goal

abbrev pub invariant-loop-i : goal.invariant-loop-i
invariant-loop-i l = (l.all ≡ masks_for l.fn.m l.i) × ((k : ℕ) → k < l.i → (segment_at l.fn.m k).n ≤ length (segment_at l.fn.m k).statements)
