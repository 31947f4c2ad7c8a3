-- `plain_rows::segments_by` meets its contract. The invariant: the segments of the first k threads are stored.
use Prim.Native.Nat.{ℕ, ◌<◌}
use mathlib.Core.Path.{◌≡◌}
use lib.ListN.{get_or}
use Rattle.plain_words.specs.Rows.{segment_by}
use Rattle.plain_rows.proofs.segments_by.Given as goal

abbrev pub invariant-loop-k : goal.invariant-loop-k
invariant-loop-k l = (i : ℕ) → i < l.k → get_or l.x-items i 0 ≡ segment_by (get_or l.held i 0) (get_or l.rows i 0)
