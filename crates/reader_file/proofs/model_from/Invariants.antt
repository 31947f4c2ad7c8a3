-- `reader_file::model_from` meets its contract. The invariant: what is left of the bytes, read on from the model so far, gives what the file gives.
-- The measure is what is left of the bytes.
use Prim.Native.Nat.{◌≤◌, ◌-◌}
use lib.ListN.{length}
use Rattle.reader_file.proofs.FileLaws.{Filled}
use Rattle.reader_file.proofs.model_from.Given as goal

abbrev pub invariant-loop-at : goal.invariant-loop-at
invariant-loop-at l =
    (l.at ≤ length l.bytes) × Filled l.bytes l.at (record { horizon = l.horizon; v = l.v; e = l.e; n = l.n; t = l.t; segments = l.segments; starts = l.starts })

abbrev pub decreases-loop-at : goal.decreases-loop-at
decreases-loop-at l = length l.bytes - l.at
