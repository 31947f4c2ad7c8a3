-- `reader_file::judge` meets its contract. The invariant: what is left of the bytes, read on from a model that the counts are of, gives what
-- the file gives. The measure is what is left of the bytes.
use Prim.Native.Nat.{◌≤◌, ◌-◌}
use lib.ListN.{length}
use Rattle.reader_record.specs.Kinds.{last_number}
use Rattle.reader_file.proofs.FileLaws.{Judged}
use Rattle.reader_file.proofs.judge.Given as goal

abbrev pub invariant-loop-at : goal.invariant-loop-at
invariant-loop-at l = (l.at ≤ length l.bytes) × Judged l.bytes l.at (last_number l.last) l.c

abbrev pub decreases-loop-at : goal.decreases-loop-at
decreases-loop-at l = length l.bytes - l.at
