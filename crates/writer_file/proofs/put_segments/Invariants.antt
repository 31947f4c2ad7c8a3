-- `writer_file::put_segments` meets its contract. The invariant: the records of the first i segments are put.
use Rattle.buffers.specs.Put.{Puts}
use Rattle.model.specs.Values.{segment_at}
use Rattle.writer.specs.File.{segment_bytes}
use Rattle.writer.specs.Bytes.{joined}
use Rattle.writer_file.proofs.put_segments.Given as goal

abbrev pub invariant-loop-i : goal.invariant-loop-i
invariant-loop-i l = Puts l.initial.out l.at l.out l.to (joined l.i 0 (λ i. segment_bytes (segment_at l.m i)))
