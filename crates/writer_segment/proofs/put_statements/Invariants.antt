-- `writer_segment::put_statements` meets its contract. The invariant: the first j statements are put.
use Rattle.buffers.specs.Put.{Puts}
use Rattle.writer.specs.Bytes.{joined}
use Rattle.writer_segment.proofs.SegmentLaws.{statement_at}
use Rattle.writer_segment.proofs.put_statements.Given as goal

abbrev pub invariant-loop-j : goal.invariant-loop-j
invariant-loop-j l = Puts l.initial.out l.at l.out l.to (joined l.j 0 (statement_at l.g))
