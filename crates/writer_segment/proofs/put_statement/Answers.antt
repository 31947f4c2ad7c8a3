-- `writer_segment::put_statement` meets its contract. Its three numbers in turn.
use Rattle.buffers.proofs.PutLaws.{puts_then}
use Rattle.writer.specs.Bytes.{statement_of}
use Rattle.writer_segment.proofs.put_statement.Goals as goal

pub returns : goal.returns
unfolding statement_of
returns c =
    puts_then c.put_one-c.ensures (puts_then c.put_one-d.ensures (rw c.from.ensures at c.put_four.ensures))
