-- `writer_segment::put_next` meets its contract. Its four numbers in turn.
use Rattle.buffers.proofs.PutLaws.{puts_then}
use Rattle.writer.specs.Bytes.{next_bytes}
use Rattle.writer_segment.proofs.put_next.Goals as goal

pub returns : goal.returns
unfolding next_bytes
returns c =
    puts_then c.put_one-a.ensures (puts_then c.put_one-b.ensures (puts_then c.put_one-c.ensures (rw c.from.ensures at c.put_four.ensures)))
