-- `writer_segment::put_wait` meets its contract. Its three numbers in turn, then what comes next.
use Rattle.buffers.proofs.PutLaws.{puts_then}
use Rattle.writer_segment.proofs.put_wait.Goals as goal

pub returns : goal.returns
returns c =
    puts_then c.put_one-a.ensures (puts_then c.put_one-b.ensures (puts_then (rw c.from.ensures at c.put_four-c.ensures) c.put_next.ensures))
