-- `writer_segment::put_front` meets its contract. The frame, then the closer.
use Rattle.buffers.proofs.PutLaws.{puts_then}
use Rattle.writer_segment.proofs.put_front.Goals as goal

pub returns : goal.returns
returns c =
    puts_then (rw c.from.ensures at c.put_frame-a.ensures) c.put_closer.ensures
