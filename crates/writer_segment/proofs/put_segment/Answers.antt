-- `writer_segment::put_segment` meets its contract. The frame and the closer, then the statements.
use Rattle.buffers.proofs.PutLaws.{puts_then}
use Rattle.writer_segment.proofs.SegmentLaws.{segment_bytes-parts}
use Rattle.writer_segment.proofs.put_segment.Goals as goal

pub returns : goal.returns
returns c =
    rw (← segment_bytes-parts c.args.g) (puts_then c.put_front-a.ensures c.put_statements.ensures)
