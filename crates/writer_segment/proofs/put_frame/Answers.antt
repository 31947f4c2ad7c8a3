-- `writer_segment::put_frame` meets its contract. The length, then the kind.
use Rattle.buffers.proofs.PutLaws.{puts_then}
use Rattle.writer_segment.proofs.put_frame.Goals as goal

pub returns : goal.returns
returns c = puts_then c.put_two-a.ensures c.put_two.ensures
