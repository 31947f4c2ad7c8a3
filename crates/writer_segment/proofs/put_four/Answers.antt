-- `writer_segment::put_four` meets its contract. The low two bytes, then the next two.
use Rattle.buffers.proofs.PutLaws.{puts_then}
use Rattle.writer.specs.Bytes.{bytes_of}
use Rattle.writer_segment.proofs.put_four.Goals as goal

pub returns : goal.returns
unfolding bytes_of
returns c = puts_then c.put_two-a.ensures c.put_two.ensures
