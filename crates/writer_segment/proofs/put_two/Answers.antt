-- `writer_segment::put_two` meets its contract. The low byte, then the next.
use Rattle.buffers.proofs.PutLaws.{puts_then}
use Rattle.writer.specs.Bytes.{bytes_of}
use Rattle.writer_segment.proofs.put_two.Goals as goal

pub returns : goal.returns
unfolding bytes_of
returns c = puts_then c.put_byte-a.ensures c.put_byte.ensures
