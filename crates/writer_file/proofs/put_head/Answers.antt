-- `writer_file::put_head` meets its contract. A frame, then the body: the horizon and the two counts, 6 bytes.
use mathlib.Core.Path.{refl}
use Rattle.buffers.proofs.PutLaws.{puts_then}
use Rattle.writer.specs.Bytes.{bytes_of}
use Rattle.writer_segment.proofs.JoinLaws.{puts-record}
use Rattle.writer_file.proofs.put_head.Goals as goal

pub returns : goal.returns
unfolding bytes_of
returns c =
    puts-record 10 1 c.put_frame-a.ensures (puts_then c.put_four-b.ensures (puts_then c.put_one-c.ensures c.put_one.ensures)) refl
