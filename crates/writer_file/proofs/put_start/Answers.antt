-- `writer_file::put_start` meets its contract. A frame, then the body: one byte.
use mathlib.Core.Path.{refl}
use Rattle.writer.specs.Bytes.{bytes_of}
use Rattle.writer_segment.proofs.JoinLaws.{puts-record}
use Rattle.writer_file.proofs.put_start.Goals as goal

pub returns : goal.returns
unfolding bytes_of
returns c = puts-record 5 3 c.put_frame-a.ensures c.put_one.ensures refl
