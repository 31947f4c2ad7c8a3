-- `writer_file::put_file` meets its contract. The head, the segments, the threads, the end.
use Rattle.buffers.proofs.PutLaws.{puts_then}
use Rattle.writer.specs.File.{head_bytes, file_of}
use Rattle.writer_file.proofs.SizeLaws.{end_bytes-frame}
use Rattle.writer_file.proofs.put_file.Goals as goal

pub returns : goal.returns
unfolding head_bytes file_of
returns c =
    let end = rw end_bytes-frame at c.put_frame.ensures in
    puts_then c.put_head-a.ensures (puts_then c.put_segments-b.ensures (puts_then c.put_starts-c.ensures end))
