-- `writer_file::put_thread` meets its contract. The thread's record, then that of its ports.
use Rattle.buffers.proofs.PutLaws.{puts_then}
use Rattle.writer.specs.File.{start_bytes}
use Rattle.writer_file.proofs.put_thread.Goals as goal

pub returns : goal.returns
unfolding start_bytes
returns c = puts_then c.put_start-a.ensures c.put_ports.ensures
