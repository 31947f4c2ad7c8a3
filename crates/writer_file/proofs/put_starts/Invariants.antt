-- `writer_file::put_starts` meets its contract. The invariant: the records of the first k threads are put.
use Rattle.buffers.specs.Put.{Puts}
use Rattle.model.specs.Values.{start_at}
use Rattle.writer.specs.File.{start_bytes}
use Rattle.writer.specs.Bytes.{joined}
use Rattle.writer_file.proofs.put_starts.Given as goal

abbrev pub invariant-loop-k : goal.invariant-loop-k
invariant-loop-k l = Puts l.initial.out l.at l.out l.to (joined l.k 0 (λ k. start_bytes (start_at l.m k)))
