-- `writer_file::put_eight` meets its contract. The invariant: the numbers of the ports passed are put.
use Rattle.buffers.specs.Put.{Puts}
use Rattle.model.specs.Port.{port_of}
use Rattle.writer.specs.Bytes.{bytes_of, joined}
use Rattle.writer_file.proofs.put_eight.Given as goal

abbrev pub invariant-loop-x : goal.invariant-loop-x
invariant-loop-x l = Puts l.initial.out l.at l.out l.to (joined l.x-index 0 (λ p. bytes_of 1 (port_of l.x-items p)))
