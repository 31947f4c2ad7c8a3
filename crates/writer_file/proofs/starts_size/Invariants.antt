-- `writer_file::starts_size` meets its contract. The invariant: the first i threads are counted.
use Rattle.writer_file.proofs.SizeLaws.{CountedTo}
use Rattle.writer_file.proofs.starts_size.Given as goal

abbrev pub invariant-loop-i : goal.invariant-loop-i
invariant-loop-i l = CountedTo l.m l.i l.size
