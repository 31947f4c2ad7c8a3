-- `writer_file::size_of` meets its contract. The invariant: the head, the threads, the end and the first i segments are counted.
use Rattle.writer_file.proofs.SizeLaws.{Counted}
use Rattle.writer_file.proofs.size_of.Given as goal

abbrev pub invariant-loop-i : goal.invariant-loop-i
invariant-loop-i l = Counted l.m l.i l.size
