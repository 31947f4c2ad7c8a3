-- `reader_segment::statements_fault` meets its contract. The invariant: the first j statements have no fault.
use mathlib.Core.Path.{◌≡◌}
use Rattle.reader_segment.specs.Parts.{statements_bytes_fault}
use Rattle.reader_segment.proofs.statements_fault.Given as goal

abbrev pub invariant-loop-j : goal.invariant-loop-j
invariant-loop-j l = statements_bytes_fault l.j l.v l.e l.r ≡ 0
