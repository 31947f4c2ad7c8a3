-- `tables_conflict::row_marks` meets its contract: a mark for each column.
use mathlib.Core.Path.{◌≡◌}
use Rattle.tables_conflict.specs.Mask.{row_to}
use Rattle.tables_conflict.proofs.row_marks.Given as goal

abbrev pub invariant-loop-s : goal.invariant-loop-s
invariant-loop-s l = l.out ≡ row_to l.fn.all l.r l.s
