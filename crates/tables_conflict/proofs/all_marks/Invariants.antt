-- `tables_conflict::all_marks` meets its contract: a row for each segment.
use mathlib.Core.Path.{◌≡◌}
use Rattle.tables_conflict.specs.Mask.{rows_to}
use Rattle.tables_conflict.proofs.all_marks.Given as goal

abbrev pub invariant-loop-r : goal.invariant-loop-r
invariant-loop-r l = l.out ≡ rows_to l.all l.n l.r
