-- `tables_conflict::all_marks` meets its contract: a row for each segment.
use native.Mathlib.Omega.{arith}
use Rattle.base.proofs.IndexLaws.{store_to-none, store_to-more}
use Rattle.tables_conflict.specs.Mask.{rows_to}
use Rattle.tables_conflict.proofs.all_marks.Goals as goal

pub loop-r-init : goal.loop-r-init
unfolding rows_to
loop-r-init c = store_to-none _ _ _

pub loop-r-preserved : goal.loop-r-preserved
unfolding rows_to
loop-r-preserved c = let l = c.loop-r in store_to-more _ 0 _ l.r l.r _ _ l.invariant (omega arith) c.row_marks.ensures
