-- `tables_distance::direct_row` meets its contract: a store for each column.
use native.Mathlib.Omega.{arith}
use Rattle.base.proofs.IndexLaws.{store_to-none, store_to-more}
use Rattle.tables_distance.proofs.direct_row.Goals as goal

pub loop-s-init : goal.loop-s-init
loop-s-init c = store_to-none _ _ _

pub loop-s-preserved : goal.loop-s-preserved
loop-s-preserved c = let l = c.loop-s in store_to-more _ 0 c.args.row.now l.s l.s _ _ l.invariant (omega arith) c.direct_word.ensures
