-- `tables_row::start` meets its contract: a store for each place.
use native.Mathlib.Omega.{arith}
use Rattle.base.proofs.IndexLaws.{store_to-none, store_to-more}
use Rattle.tables_row.proofs.StepLaws.{start-self, start-other}
use Rattle.tables_row.proofs.start.Goals.{then-s-r, else-s-r}
use Rattle.tables_row.proofs.start.Goals as goal

pub loop-s-init : goal.loop-s-init
loop-s-init c = store_to-none _ _ _

pub loop-s-preserved : goal.loop-s-preserved
loop-s-preserved c =
    let x = c.args in
    let l = c.loop-s in
    elim c.if-s-r.branch [
      | then-s-r w ↦ rw w.w-is (store_to-more _ 0 x.row.now l.s l.s _ _ l.invariant (omega arith) (start-self l.s x.r w.if-s-r.true))
      | else-s-r w ↦ rw w.w-is (store_to-more _ 0 x.row.now l.s l.s _ _ l.invariant (omega arith) (start-other l.s x.r w.if-s-r.false))
    ]
