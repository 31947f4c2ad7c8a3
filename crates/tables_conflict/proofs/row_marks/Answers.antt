-- `tables_conflict::row_marks` meets its contract: a mark for each column.
use mathlib.Core.Path.{ap, ◌∙◌}
use native.Mathlib.Omega.{arith}
use lib.ListN.{get_or}
use Rattle.base.proofs.IndexLaws.{store_to-none, store_to-more}
use Rattle.tables_conflict.proofs.MaskLaws.{front-read}
use Rattle.tables_conflict.specs.Mask.{masks, clash, row_to}
use Rattle.tables_conflict.proofs.row_marks.Goals as goal

pub loop-s-init : goal.loop-s-init
unfolding row_to
loop-s-init c = store_to-none _ _ _

pub loop-s-preserved : goal.loop-s-preserved
unfolding row_to
loop-s-preserved c =
    let x = c.args in
    let l = c.loop-s in
    let none = masks 0 0 in
    let read = front-read x.n x.all l.s none none c.loop-s-test.true in
    store_to-more _ 0 _ l.s l.s _ _ l.invariant (omega arith) (c.clashes.ensures ∙ ap (clash (get_or x.all x.r none)) read)
