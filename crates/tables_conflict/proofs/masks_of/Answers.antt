-- `tables_conflict::masks_of` meets its contract: the statements, one after the other, and the test variable.
use native.Mathlib.Omega.{arith}
use lib.Seq.{length-take-le}
use Rattle.model_effect.proofs.LengthLaws.{statements-length}
use Rattle.tables_conflict.proofs.MaskLaws.{masks_to-none, masks_to-more, masks_of-made}
use Rattle.tables_conflict.proofs.masks_of.Goals as goal

pub loop-x-init : goal.loop-x-init
loop-x-init c = masks_to-none c.args.g.statements

pub loop-x-preserved : goal.loop-x-preserved
loop-x-preserved c =
    let l = c.loop-x in
    masks_to-more c.args.g.statements _ l.x-index _ _ _ _ c.loop-x-test.true l.invariant c.op_masks.ensures c.join-a.ensures

pub returns : goal.returns
returns c =
    let g = c.args.g in
    let size = statements-length g _ c.well_formed.0 in
    let front = length-take-le g.n g.statements (omega arith) in
    record { value = masks_of-made g c.loop-x.x-index _ _ (omega arith) c.loop-x.invariant c.test_mask.ensures; placed = omega arith }
