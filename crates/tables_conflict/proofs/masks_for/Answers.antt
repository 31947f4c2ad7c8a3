-- `tables_conflict::masks_for` meets its contract: two words for each segment.
use Prim.Native.Nat.{◌≤◌}
use mathlib.Core.Path.{ap, sym, subst, ◌∙◌}
use native.Mathlib.Omega.{arith}
use lib.ListN.{length, length-take}
use borrow.Author.Count.{below_more}
use Rattle.base.proofs.IndexLaws.{store_to-none, store_to-more}
use Rattle.model.specs.declared.Segment.{Segment}
use Rattle.model.specs.Values.{no_segment, segment_at}
use Rattle.model_effect.proofs.LengthLaws.{segments-length}
use Rattle.model_rules.proofs.RuleLaws.{model_fault-statements}
use Rattle.tables_conflict.specs.Mask.{masks_of, masks_for}
use Rattle.tables_conflict.proofs.MarkLaws.{held_below, held-few}
use Rattle.tables_conflict.proofs.MaskLaws.{front-read}
use Rattle.tables_conflict.proofs.masks_for.Goals as goal

pub loop-i-init : goal.loop-i-init
unfolding masks_for
loop-i-init c = (store_to-none _ _ _, λ k h. omega arith)

pub shared_ref_as_front-g-items : goal.shared_ref_as_front-g-items
shared_ref_as_front-g-items c =
    let few = held-few c.args.m _ c.requires in
    let size = segments-length c.args.m _ c.well_formed.0 in
    omega arith

pub masks_of-requires : goal.masks_of-requires
unfolding segment_at
masks_of-requires c =
    let x = c.args in
    let i = c.loop-i.i in
    let size = length-take x.n x.m.segments in
    let (fit, all) = held_below x.m _ i c.requires (omega arith) in
    let P : Segment → Type 0 = λ g. g.n ≤ 32 in
    subst P (sym (front-read x.n x.m.segments i _ no_segment c.loop-i-test.true)) (model_fault-statements x.m fit i (omega arith))

pub loop-i-preserved : goal.loop-i-preserved
unfolding masks_for segment_at
loop-i-preserved c =
    let x = c.args in
    let l = c.loop-i in
    let read = front-read x.n x.m.segments l.i _ no_segment c.loop-i-test.true in (
      store_to-more _ 0 _ l.i l.i _ _ l.invariant.0 (omega arith) (c.masks_of.ensures.value ∙ ap masks_of read),
      below_more _ _ l.invariant.1 (let P : Segment → Type 0 = λ g. g.n ≤ length g.statements in subst P read c.masks_of.ensures.placed),
    )
