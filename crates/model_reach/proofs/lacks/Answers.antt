-- `model_reach::lacks` meets its contract. The invariant: the first s segments have their names and their first rows.
use mathlib.Core.Path.{ap, ◌∙◌}
use native.Mathlib.Omega.{arith}
use lib.ListN.{length-take}
use lib.Seq.{get_or-take}
use Rattle.base.proofs.IndexLaws.{store_to-none, store_to-more}
use Rattle.model.specs.declared.Segment.{Segment}
use Rattle.model_reach.specs.Store.{ports_of, ports_to, first_row, first_rows}
use Rattle.model_reach.proofs.ReadLaws.{segments-length, segment_at-read}
use Rattle.model_reach.proofs.StoreLaws.{lacks-holds}
use Rattle.model_reach.proofs.lacks.Goals as goal

pub loop-s-init : goal.loop-s-init
unfolding ports_to first_rows
loop-s-init c = (store_to-none _ _ _, store_to-none _ _ _)

pub loop-s-preserved : goal.loop-s-preserved
unfolding ports_to first_rows
loop-s-preserved c =
    let m = c.args.m in
    let n = c.min-n.result in
    let l = c.loop-s in
    let size = segments-length m _ c.well_formed.0 in
    let few = length-take n m.segments in (
      store_to-more _ 0 _ l.s l.s _ _ l.invariant.0 (omega arith)
          (c.ports_of.ensures ∙ ap ports_of (get_or-take n m.segments l.s _ (omega arith) ∙ segment_at-read m l.s _ (omega arith))),
      store_to-more _ 0 _ l.s l.s _ _ l.invariant.1 (omega arith)
          (c.first_row.ensures ∙ ap (λ (x : Segment). first_row x.closer l.s) (get_or-take n m.segments l.s _ (omega arith) ∙ segment_at-read m l.s _ (omega arith))),
    )

pub returns : goal.returns
returns c =
    let m = c.args.m in
    let n = c.min-n.result in
    let l = c.loop-s in
    let size = segments-length m _ c.well_formed.0 in
    lacks-holds m _ _ _ n l.s (rw c.from.ensures at c.min-n.ensures) (omega (arith, length-take n m.segments)) l.invariant.0 l.invariant.1 c.lacks_by.ensures
