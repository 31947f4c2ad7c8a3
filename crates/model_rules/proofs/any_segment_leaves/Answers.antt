-- `model_rules::any_segment_leaves` meets its contract.
use mathlib.Core.Path.{◌≡◌, sym, ap, ◌∙◌}
use native.Mathlib.Omega.{arith}
use lib.ListN.{length}
use borrow.Author.Count.{below_more}
use Rattle.model.specs.Rules.{leaves_model}
use Rattle.model_rules.proofs.FaultLaws.{closer-taken, segment_leaves-here, segment_leaves-end}
use Rattle.model_rules.proofs.any_segment_leaves.Goals as goal

pub returns-then-leaves_model : goal.returns-then-leaves_model
returns-then-leaves_model c m e f =
    let i = c.loop-g.g-index in
    segment_leaves-here m c.args.segments.now e i (omega (arith, f))
    (rw f (ap (leaves_model c.args.n) (closer-taken _ _ i _ c.loop-g-test.true) ∙ (sym c.leaves_model.ensures ∙ c.if-leaves_model.true)))

pub loop-g-preserved : goal.loop-g-preserved
loop-g-preserved c =
    below_more _ _ c.loop-g.invariant
    (ap (leaves_model c.args.n) (closer-taken _ _ c.loop-g.g-index _ c.loop-g-test.true) ∙ (sym c.leaves_model.ensures ∙ c.if-leaves_model.false))

pub returns : goal.returns
returns c m e f =
    let s : length c.args.segments.now ≡ 64 = omega arith in
    segment_leaves-end m c.args.segments.now e c.loop-g.g-index (omega (arith, f)) (rw f c.loop-g.invariant)
