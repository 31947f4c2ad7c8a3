-- `export_hold::segment_held` meets its contract. The invariant: the first j statements stand in their places.
use mathlib.Core.Path.{◌≡◌, refl, ◌∙◌}
use native.Mathlib.Omega.{arith}
use Rattle.export_model.specs.Numbers.{statements_held}
use Rattle.export_hold.proofs.HeldLaws.{held-statements, held-name}
use Rattle.export_hold.proofs.FillLaws.{segment_to-none, segment_to-more, segment_to-all}
use Rattle.export_hold.proofs.segment_held.Goals as goal

pub overflow_cast-g : goal.overflow_cast-g
overflow_cast-g c = omega (arith, held-statements c.args.xs.now c.requires.1 c.args.i c.requires.2)

pub loop-j-init : goal.loop-j-init
loop-j-init c = (
  held-statements c.args.xs.now c.requires.1 c.args.i c.requires.2,
  segment_to-none c.args.xs.now c.args.i _ _ c.closer_held.ensures refl,
)

pub op_held-op-requires : goal.op_held-op-requires
op_held-op-requires c = held-name c.args.xs.now c.requires.1 c.args.i c.requires.2 c.loop-j.j c.loop-j-test.true

pub loop-j-preserved : goal.loop-j-preserved
loop-j-preserved c =
    let l = c.loop-j in (
      l.invariant.0,
      segment_to-more c.args.xs.now c.args.i l.j _ l.g (omega (arith, l.invariant.0)) l.invariant.1 c.op_held-op.ensures,
    )

pub returns : goal.returns
returns c =
    let l = c.loop-j in
    let e : l.j ≡ statements_held c.args.xs.now c.args.i = omega arith in
    rw e at l.invariant.1 ∙ segment_to-all c.args.xs.now c.args.i
