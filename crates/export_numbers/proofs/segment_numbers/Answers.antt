-- `export_numbers::segment_numbers` meets its contract. The invariant: the closer, n and the first j statements, and 0 past them.
use Prim.Native.Nat.{◌<◌}
use mathlib.Core.Path.{refl, ap, ◌∙◌}
use native.Mathlib.Omega.{arith}
use lib.ListN.{replicate}
use lib.Seq.{get_or-take, length-take-le}
use Rattle.model.specs.declared.Statement.{Statement}
use Rattle.model_effect.proofs.LengthLaws.{statements-length}
use Rattle.export_model.specs.Numbers.{op_numbers}
use Rattle.export_numbers.proofs.IntoLaws.{front_to-none, front_to-more, front_to-all}
use Rattle.export_numbers.proofs.segment_numbers.Goals as goal

pub loop-j-init : goal.loop-j-init
loop-j-init c = front_to-none c.args.g (replicate 104 0) _ _ _ c.closer_numbers.ensures c.from.ensures c.put.ensures

pub loop-j-preserved : goal.loop-j-preserved
loop-j-preserved c =
    let g = c.args.g in
    let j = c.loop-j.j in
    let size = statements-length g _ c.well_formed.0 in
    let below : j < c.from-2.result = omega (arith, length-take-le {A = Statement}, c.loop-j-test, c.requires) in
    let read = c.op_numbers.ensures ∙ ap (λ (x : Statement). op_numbers x.op) (get_or-take c.from-2.result g.statements j _ below) in
    c.put-in-loop-j.ensures ∙ front_to-more g (replicate 104 0) c.loop-j.numbers j _ _ read refl c.loop-j.invariant

pub returns : goal.returns
returns c = front_to-all c.args.g c.loop-j.j c.loop-j.numbers c.requires
    (let size = statements-length c.args.g _ c.well_formed.0 in omega (arith, length-take-le {A = Statement}, c.requires))
    c.loop-j.invariant
