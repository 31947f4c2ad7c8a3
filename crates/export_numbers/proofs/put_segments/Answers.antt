-- `export_numbers::put_segments` meets its contract. The invariant: the numbers of the first i segments.
use Prim.Native.Nat.{ℕ, ◌<◌}
use mathlib.Core.Path.{◌≡◌, refl, ap, ◌∙◌}
use mathlib.Core.List.{List}
use native.Mathlib.Omega.{arith}
use lib.ListN.{length}
use Rattle.model.specs.Values.{segment_at}
use Rattle.export_model.specs.Numbers.{segment_numbers}
use Rattle.model_effect.proofs.LengthLaws.{segments-length}
use Rattle.export_numbers.proofs.IntoLaws.{joined-start, joined-put, read-segment, read-statements, segments-each}
use Rattle.export_numbers.proofs.put_segments.Goals as goal

pub loop-i-init : goal.loop-i-init
loop-i-init c = joined-start _ 5 _

pub segment_numbers-requires : goal.segment_numbers-requires
segment_numbers-requires c =
    let m = c.args.m in
    let r = read-segment m _ c.loop-i.i _ c.from.ensures (segments-length m _ c.well_formed.0) c.loop-i-test.true in
    read-statements m c.requires.0 c.loop-i.i _ r.0 r.1

pub loop-i-preserved : goal.loop-i-preserved
loop-i-preserved c =
    let m = c.args.m in
    let l = c.loop-i in
    let r = read-segment m _ l.i _ c.from.ensures (segments-length m _ c.well_formed.0) c.loop-i-test.true in
    let f : ℕ → List ℕ = λ k. segment_numbers (segment_at m k) in
    let each : (k : ℕ) → k < l.i → length (f k) ≡ 104 = λ k h. segments-each m c.requires.0 k (let below : l.i < m.n = r.0 in omega arith) in
    c.put.ensures ∙ joined-put 104 c.args.xs.now l.xs 5 l.i _ f _ each l.invariant refl (c.segment_numbers.ensures ∙ ap segment_numbers r.1)
