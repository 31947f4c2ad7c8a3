-- `export_numbers::put_starts` meets its contract. The invariant: the numbers of the first k threads.
use Prim.Native.Nat.{ℕ, ◌<◌}
use mathlib.Core.Path.{◌≡◌, ap, ◌∙◌}
use mathlib.Core.List.{List}
use native.Mathlib.Omega.{arith}
use lib.ListN.{length}
use Rattle.model.specs.Values.{start_at}
use Rattle.export_model.specs.Numbers.{segment_place, start_numbers}
use Rattle.model_effect.proofs.LengthLaws.{starts-length}
use Rattle.export_numbers.proofs.IntoLaws.{start_numbers-length, joined-start, joined-put, read-start}
use Rattle.export_numbers.proofs.put_starts.Goals as goal

pub loop-k-init : goal.loop-k-init
loop-k-init c = joined-start _ _ _

pub loop-k-preserved : goal.loop-k-preserved
loop-k-preserved c =
    let m = c.args.m in
    let l = c.loop-k in
    let f : ℕ → List ℕ = λ k. start_numbers (start_at m k) in
    let each : (k : ℕ) → k < l.k → length (f k) ≡ 9 = λ k h. start_numbers-length (start_at m k) in
    c.put.ensures ∙ joined-put 9 c.args.xs.now l.xs (segment_place m.n) l.k _ f _ each l.invariant (omega (arith, c.from.ensures)) (c.start_numbers.ensures ∙ ap start_numbers (read-start m _ l.k _ (starts-length m _ c.well_formed.0) c.loop-k-test.true))
