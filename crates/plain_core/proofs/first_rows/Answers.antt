-- `plain_core::first_rows` meets its contract.
use Prim.Native.Nat.{ℕ, ◌%◌}
use mathlib.Core.Path.{◌≡◌, refl, ap}
use native.Mathlib.Omega.{arith}
use lib.ListN.{replicate, length-set}
use Rattle.model.specs.declared.Start.{Start}
use Rattle.model.specs.Values.{start_at}
use Rattle.model_effect.proofs.LengthLaws.{starts-length}
use Rattle.model_rules.proofs.FaultLaws.{start_at-read}
use Rattle.plain_state.proofs.FillLaws.{fill_none, fill_more}
use Rattle.plain_core.proofs.first_rows.Goals as goal

pub loop-k-init : goal.loop-k-init
loop-k-init c = (refl, fill_none (λ (i x : ℕ). x ≡ (start_at c.args.m i).first % 64) (replicate 32 0))

pub loop-k-preserved : goal.loop-k-preserved
loop-k-preserved c = let at = c in
    let here = at.loop-k in
    let m = at.args.m in
    let size = here.invariant.0 in
    (simp length-set size, fill_more (λ (i x : ℕ). x ≡ (start_at m i).first % 64) here.rows here.k _ (omega arith) (ap (λ (x : Start). x.first % 64) (start_at-read m here.k _ (omega (arith, starts-length m _ at.well_formed.0)))) here.invariant.1)

pub returns : goal.returns
returns c = record { places = c.loop-k.invariant.0; first = λ k h. c.loop-k.invariant.1 k (omega arith) }
