-- The invariant: none of the threads so far starts outside the model.
use Prim.Native.Nat.{ℕ, ◌<◌}
use mathlib.Core.Path.{◌≡◌}
use mathlib.Core.Bool.{false}
use Rattle.model_rules.proofs.FaultLaws.{start_leaves}
use Rattle.model_rules.proofs.any_start_leaves.Given as goal

abbrev pub invariant-loop-x : goal.invariant-loop-x
invariant-loop-x l = (i : ℕ) → i < l.x-index → start_leaves l.m i ≡ false
