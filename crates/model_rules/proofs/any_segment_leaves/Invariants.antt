-- The invariant: none of the segments so far leaves the model.
use Prim.Native.Nat.{ℕ, ◌<◌}
use mathlib.Core.Path.{◌≡◌}
use mathlib.Core.Bool.{false}
use lib.ListN.{get_or}
use Rattle.model.specs.Values.{no_segment}
use Rattle.model.specs.Rules.{leaves_model}
use Rattle.model_rules.proofs.any_segment_leaves.Given as goal

abbrev pub invariant-loop-g : goal.invariant-loop-g
invariant-loop-g l = (i : ℕ) → i < l.g-index → leaves_model l.n (get_or l.segments i no_segment).closer ≡ false
