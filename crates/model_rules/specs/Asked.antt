-- The faults of a held model but for 18, and what is known of a model once it has none of them.
use Rattle.std.specs.Prelude.{ℕ, ◌≤◌, ◌<◌, List}
use Rattle.base.specs.Index.{or_else}
use Rattle.model.specs.declared.Model.{Model}
use Rattle.model.specs.Values.{start_at}
use Rattle.model.specs.Rules.{head_fault, segments_fault, counts_fault, targets_fault}
use Rattle.model_reach.specs.Lacks.{HoldsLacks}

-- the first fault in file order, but for 18
unfoldable pub parts_fault : Model → ℕ
parts_fault m = or_else (head_fault m.horizon.0 m.v m.e) (or_else (segments_fault m) (or_else (counts_fault m) (targets_fault m)))

-- words that say what the threads of m lack, where its counts are in range and its first segments below N
pub record Linked (m : Model) (ws : List ℕ) : Type 0 where
  pub holds : HoldsLacks m ws
  pub segments : m.n ≤ 64
  pub threads : m.t ≤ 32
  pub first : (k : ℕ) → k < m.t → (start_at m k).first < m.n
