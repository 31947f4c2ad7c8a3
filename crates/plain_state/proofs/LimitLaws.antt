-- The limit: a cycle is not later than the horizon exactly where its number is below it.
use Prim.Native.Nat.{◌+◌, ◌*◌, ◌<◌, ◌≤◌}
use mathlib.Core.Path.{◌≡◌}
use native.Mathlib.Omega.{arith}
use lib.Dec.{T}
use Rattle.clock.specs.declared.Cycle.{Cycle}
use Rattle.model.specs.declared.Model.{Model}
use Rattle.model.specs.Limits.{largest_time, is_up_to_horizon}
use Rattle.model.specs.Rules.{model_fault}
use Rattle.model_rules.proofs.RuleLaws.{model_fault-horizon}
use Rattle.plain_laws.proofs.RecordLaws.{horizon→<, <→horizon}
use Rattle.plain_state.specs.Words.{key_of, limit_of}

module _ (m : Model) (c : Cycle) where
  pub horizon→limit : T (is_up_to_horizon m c) → c.delta.0 ≤ 1023 → key_of c < limit_of m
  horizon→limit t d = let h = horizon→< m c t in omega arith

  pub limit→horizon : key_of c < limit_of m → T (is_up_to_horizon m c)
  limit→horizon h = <→horizon m c (omega arith)

pub limit-small : (m : Model) → model_fault m ≡ 0 → limit_of m ≤ 1024 * (largest_time + 1)
limit-small m fit = omega (arith, (model_fault-horizon m fit).1)
