-- The invariant: none of the first k threads lacks a port.
use Prim.Native.Nat.{ℕ, ◌<◌}
use mathlib.Core.Bool.{false}
use mathlib.Core.List.{List}
use mathlib.Core.Path.{◌≡◌}
use Rattle.model.specs.declared.Model.{Model}
use Rattle.model.specs.declared.Start.{Start}
use Rattle.model_rules.specs.Asked.{Linked}
use Rattle.model_rules.proofs.FaultLaws.{start_lacks}
use Rattle.model_rules.proofs.lack_in.Given as goal

-- of each model that the contract speaks of
abbrev pub Held : List Start → ℕ → List ℕ → (Model → Type 0) → Type 0
Held starts t ws A = (m : Model) → m.starts ≡ starts → m.t ≡ t → Linked m ws → A m

abbrev pub invariant-loop-k : goal.invariant-loop-k
invariant-loop-k l = Held l.starts l.t l.lacking (λ m. (i : ℕ) → i < l.k → start_lacks m i ≡ false)
