-- The two ways out of `plain_run`.
--     plain_run-fit, plain_run-fault     a model that keeps the file rules, and one that does not
use Prim.Native.Nat.{ℕ}
use mathlib.Core.Path.{◌≡◌, refl}
use mathlib.Core.Bool.{false}
use lib.ListN.{replicate}
use borrow.Author.Tests.{eq-eqb, ne_eqb}
use Rattle.model.specs.declared.Model.{Model}
use Rattle.model.specs.declared.Variables.{Variables}
use Rattle.model.specs.declared.Threads.{Threads}
use Rattle.model.specs.Record.{no_thread}
use Rattle.model.specs.Rules.{model_fault}
use Rattle.plain.specs.Start.{fresh_variables}
use Rattle.plain.specs.Run.{plain_run}
use Rattle.plain_state.proofs.LoopLaws.{answer_of}

pub plain_run-fit : (m : Model) (budget : ℕ) → model_fault m ≡ 0 → answer_of m budget ≡ plain_run m budget
unfolding plain_run
plain_run-fit m budget e = rw (eq-eqb (model_fault m) 0 e) refl

pub plain_run-fault : (m : Model) (budget : ℕ) (v : Variables) (ts : Threads) → (model_fault m ≡ 0 → ⊥) → v.at ≡ fresh_variables → ts ≡ record { at = replicate 32 no_thread } →
    record { number = 11; variables = v; threads = ts; n = 0; spent = false } ≡ plain_run m budget
unfolding plain_run
plain_run-fault m budget v ts e p q =
    let a : v ≡ record { at = fresh_variables } = λ i. record { at = p i } in
    rw (ne_eqb (model_fault m) 0 e, a, q) refl
