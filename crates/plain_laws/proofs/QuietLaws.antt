-- A stretch of the plain run in which nothing happens to a thread: its record and its history stay as they are.
--     Quiet     from place n up to place j
--     quiet_none, quiet-more     no step; one idle step more
use Prim.Native.Nat.{ℕ, suc, ◌<◌, ◌≤◌}
use mathlib.Core.Path.{◌≡◌, refl, ap}
use mathlib.Core.List.{[], append-nil}
use native.Mathlib.Omega.{arith}
use native.Mathlib.Decide.{ℕ_discrete}
use Rattle.model.specs.declared.Model.{Model}
use Rattle.plain.specs.Step.{stepped, place_at}
use Rattle.plain.specs.History.{items_at, history_at}
use Rattle.plain_laws.proofs.StepLaws.{record_of, place_at-more}
use Rattle.plain_laws.proofs.HappenLaws.{Runs, Hears, history_at-more}

-- nothing happens to thread k from place n up to place j
pub record Quiet (m : Model) (k n j : ℕ) : Type 0 where
  pub forth : n ≤ j
  pub still : (q : ℕ) → n ≤ q → q ≤ j → record_of (place_at m q) k ≡ record_of (place_at m n) k
  pub not_run : (q : ℕ) → n ≤ q → q < j → Runs m (place_at m q) k → ⊥
  pub not_heard : (q e : ℕ) → n ≤ q → q < j → Hears m (place_at m q) k e → ⊥
  pub same_history : history_at m k j ≡ history_at m k n

module _ (m : Model) (k n : ℕ) where
  pub quiet_none : Quiet m k n n
  quiet_none =
      record {
        forth = omega arith;
        still = λ q a b. let e : q ≡ n = omega arith in ap (λ (x : ℕ). record_of (place_at m x) k) e;
        not_run = λ q a b r. absurd (omega arith);
        not_heard = λ q e a b h. absurd (omega arith);
        same_history = refl;
      }

  -- one idle step more
  pub quiet-more : (j : ℕ) → Quiet m k n j → record_of (stepped m (place_at m j)) k ≡ record_of (place_at m j) k → (Runs m (place_at m j) k → ⊥)
      → ((e : ℕ) → Hears m (place_at m j) k e → ⊥) → items_at m (place_at m j) k ≡ [] → Quiet m k n (suc j)
  quiet-more j g s r h i =
      record {
        forth = omega (arith, g.forth);
        still = λ q a b. still q a b (ℕ_discrete q (suc j));
        not_run = λ q a b x. not_run q a b x (ℕ_discrete q j);
        not_heard = λ q e a b x. not_heard q e a b x (ℕ_discrete q j);
        same_history = rw (history_at-more m k j, i, append-nil) g.same_history;
      }
    where
      last : record_of (place_at m (suc j)) k ≡ record_of (place_at m n) k
      last = rw (place_at-more m j, s) (g.still j g.forth (omega arith))

      still : (q : ℕ) → n ≤ q → q ≤ suc j → Dec (q ≡ suc j) → record_of (place_at m q) k ≡ record_of (place_at m n) k
      still q a b (yes e) = rw e last
      still q a b (no e) = g.still q a (omega arith)

      not_run : (q : ℕ) → n ≤ q → q < suc j → Runs m (place_at m q) k → Dec (q ≡ j) → ⊥
      not_run q a b x (yes e) = r (rw e at x)
      not_run q a b x (no e) = g.not_run q a (omega arith) x

      not_heard : (q e : ℕ) → n ≤ q → q < suc j → Hears m (place_at m q) k e → Dec (q ≡ j) → ⊥
      not_heard q e a b x (yes f) = h e (rw f at x)
      not_heard q e a b x (no f) = g.not_heard q e a (omega arith) x
