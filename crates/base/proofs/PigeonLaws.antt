-- Of more than n numbers below n two are equal. Used wherever something is counted: the segments on a shortest path, the
-- threads on a chain of earliest, the pairs of the log at one cycle.
use Prim.Native.Nat.{ℕ, zero, suc, ◌<◌, ◌≤◌, ◌-◌}
use mathlib.Core.Path.{◌≡◌, refl}
use mathlib.Core.Logic.{◌⊎◌, inl, inr}
use mathlib.Core.Bool.{cond}
use native.Mathlib.Omega.{arith}
use native.Mathlib.Decide.{ℕ_discrete}
use lib.Dec.{ltb, ltb→lt, nltb→le}
use Rattle.base.proofs.BoolLaws.{cond-case}
use Rattle.base.proofs.IndexLaws.{find-below}

-- numbers other than x, with the gap at x closed
squeeze : ℕ → ℕ → ℕ
squeeze x a = cond (ltb a x) a (a - 1)

-- a is on one side of x, and what it is squeezed to
abbrev Squeezed : ℕ → ℕ → ℕ → Type 0
Squeezed x a y = ((a < x) × (y ≡ a)) ⊎ ((x < a) × (suc y ≡ a))

squeeze-either : (x a : ℕ) → (a ≡ x → ⊥) → Squeezed x a (squeeze x a)
unfolding squeeze
squeeze-either x a other =
    cond-case (λ y. Squeezed x a y) (ltb a x) (λ t. inl (ltb→lt a x t, refl)) (λ t. above (nltb→le a x t))
  where
    above : x ≤ a → Squeezed x a (a - 1)
    above h = inr (omega arith)

squeeze-below : (n x a : ℕ) → (a ≡ x → ⊥) → a < suc n → x < suc n → squeeze x a < n
squeeze-below n x a other h k = go (squeeze-either x a other)
  where
    go : Squeezed x a (squeeze x a) → squeeze x a < n
    go (inl (p, q)) = omega arith
    go (inr (p, q)) = omega arith

squeeze-same : (x a b : ℕ) → (a ≡ x → ⊥) → (b ≡ x → ⊥) → squeeze x a ≡ squeeze x b → a ≡ b
squeeze-same x a b p q e = go (squeeze-either x a p) (squeeze-either x b q)
  where
    go : Squeezed x a (squeeze x a) → Squeezed x b (squeeze x b) → a ≡ b
    go (inl (f, g)) (inl (h, k)) = omega arith
    go (inl (f, g)) (inr (h, k)) = omega arith
    go (inr (f, g)) (inl (h, k)) = omega arith
    go (inr (f, g)) (inr (h, k)) = omega arith

-- f has the same value at two places below n
abbrev pub Twice : ℕ → (ℕ → ℕ) → Type 0
Twice n f = (i : ℕ) × (j : ℕ) × (i < j) × (j < n) × (f i ≡ f j)

-- By induction: if the last value occurs before, that is it; else the values before it, with the gap closed, are fewer by one.
pub pigeon : (n : ℕ) (f : ℕ → ℕ) → ((i : ℕ) → i < suc n → f i < n) → Twice (suc n) f
pigeon zero f below = let h = below 0 (omega arith) in absurd (omega arith)
pigeon (suc n) f below =
    go
    (find-below (suc n) (λ i. f i ≡ f (suc n)) (λ i. ℕ_discrete (f i) (f (suc n))))
    (λ b. pigeon n (λ i. squeeze (f (suc n)) (f i)) b)
  where
    go :
        ((i : ℕ) × (i < suc n) × (f i ≡ f (suc n))) ⊎ ((i : ℕ) → i < suc n → f i ≡ f (suc n) → ⊥) →
        (((i : ℕ) → i < suc n → squeeze (f (suc n)) (f i) < n) → Twice (suc n) (λ i. squeeze (f (suc n)) (f i))) →
        Twice (suc (suc n)) f
    go (inl (i, h, e)) ih = (i, suc n, h, omega arith, e)
    go (inr none) ih =
        let (i, j, h, k, e) =
        ih (λ i h. squeeze-below n (f (suc n)) (f i) (none i h) (below i (omega arith)) (below (suc n) (omega arith)))
        in
        (i, j, h, omega arith, squeeze-same (f (suc n)) (f i) (f j) (none i (omega arith)) (none j k) e)
