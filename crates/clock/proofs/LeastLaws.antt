-- The test on bounds decides `≼`; the least of two bounds, and of finitely many, is their greatest lower bound.
use Rattle.std.proofs.Common.{◌≡◌, ℕ, zero, suc, ◌<◌, true, false, not, T, ◌⊎◌, refl, ◌∙◌, ap₂, inl, inr, arith}
use native.Mathlib.Decide.{ℕ_discrete}
use Rattle.base.proofs.BoolLaws.{cond-case}
use Rattle.clock.specs.declared.Cycle.{Cycle}
use Rattle.clock.specs.declared.Bound.{Bound}
use Rattle.clock.specs.declared.Bound.TheVariants.{Never, At}
use Rattle.clock.specs.Cycle.{is_before}
use Rattle.clock.specs.Order.{◌≼◌}
use Rattle.clock.specs.Advance.{is_bound_before, least, least_below}
use Rattle.clock.proofs.OrderLaws.{Before→⊑, Before→not-⊑, At-not-Never, ≼_refl, ≼_trans, ≼-antisym}
use Rattle.clock.proofs.CycleLaws.{is_before→Before, not-is_before→⊑, ⊑→not-is_before}

-- two cycles compare as bounds as they compare
pub is_bound_before-At : {a b : Bound} {x y : Cycle} → a ≡ At x → b ≡ At y → is_before x y ≡ is_bound_before a b
unfolding is_bound_before
is_bound_before-At e f = rw (e, f) refl

pub is_bound_before→ : (a b : Bound) → T (is_bound_before a b) → b ≼ a → ⊥
unfolding is_bound_before
is_bound_before→ Never b t h = t
is_bound_before→ (At a) Never t h = h
is_bound_before→ (At a) (At b) t h = Before→not-⊑ (is_before→Before a b t) h

pub is_bound_before→≼ : (a b : Bound) → T (is_bound_before a b) → a ≼ b
unfolding is_bound_before
is_bound_before→≼ Never b t = absurd t
is_bound_before→≼ (At a) Never t = tt
is_bound_before→≼ (At a) (At b) t = Before→⊑ (is_before→Before a b t)

pub not-is_bound_before→≼ : (a b : Bound) → T (not (is_bound_before a b)) → b ≼ a
unfolding is_bound_before
not-is_bound_before→≼ Never b t = tt
not-is_bound_before→≼ (At a) Never t = absurd t
not-is_bound_before→≼ (At a) (At b) t = not-is_before→⊑ a b t

pub ≼→not-is_bound_before : (a b : Bound) → b ≼ a → T (not (is_bound_before a b))
unfolding is_bound_before
≼→not-is_bound_before Never b h = tt
≼→not-is_bound_before (At a) Never h = absurd h
≼→not-is_bound_before (At a) (At b) h = ⊑→not-is_before h

module _ (a b : Bound) where
  -- for the code: b where it is before a, else a
  pub least-before : is_bound_before b a ≡ true → b ≡ least a b
  unfolding least
  least-before e = rw e refl

  pub least_other : is_bound_before b a ≡ false → a ≡ least a b
  unfolding least
  least_other e = rw e refl

  pub least-left : least a b ≼ a
  unfolding least
  least-left = cond-case (λ (x : Bound). x ≼ a) (is_bound_before b a) (λ t. is_bound_before→≼ b a t) (λ t. ≼_refl a)

  pub least-right : least a b ≼ b
  unfolding least
  least-right = cond-case (λ (x : Bound). x ≼ b) (is_bound_before b a) (λ t. ≼_refl b) (λ t. not-is_bound_before→≼ b a t)

  pub least-one : (least a b ≡ a) ⊎ (least a b ≡ b)
  unfolding least
  least-one = cond-case (λ (x : Bound). (x ≡ a) ⊎ (x ≡ b)) (is_bound_before b a) (λ t. inr refl) (λ t. inl refl)

-- what holds of both bounds holds of their least
pub least-case : (Q : Bound → Type 0) (a b : Bound) → Q a → Q b → Q (least a b)
unfolding least
least-case Q a b p q = cond-case Q (is_bound_before b a) (λ t. q) (λ t. p)

pub least-glb : (x a b : Bound) → x ≼ a → x ≼ b → x ≼ least a b
least-glb x a b p q = least-case (λ (y : Bound). x ≼ y) a b p q

pub least-Never-left : (b : Bound) → least Never b ≡ b
least-Never-left b = ≼-antisym (least Never b) b (least-right Never b) (least-glb b Never b tt (≼_refl b))

pub least-Never-right : (a : Bound) → least a Never ≡ a
least-Never-right a = ≼-antisym (least a Never) a (least-left a Never) (least-glb a a Never (≼_refl a) tt)

-- what is below all that P holds of, and is never or one of these, is one only
module _ (P : Bound → Type 0) where
  attained-≼ : (a b : Bound) → ((x : Bound) → P x → a ≼ x) → ((b ≡ Never → ⊥) → P b) → a ≼ b
  attained-≼ a Never below attained = tt
  attained-≼ a (At c) below attained = below (At c) (attained (λ e. At-not-Never e))

  pub attained-same : (a b : Bound) → ((x : Bound) → P x → a ≼ x) → ((a ≡ Never → ⊥) → P a) → ((x : Bound) → P x → b ≼ x) → ((b ≡ Never → ⊥) → P b) → a ≡ b
  attained-same a b f p g q = ≼-antisym a b (attained-≼ a b f q) (attained-≼ b a g p)

pub least_below-none : (f : ℕ → Bound) → least_below 0 f ≡ Never
unfolding least_below
least_below-none f = refl

pub least_below-more : (n : ℕ) (f : ℕ → Bound) → least_below (suc n) f ≡ least (least_below n f) (f n)
unfolding least_below
least_below-more n f = refl

pub least_below-≼ : (n : ℕ) (f : ℕ → Bound) (i : ℕ) → i < n → least_below n f ≼ f i
unfolding least_below
least_below-≼ zero f i h = absurd (omega arith)
least_below-≼ (suc n) f i h = go (λ k. least_below-≼ n f i k) (ℕ_discrete i n)
  where
    go : (i < n → least_below n f ≼ f i) → Dec (i ≡ n) → least (least_below n f) (f n) ≼ f i
    go ih (yes e) = rw e (least-right (least_below n f) (f n))
    go ih (no e) =
        ≼_trans (least (least_below n f) (f n)) (least_below n f) (f i) (least-left (least_below n f) (f n)) (ih (omega arith))

pub least_below-one : (n : ℕ) (f : ℕ → Bound) → (least_below n f ≡ Never) ⊎ ((i : ℕ) × (i < n) × (least_below n f ≡ f i))
unfolding least_below
least_below-one zero f = inl refl
least_below-one (suc n) f = go (least_below-one n f) (least-one (least_below n f) (f n))
  where
    go :
        (least_below n f ≡ Never) ⊎ ((i : ℕ) × (i < n) × (least_below n f ≡ f i)) →
        (least (least_below n f) (f n) ≡ least_below n f) ⊎ (least (least_below n f) (f n) ≡ f n) →
        (least (least_below n f) (f n) ≡ Never) ⊎ ((i : ℕ) × (i < suc n) × (least (least_below n f) (f n) ≡ f i))
    go r (inr e) = inr (n, omega arith, e)
    go (inl d) (inl e) = inl (e ∙ d)
    go (inr (i, h, d)) (inl e) = inr (i, omega arith, e ∙ d)

pub least_below-glb : (x : Bound) (n : ℕ) (f : ℕ → Bound) → ((i : ℕ) → i < n → x ≼ f i) → x ≼ least_below n f
unfolding least_below
least_below-glb x zero f h = tt
least_below-glb x (suc n) f h =
    least-glb x (least_below n f) (f n) (least_below-glb x n f (λ i k. h i (omega arith))) (h n (omega arith))

pub least_below-same : (n : ℕ) (f g : ℕ → Bound) → ((i : ℕ) → i < n → f i ≡ g i) → least_below n f ≡ least_below n g
unfolding least_below
least_below-same zero f g h = refl
least_below-same (suc n) f g h = ap₂ least (least_below-same n f g (λ i k. h i (omega arith))) (h n (omega arith))
