-- The orders of cycles and of bounds: strict, not after, and how the two mix.
use Rattle.std.proofs.Common.{◌≡◌, ℕ, ◌<◌, ◌⊎◌, refl, ap, subst, inl, inr, arith}
use native.Mathlib.Decide.{dec_lt}
use Rattle.clock.specs.declared.Cycle.{Cycle}
use Rattle.clock.specs.declared.Bound.{Bound}
use Rattle.clock.specs.declared.Bound.TheVariants.{Never, At}
use Rattle.clock.specs.Order.{Before, ◌⊑◌, ◌≼◌, sooner, same_time}

pub cycle-path : {a b : Cycle} → a.time.0 ≡ b.time.0 → a.delta.0 ≡ b.delta.0 → a ≡ b
cycle-path p q = λ i. record { time = record { 0 = p i }; delta = record { 0 = q i } }

pub Before-trans : {a b c : Cycle} → Before a b → Before b c → Before a c
Before-trans (sooner p) (sooner q) = sooner (omega arith)
Before-trans (sooner p) (same_time q r) = sooner (omega arith)
Before-trans (same_time p r) (sooner q) = sooner (omega arith)
Before-trans (same_time p r) (same_time q s) = same_time (omega arith) (omega arith)

pub Before-irrefl : {a : Cycle} → Before a a → ⊥
Before-irrefl (sooner p) = omega arith
Before-irrefl (same_time p r) = omega arith

-- two cycles are in one of three orders
pub data Three (a b : Cycle) : Type 0 where
  before : Before a b → Three a b
  same : a ≡ b → Three a b
  after : Before b a → Three a b

pub Before-total : (a b : Cycle) → Three a b
Before-total a b =
    go
    (dec_lt a.time.0 b.time.0)
    (dec_lt b.time.0 a.time.0)
    (dec_lt a.delta.0 b.delta.0)
    (dec_lt b.delta.0 a.delta.0)
  where
    go : Dec (a.time.0 < b.time.0) → Dec (b.time.0 < a.time.0) → Dec (a.delta.0 < b.delta.0) → Dec (b.delta.0 < a.delta.0) → Three a b
    go (yes p) _ _ _ = before (sooner p)
    go (no p) (yes q) _ _ = after (sooner q)
    go (no p) (no q) (yes r) _ = before (same_time (omega arith) r)
    go (no p) (no q) (no r) (yes s) = after (same_time (omega arith) s)
    go (no p) (no q) (no r) (no s) = same (cycle-path (omega arith) (omega arith))

pub Before→⊑ : {a b : Cycle} → Before a b → a ⊑ b
Before→⊑ (sooner p) = sooner p
Before→⊑ (same_time p q) = same_time p (omega arith)

pub ⊑_refl : {a : Cycle} → a ⊑ a
⊑_refl = same_time refl (omega arith)

pub ⊑_trans : {a b c : Cycle} → a ⊑ b → b ⊑ c → a ⊑ c
⊑_trans (sooner p) (sooner q) = sooner (omega arith)
⊑_trans (sooner p) (same_time q r) = sooner (omega arith)
⊑_trans (same_time p r) (sooner q) = sooner (omega arith)
⊑_trans (same_time p r) (same_time q s) = same_time (omega arith) (omega arith)

pub ⊑-antisym : {a b : Cycle} → a ⊑ b → b ⊑ a → a ≡ b
⊑-antisym (sooner p) (sooner q) = absurd (omega arith)
⊑-antisym (sooner p) (same_time q r) = absurd (omega arith)
⊑-antisym (same_time p r) (sooner q) = absurd (omega arith)
⊑-antisym (same_time p r) (same_time q s) = cycle-path (omega arith) (omega arith)

-- equal cycles are not after each other
pub ≡→⊑ : {a b : Cycle} → a ≡ b → a ⊑ b
≡→⊑ {a} e = subst (λ (x : Cycle). a ⊑ x) e ⊑_refl

pub ⊑-total : (a b : Cycle) → (a ⊑ b) ⊎ Before b a
⊑-total a b = go (Before-total a b)
  where
    go : Three a b → (a ⊑ b) ⊎ Before b a
    go (before h) = inl (Before→⊑ h)
    go (same e) = inl (≡→⊑ e)
    go (after h) = inr h

pub Before-⊑-trans : {a b c : Cycle} → Before a b → b ⊑ c → Before a c
Before-⊑-trans (sooner p) (sooner q) = sooner (omega arith)
Before-⊑-trans (sooner p) (same_time q r) = sooner (omega arith)
Before-⊑-trans (same_time p r) (sooner q) = sooner (omega arith)
Before-⊑-trans (same_time p r) (same_time q s) = same_time (omega arith) (omega arith)

pub ⊑-Before-trans : {a b c : Cycle} → a ⊑ b → Before b c → Before a c
⊑-Before-trans (sooner p) (sooner q) = sooner (omega arith)
⊑-Before-trans (sooner p) (same_time q r) = sooner (omega arith)
⊑-Before-trans (same_time p r) (sooner q) = sooner (omega arith)
⊑-Before-trans (same_time p r) (same_time q s) = same_time (omega arith) (omega arith)

pub Before→not-⊑ : {a b : Cycle} → Before a b → b ⊑ a → ⊥
Before→not-⊑ p q = Before-irrefl (Before-⊑-trans p q)

pub ⊑-strict : {a b : Cycle} → a ⊑ b → (a ≡ b → ⊥) → Before a b
⊑-strict {a} {b} h other = go (Before-total a b)
  where
    go : Three a b → Before a b
    go (before p) = p
    go (same e) = absurd (other e)
    go (after p) = absurd (Before→not-⊑ p h)

pub At-same : {a b : Cycle} → At a ≡ At b → a ≡ b
At-same e = cc

pub At-not-Never : {c : Cycle} → At c ≡ Never → ⊥
At-not-Never e = let z : ◌≡◌ {A = ℕ} 0 1 = cc in omega arith

pub ≼_refl : (a : Bound) → a ≼ a
≼_refl Never = tt
≼_refl (At a) = ⊑_refl

pub ≼_trans : (a b c : Bound) → a ≼ b → b ≼ c → a ≼ c
≼_trans a b Never p q = tt
≼_trans a Never (At c) p q = absurd q
≼_trans Never (At b) (At c) p q = absurd p
≼_trans (At a) (At b) (At c) p q = ⊑_trans p q

pub ≼-antisym : (a b : Bound) → a ≼ b → b ≼ a → a ≡ b
≼-antisym Never Never p q = refl
≼-antisym Never (At b) p q = absurd p
≼-antisym (At a) Never p q = absurd q
≼-antisym (At a) (At b) p q = ap At (⊑-antisym p q)

pub ≼-total : (a b : Bound) → (a ≼ b) ⊎ (b ≼ a)
≼-total a Never = inl tt
≼-total Never (At b) = inr tt
≼-total (At a) (At b) = go (⊑-total a b)
  where
    go : (a ⊑ b) ⊎ Before b a → (a ⊑ b) ⊎ (b ⊑ a)
    go (inl h) = inl h
    go (inr h) = inr (Before→⊑ h)
