-- The tests of `specs/Cycle.antt`: what each is where its times or cycles are tied and where not (for the code),
-- and that it decides the order it is named after.
use Rattle.std.proofs.Common.{◌≡◌, ◌<◌, Bool, true, false, not, T, eqb, ltb, ◌⊎◌, sym, refl, ap, subst, inl, inr, arith, eqb→eq, ltb→lt, lt→ltb, T_not, eq-eqb, ne_eqb}
use native.Mathlib.Decide.{dec_lt}
use lib.Dec.{not_T}
use Rattle.base.proofs.BoolLaws.{T-case, T→true, T→false, cond-case, and→both, both→and, eq→eqb}
use Rattle.clock.specs.declared.Cycle.{Cycle}
use Rattle.clock.specs.declared.Stamp.{Stamp}
use Rattle.clock.specs.Cycle.{is_before, is_same, is_stamp_before}
use Rattle.clock.specs.Order.{Before, ◌⊑◌, sooner, same_time}
use Rattle.clock.proofs.OrderLaws.{cycle-path, Before-trans, Before-irrefl, Three, before, same, after, Before-total, ⊑-total, Before→not-⊑}

module _ (a b : Cycle) where
  pub is_before-same : a.time.0 ≡ b.time.0 → ltb a.delta.0 b.delta.0 ≡ is_before a b
  unfolding is_before
  is_before-same h = rw (eq-eqb a.time.0 b.time.0 h) refl

  pub is_before-other : (a.time.0 ≡ b.time.0 → ⊥) → ltb a.time.0 b.time.0 ≡ is_before a b
  unfolding is_before
  is_before-other h = rw (ne_eqb a.time.0 b.time.0 h) refl

module _ (a b : Stamp) where
  pub is_stamp_before-same : is_same a.cycle b.cycle ≡ true → ltb a.thread.0 b.thread.0 ≡ is_stamp_before a b
  unfolding is_stamp_before
  is_stamp_before-same h = rw h refl

  pub is_stamp_before-other : is_same a.cycle b.cycle ≡ false → is_before a.cycle b.cycle ≡ is_stamp_before a b
  unfolding is_stamp_before
  is_stamp_before-other h = rw h refl

pub is_before→Before : (a b : Cycle) → T (is_before a b) → Before a b
unfolding is_before
is_before→Before a b =
    cond-case
    (λ (t : Bool). T t → Before a b)
    (eqb a.time.0 b.time.0)
    (λ e t. same_time (eqb→eq a.time.0 b.time.0 e) (ltb→lt a.delta.0 b.delta.0 t))
    (λ e t. sooner (ltb→lt a.time.0 b.time.0 t))

pub Before→is_before : {a b : Cycle} → Before a b → T (is_before a b)
Before→is_before {a} {b} (sooner p) = subst T (is_before-other a b (λ e. omega arith)) (lt→ltb a.time.0 b.time.0 p)
Before→is_before {a} {b} (same_time p q) = subst T (is_before-same a b p) (lt→ltb a.delta.0 b.delta.0 q)

pub not-is_before→⊑ : (a b : Cycle) → T (not (is_before a b)) → b ⊑ a
not-is_before→⊑ a b t = go (⊑-total b a)
  where
    go : (b ⊑ a) ⊎ Before a b → b ⊑ a
    go (inl h) = h
    go (inr h) = absurd (T_not (is_before a b) t (Before→is_before h))

pub ⊑→not-is_before : {a b : Cycle} → b ⊑ a → T (not (is_before a b))
⊑→not-is_before {a} {b} h = not_T (is_before a b) (λ t. Before→not-⊑ (is_before→Before a b t) h)

pub is_same→≡ : (a b : Cycle) → T (is_same a b) → a ≡ b
unfolding is_same
is_same→≡ a b t =
    let (p, q) = and→both (eqb a.time.0 b.time.0) (eqb a.delta.0 b.delta.0) t in
    cycle-path (eqb→eq a.time.0 b.time.0 p) (eqb→eq a.delta.0 b.delta.0 q)

pub ≡→is_same : {a b : Cycle} → a ≡ b → T (is_same a b)
unfolding is_same
≡→is_same {a} {b} e =
    both→and
    (eqb a.time.0 b.time.0)
    (eqb a.delta.0 b.delta.0)
    (eq→eqb a.time.0 b.time.0 (ap (λ (c : Cycle). c.time.0) e))
    (eq→eqb a.delta.0 b.delta.0 (ap (λ (c : Cycle). c.delta.0) e))

-- the order of stamps as a relation
abbrev pub StampBefore : Stamp → Stamp → Type 0
StampBefore a b = Before a.cycle b.cycle ⊎ ((a.cycle ≡ b.cycle) × (a.thread.0 < b.thread.0))

pub is_stamp_before→ : (a b : Stamp) → T (is_stamp_before a b) → StampBefore a b
is_stamp_before→ a b t = go (T-case (is_same a.cycle b.cycle))
  where
    go : T (is_same a.cycle b.cycle) ⊎ T (not (is_same a.cycle b.cycle)) → StampBefore a b
    go (inl s) =
        let u = subst T (sym (is_stamp_before-same a b (T→true (is_same a.cycle b.cycle) s))) t in
        inr (is_same→≡ a.cycle b.cycle s, ltb→lt a.thread.0 b.thread.0 u)
    go (inr s) =
        let u = subst T (sym (is_stamp_before-other a b (T→false (is_same a.cycle b.cycle) s))) t in
        inl (is_before→Before a.cycle b.cycle u)

-- cycles in order are not the same
pub Before→not-is_same : {a b : Cycle} → Before a b → T (not (is_same a b))
Before→not-is_same {a} {b} h = not_T (is_same a b) (λ t. Before-irrefl (subst (λ (x : Cycle). Before x b) (is_same→≡ a b t) h))

pub →is_stamp_before : (a b : Stamp) → StampBefore a b → T (is_stamp_before a b)
→is_stamp_before a b (inl h) =
    subst T (is_stamp_before-other a b (T→false (is_same a.cycle b.cycle) (Before→not-is_same h))) (Before→is_before h)
→is_stamp_before a b (inr (e, h)) =
    subst T (is_stamp_before-same a b (T→true (is_same a.cycle b.cycle) (≡→is_same e))) (lt→ltb a.thread.0 b.thread.0 h)

pub is_stamp_before-irrefl : (a : Stamp) → T (is_stamp_before a a) → ⊥
is_stamp_before-irrefl a t = go (is_stamp_before→ a a t)
  where
    go : StampBefore a a → ⊥
    go (inl h) = Before-irrefl h
    go (inr (e, h)) = omega arith

pub is_stamp_before-trans : (a b c : Stamp) → T (is_stamp_before a b) → T (is_stamp_before b c) → T (is_stamp_before a c)
is_stamp_before-trans a b c s t = →is_stamp_before a c (go (is_stamp_before→ a b s) (is_stamp_before→ b c t))
  where
    go : StampBefore a b → StampBefore b c → StampBefore a c
    go (inl h) (inl k) = inl (Before-trans h k)
    go (inl h) (inr (e, k)) = inl (subst (λ (x : Cycle). Before a.cycle x) e h)
    go (inr (e, h)) (inl k) = inl (subst (λ (x : Cycle). Before x c.cycle) (sym e) k)
    go (inr (e, h)) (inr (f, k)) = inr (cc, omega arith)

pub stamp-path : {a b : Stamp} → a.cycle ≡ b.cycle → a.thread.0 ≡ b.thread.0 → a ≡ b
stamp-path p q = λ i. record { cycle = p i; thread = record { 0 = q i } }

pub is_stamp_before-total : (a b : Stamp) → T (is_stamp_before a b) ⊎ ((a ≡ b) ⊎ T (is_stamp_before b a))
is_stamp_before-total a b =
    go (Before-total a.cycle b.cycle) (dec_lt a.thread.0 b.thread.0) (dec_lt b.thread.0 a.thread.0)
  where
    go :
        Three a.cycle b.cycle →
        Dec (a.thread.0 < b.thread.0) →
        Dec (b.thread.0 < a.thread.0) →
        T (is_stamp_before a b) ⊎ ((a ≡ b) ⊎ T (is_stamp_before b a))
    go (before h) _ _ = inl (→is_stamp_before a b (inl h))
    go (after h) _ _ = inr (inr (→is_stamp_before b a (inl h)))
    go (same e) (yes p) _ = inl (→is_stamp_before a b (inr (e, p)))
    go (same e) (no p) (yes q) = inr (inr (→is_stamp_before b a (inr (sym e, q))))
    go (same e) (no p) (no q) = inr (inl (stamp-path e (omega arith)))
