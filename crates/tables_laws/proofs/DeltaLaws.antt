-- A least advance has a small delta: its path has a place for each count of deltas on the way, no two the same, and there are only so many.
use Prim.Native.Nat.{ℕ, zero, suc, ◌+◌, ◌≤◌, ◌<◌}
use mathlib.Core.Path.{◌≡◌, refl, ap, sym, ◌∙◌, subst}
use mathlib.Core.Logic.{◌⊎◌, inl, inr}
use native.Mathlib.Omega.{arith}
use native.Mathlib.Decide.{dec_le, dec_lt}
use Rattle.base.proofs.PigeonLaws.{pigeon}
use Rattle.clock.specs.declared.Cycle.{Cycle}
use Rattle.clock.specs.declared.Bound.{Bound}
use Rattle.clock.specs.declared.Bound.TheVariants.{Never, At}
use Rattle.clock.specs.Cycle.{cycle_at}
use Rattle.clock.specs.Order.{◌⊑◌, ◌≼◌, sooner, same_time}
use Rattle.clock.specs.Advance.{delta_after, plus_of, ◌⊕◌, no_advance}
use Rattle.clock.proofs.OrderLaws.{cycle-path, At-same, At-not-Never}
use Rattle.clock.proofs.AdvanceLaws.{⊕-assoc, ⊕-no_advance, no_advance-⊕, ⊕-parts}
use Rattle.tables_laws.proofs.PathLaws.{Via, none, last, over, Via-join, least_via, least_via-below, least_via-path}

-- a step over time alone, or one delta
pub data IsStep (c : Cycle) : Type 0 where
  time_step : c.delta.0 ≡ 0 → IsStep c
  delta_step : c.time.0 ≡ 0 → c.delta.0 ≡ 1 → IsStep c

-- what is added in front of y counts in the delta only if y takes no time
data Kept (x y : Cycle) : Type 0 where
  kept : y.time.0 ≡ 0 → (plus_of x y).time.0 ≡ x.time.0 → (plus_of x y).delta.0 ≡ x.delta.0 + y.delta.0 → Kept x y
  lost : (plus_of x y).delta.0 ≡ y.delta.0 → Kept x y

plus_of-kept : (x y : Cycle) → Kept x y
unfolding plus_of delta_after
plus_of-kept x y = go y.time.0 y.delta.0
  where
    go : (t d : ℕ) → Kept x (cycle_at t d)
    go zero d = kept refl (omega arith) refl
    go (suc t) d = lost (omega arith)

-- every step of the graph is one of these
abbrev pub StepsOnly : (ℕ → ℕ → Bound) → Type 0
StepsOnly E = (r s : ℕ) (c : Cycle) → E r s ≡ At c → IsStep c

-- the place v on a path from r to s of advance c, over places below k, from which i deltas are left
record Left (E : ℕ → ℕ → Bound) (k r s : ℕ) (c : Cycle) (i v : ℕ) : Type 0 where
  place : (v < k) ⊎ (v ≡ r)
  rest : Via E k v s (At (cycle_at 0 i))
  front : Bound
  to : Via E k r v front
  whole : front ⊕ At (cycle_at 0 i) ≡ At c

-- all of the path is left
Left-all : {E : ℕ → ℕ → Bound} {k r s : ℕ} {w : Bound} {c : Cycle} {i : ℕ} → Via E k r s w → w ≡ At c → c ≡ cycle_at 0 i → Left E k r s c i r
Left-all {E} {k} {r} {s} {w} {c} {i} p e f =
    record { place = inr refl; rest = subst (λ (b : Bound). Via E k r s b) (e ∙ ap At f) p; front = no_advance; to = none; whole = no_advance-⊕ (At (cycle_at 0 i)) ∙ ap At (sym f) }

-- a step in front
Left-over :
    {E : ℕ → ℕ → Bound} {k r m s : ℕ} {w : Bound} {c y : Cycle} {i v : ℕ} →
    m < k → E r m ⊕ w ≡ At c → w ≡ At y → Left E k m s y i v → Left E k r s c i v
Left-over {E} {k} {r} {m} {s} {w} {c} {y} {i} {v} h e f l =
    record {
      place = go l.place;
      rest = l.rest;
      front = E r m ⊕ l.front;
      to = over h l.to;
      whole = ⊕-assoc (E r m) l.front (At (cycle_at 0 i)) ∙ (ap (λ (b : Bound). E r m ⊕ b) (l.whole ∙ sym f) ∙ e);
    }
  where
    go : (v < k) ⊎ (v ≡ m) → (v < k) ⊎ (v ≡ r)
    go (inl p) = inl p
    go (inr p) = inl (omega arith)

-- the more deltas after b, the later
later : (b : Bound) {c : Cycle} (i j : ℕ) → i < j → b ⊕ At (cycle_at 0 j) ≡ At c → At c ≼ b ⊕ At (cycle_at 0 i) → ⊥
unfolding ◌⊕◌ plus_of delta_after
later Never i j h e l = At-not-Never (sym e)
later (At x) i j h e l = go (subst (λ (y : Cycle). y ⊑ plus_of x (cycle_at 0 i)) (sym (At-same e)) l)
  where
    go : plus_of x (cycle_at 0 j) ⊑ plus_of x (cycle_at 0 i) → ⊥
    go (sooner p) = omega arith
    go (same_time p q) = omega arith

module _ (E : ℕ → ℕ → Bound) (steps : StepsOnly E) (k : ℕ) where
  -- By induction on the path: i deltas are left on the rest of it, or the first step is the last that counts.
  left : {r s : ℕ} {w : Bound} {c : Cycle} → Via E k r s w → w ≡ At c → (i : ℕ) → 1 ≤ i → i ≤ c.delta.0 → (v : ℕ) × Left E k r s c i v
  left {c = c} none e i h l = absurd (let z : 0 ≡ c.delta.0 = ap (λ (x : Cycle). x.delta.0) (At-same e) in omega arith)
  left {c = c} (last {r = r} {s = s}) e i h l = go (steps r s c e)
    where
      go : IsStep c → (v : ℕ) × Left E k r s c i v
      go (time_step z) = absurd (omega arith)
      go (delta_step y z) = (r, Left-all last e (cycle-path y (omega arith)))
  left {c = c} (over {r = r} {s = m} {t = s} {w = w} below p) e i h l =
      let (x, y, f, g, q) = ⊕-parts (E r m) w e in
      go x y g q (λ b. left p g i h b) (dec_le i y.delta.0) (plus_of-kept x y) (steps r m x f)
    where
      go :
          (x y : Cycle) → w ≡ At y → plus_of x y ≡ c → (i ≤ y.delta.0 → (v : ℕ) × Left E k m s y i v) →
          Dec (i ≤ y.delta.0) → Kept x y → IsStep x → (v : ℕ) × Left E k r s c i v
      go x y g q ih (yes b) _ _ = let (v, a) = ih b in (v, Left-over below e g a)
      go x y g q ih (no b) (lost z) _ = absurd (let d = ap (λ (u : Cycle). u.delta.0) q in omega arith)
      go x y g q ih (no b) (kept _ _ z) (time_step u) = absurd (let d = ap (λ (u : Cycle). u.delta.0) q in omega arith)
      go x y g q ih (no b) (kept _ a z) (delta_step t u) =
          let d = ap (λ (u : Cycle). u.delta.0) q in
          let j = ap (λ (u : Cycle). u.time.0) q in
          (r, Left-all (over below p) e (cycle-path (omega arith) (omega arith)))

  module _ (r s : ℕ) {c : Cycle} (e : least_via E k r s ≡ At c) where
    path : Via E k r s (least_via E k r s)
    path = go (least_via-path E k r s)
      where
        go : (least_via E k r s ≡ Never) ⊎ Via E k r s (least_via E k r s) → Via E k r s (least_via E k r s)
        go (inl f) = absurd (At-not-Never (sym e ∙ f))
        go (inr p) = p

    -- a place for each count of deltas; any, where there are not so many
    placed : (i : ℕ) → (v : ℕ) × (1 ≤ i → i ≤ c.delta.0 → Left E k r s c i v)
    placed i = go (dec_le 1 i) (dec_le i c.delta.0)
      where
        go : Dec (1 ≤ i) → Dec (i ≤ c.delta.0) → (v : ℕ) × (1 ≤ i → i ≤ c.delta.0 → Left E k r s c i v)
        go (yes h) (yes l) = let (v, a) = left path e i h l in (v, λ _ _. a)
        go (no h) _ = (0, λ h' _. absurd (h h'))
        go (yes _) (no l) = (0, λ _ l'. absurd (l l'))

    -- from one place, not both i deltas and more
    apart : {v i j : ℕ} → i < j → v < k → Left E k r s c i v → Left E k r s c j v → ⊥
    apart {v} {i} {j} h below a b =
        later b.front i j h b.whole (rw e at (least_via-below E k (Via-join E below b.to a.rest)))

    -- with fewer deltas left than in all the place is not the first
    inner : {v i : ℕ} → i < c.delta.0 → Left E k r s c i v → v < k
    inner {v} {i} h a = go a.place
      where
        own : c ⊑ cycle_at 0 i → ⊥
        own (sooner p) = omega arith
        own (same_time p q) = omega arith

        go : (v < k) ⊎ (v ≡ r) → v < k
        go (inl p) = p
        go (inr p) = absurd (own (rw e at (least_via-below E k (rw p at a.rest))))

    -- in each round at most one more than the places between
    pub least_via-delta : c.delta.0 ≤ suc k
    least_via-delta = go (dec_le c.delta.0 (suc k))
      where
        found : suc k < c.delta.0 → (i : ℕ) → i < suc k → Left E k r s c (suc i) (placed (suc i)).0
        found h i l = (placed (suc i)).1 (omega arith) (omega arith)

        go : Dec (c.delta.0 ≤ suc k) → c.delta.0 ≤ suc k
        go (yes h) = h
        go (no h) =
            let h' : suc k < c.delta.0 = omega arith in
            let (i, j, l, b, f) = pigeon k (λ i. (placed (suc i)).0) (λ i l. inner (omega arith) (found h' i l)) in
            absurd (apart (omega arith) (inner (omega arith) (found h' i (omega arith))) (found h' i (omega arith)) (rw (← f) at (found h' j b)))

    -- at last fewer than there are places
    pub least_via-delta-last : r < k → s < k → c.delta.0 < k
    least_via-delta-last rk sk = go (dec_lt c.delta.0 k)
      where
        at : (i : ℕ) → (v : ℕ) × (i ≤ c.delta.0 → Left E k r s c i v)
        at zero = (s, λ _. record { place = inl sk; rest = none; front = At c; to = rw e at path; whole = ⊕-no_advance (At c) })
        at (suc i) = ((placed (suc i)).0, λ l. (placed (suc i)).1 (omega arith) l)

        below : {i v : ℕ} → Left E k r s c i v → v < k
        below {i} {v} a = case a.place
          where
            case : (v < k) ⊎ (v ≡ r) → v < k
            case (inl p) = p
            case (inr p) = omega arith

        go : Dec (c.delta.0 < k) → c.delta.0 < k
        go (yes h) = h
        go (no h) =
            let (i, j, l, b, f) = pigeon k (λ i. (at i).0) (λ i l. below ((at i).1 (omega arith))) in
            absurd (apart l (below ((at i).1 (omega arith))) ((at i).1 (omega arith)) (rw (← f) at ((at j).1 (omega arith))))
