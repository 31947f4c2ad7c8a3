-- Sums of bounds as the clock says: one sum after another, order, no advance and one delta, and the words that hold them.
use Rattle.std.proofs.Common.{◌≡◌, ℕ, zero, suc, ◌+◌, ◌^◌, ◌<◌, ◌≤◌, sym, refl, ap, ◌∙◌, add-zero, add-suc, arith}
use native.Mathlib.Decide.{dec_lt}
use Rattle.clock.specs.declared.Cycle.{Cycle}
use Rattle.clock.specs.declared.Wait.{Wait}
use Rattle.clock.specs.declared.Wait.TheVariants.{Event}
use Rattle.clock.specs.declared.Passage.TheVariants.{DeltaNotification, ZeroWait, TimedWait}
use Rattle.clock.specs.declared.Delay.{Delay}
use Rattle.clock.specs.declared.Bound.{Bound}
use Rattle.clock.specs.declared.Bound.TheVariants.{Never, At}
use Rattle.clock.specs.Cycle.{cycle_at}
use Rattle.clock.specs.Order.{◌⊑◌, ◌≼◌, sooner, same_time}
use Rattle.clock.specs.Passage.{passage_of}
use Rattle.clock.specs.Advance.{least, delta_after, plus_of, ◌⊕◌, no_advance, one_delta, advance_over, advance_of}
use Rattle.clock.proofs.OrderLaws.{cycle-path, ⊑_trans, At-same, At-not-Never, ≼_refl, ≼-antisym}
use Rattle.clock.proofs.PassageLaws.{passage-event, Passing, notified, instant, timed, passing, timed-units}
use Rattle.clock.proofs.LeastLaws.{least-left, least-right, least-glb, least-case}

-- the delta that is left

pub delta_after-none : (t d : ℕ) → t ≡ 0 → delta_after t d ≡ d
unfolding delta_after
delta_after-none zero d e = refl
delta_after-none (suc t) d e = absurd (omega arith)

pub delta_after-more : (t d : ℕ) → (t ≡ 0 → ⊥) → delta_after t d ≡ 0
unfolding delta_after
delta_after-more zero d e = absurd (e refl)
delta_after-more (suc t) d e = refl

pub delta_after-sum : (t u d : ℕ) → delta_after (t + u) d ≡ delta_after u (delta_after t d)
unfolding delta_after
delta_after-sum zero zero d = refl
delta_after-sum (suc t) zero d = rw add-zero refl
delta_after-sum t (suc u) d = rw add-suc refl

pub delta_after-plus : (u d e : ℕ) → delta_after u (d + e) ≡ delta_after u d + delta_after u e
unfolding delta_after
delta_after-plus zero d e = refl
delta_after-plus (suc u) d e = refl

pub delta_after-≤ : (t d : ℕ) → delta_after t d ≤ d
unfolding delta_after
delta_after-≤ zero d = omega arith
delta_after-≤ (suc t) d = omega arith

pub delta_after-mono : (t : ℕ) {d e : ℕ} → d ≤ e → delta_after t d ≤ delta_after t e
unfolding delta_after
delta_after-mono zero h = h
delta_after-mono (suc t) h = omega arith

-- sums of cycles

pub plus_of-assoc : (a u v : Cycle) → plus_of (plus_of a u) v ≡ plus_of a (plus_of u v)
unfolding plus_of
plus_of-assoc a u v = cycle-path (omega arith) (simp (delta_after-sum, delta_after-plus) (omega arith))

pub plus_of-mono-left : (w : Cycle) {a b : Cycle} → a ⊑ b → plus_of a w ⊑ plus_of b w
unfolding plus_of
plus_of-mono-left w (sooner p) = sooner (omega arith)
plus_of-mono-left w (same_time p q) = same_time (omega arith) (omega (arith, delta_after-mono w.time.0 q))

pub plus_of-mono-right : (a : Cycle) {u v : Cycle} → u ⊑ v → plus_of a u ⊑ plus_of a v
unfolding plus_of
plus_of-mono-right a (sooner p) = sooner (omega arith)
plus_of-mono-right a {u} {v} (same_time p q) = same_time (omega arith) (rw p (omega arith))

pub plus_of-inflate : (a w : Cycle) → a ⊑ plus_of a w
unfolding plus_of delta_after
plus_of-inflate a w = go w.time.0 w.delta.0
  where
    go : (t d : ℕ) → a ⊑ plus_of a (cycle_at t d)
    go zero d = same_time (omega arith) (omega arith)
    go (suc k) d = sooner (omega arith)

pub plus_of-inflate-right : (a w : Cycle) → w ⊑ plus_of a w
unfolding plus_of
plus_of-inflate-right a w = go (dec_lt 0 a.time.0)
  where
    go : Dec (0 < a.time.0) → w ⊑ plus_of a w
    go (yes h) = sooner (omega arith)
    go (no h) = same_time (omega arith) (omega arith)

-- sums of bounds

pub ⊕-assoc : (a b c : Bound) → (a ⊕ b) ⊕ c ≡ a ⊕ (b ⊕ c)
unfolding ◌⊕◌
⊕-assoc Never b c = refl
⊕-assoc (At a) Never c = refl
⊕-assoc (At a) (At b) Never = refl
⊕-assoc (At a) (At b) (At c) = ap At (plus_of-assoc a b c)

pub ⊕-mono : (a b c d : Bound) → a ≼ b → c ≼ d → a ⊕ c ≼ b ⊕ d
unfolding ◌⊕◌
⊕-mono a Never c d h k = tt
⊕-mono a (At b) c Never h k = tt
⊕-mono Never (At b) c (At d) h k = absurd h
⊕-mono (At a) (At b) Never (At d) h k = absurd k
⊕-mono (At a) (At b) (At c) (At d) h k = ⊑_trans (plus_of-mono-left c h) (plus_of-mono-right b k)

pub ⊕-inflate : (a d : Bound) → a ≼ a ⊕ d
unfolding ◌⊕◌
⊕-inflate Never d = tt
⊕-inflate (At a) Never = tt
⊕-inflate (At a) (At d) = plus_of-inflate a d

pub ⊕-inflate-right : (a d : Bound) → d ≼ a ⊕ d
unfolding ◌⊕◌
⊕-inflate-right Never d = tt
⊕-inflate-right (At a) Never = tt
⊕-inflate-right (At a) (At d) = plus_of-inflate-right a d

pub Never-⊕ : (d : Bound) → Never ⊕ d ≡ Never
unfolding ◌⊕◌
Never-⊕ d = refl

pub ⊕-Never : (a : Bound) → a ⊕ Never ≡ Never
unfolding ◌⊕◌
⊕-Never Never = refl
⊕-Never (At a) = refl

-- opening the sum of two cycles
pub ⊕-At : (a w : Cycle) → At a ⊕ At w ≡ At (plus_of a w)
unfolding ◌⊕◌
⊕-At a w = refl

pub no_advance-⊕ : (a : Bound) → no_advance ⊕ a ≡ a
unfolding ◌⊕◌ plus_of delta_after
no_advance-⊕ Never = refl
no_advance-⊕ (At a) = ap At (cycle-path (omega arith) (go a.time.0 a.delta.0))
  where
    go : (t d : ℕ) → delta_after t 0 + d ≡ d
    go zero d = omega arith
    go (suc t) d = omega arith

pub ⊕-no_advance : (a : Bound) → a ⊕ no_advance ≡ a
unfolding ◌⊕◌ plus_of delta_after
⊕-no_advance Never = refl
⊕-no_advance (At a) = ap At (cycle-path (omega arith) (omega arith))

pub no_advance-≼ : (b : Bound) → no_advance ≼ b
no_advance-≼ Never = tt
no_advance-≼ (At c) = go (dec_lt 0 c.time.0)
  where
    go : Dec (0 < c.time.0) → cycle_at 0 0 ⊑ c
    go (yes h) = sooner h
    go (no h) = same_time (omega arith) (omega arith)

pub ⊕-one_delta : (c : Cycle) → At c ⊕ one_delta ≡ At (cycle_at c.time.0 (c.delta.0 + 1))
unfolding ◌⊕◌ plus_of delta_after
⊕-one_delta c = ap At (cycle-path (omega arith) refl)

-- a distance over time starts the delta anew
pub ⊕-units : (c : Cycle) (k : ℕ) → (k ≡ 0 → ⊥) → At c ⊕ At (cycle_at k 0) ≡ At (cycle_at (c.time.0 + k) 0)
unfolding ◌⊕◌ plus_of
⊕-units c k other = rw (delta_after-more k c.delta.0 other) refl

pub one_delta-later : (a : Cycle) → At a ⊕ one_delta ≼ At a → ⊥
one_delta-later a h = go (rw ⊕-one_delta at h)
  where
    go : cycle_at a.time.0 (a.delta.0 + 1) ⊑ a → ⊥
    go (sooner p) = omega arith
    go (same_time p q) = omega arith

-- A sum with the least is the least of the sums: each side is not after the other.
-- The least is one of its two bounds, so the sum with it is one of the two sums; and it is not after either.
pub least-⊕ : (a b d : Bound) → least a b ⊕ d ≡ least (a ⊕ d) (b ⊕ d)
least-⊕ a b d =
    ≼-antisym
    (least a b ⊕ d)
    (least (a ⊕ d) (b ⊕ d))
    (least-glb
    (least a b ⊕ d)
    (a ⊕ d)
    (b ⊕ d)
    (⊕-mono (least a b) a d d (least-left a b) (≼_refl d))
    (⊕-mono (least a b) b d d (least-right a b) (≼_refl d)))
    (least-case (λ (x : Bound). least (a ⊕ d) (b ⊕ d) ≼ x ⊕ d) a b (least-left (a ⊕ d) (b ⊕ d)) (least-right (a ⊕ d) (b ⊕ d)))

pub ⊕-least : (a b c : Bound) → a ⊕ least b c ≡ least (a ⊕ b) (a ⊕ c)
⊕-least a b c =
    ≼-antisym
    (a ⊕ least b c)
    (least (a ⊕ b) (a ⊕ c))
    (least-glb
    (a ⊕ least b c)
    (a ⊕ b)
    (a ⊕ c)
    (⊕-mono a a (least b c) b (≼_refl a) (least-left b c))
    (⊕-mono a a (least b c) c (≼_refl a) (least-right b c)))
    (least-case (λ (x : Bound). least (a ⊕ b) (a ⊕ c) ≼ a ⊕ x) b c (least-left (a ⊕ b) (a ⊕ c)) (least-right (a ⊕ b) (a ⊕ c)))

-- what a wait advances, by its passage

pub advance-delta-notification : (w : Wait) → passage_of w ≡ DeltaNotification → advance_of w ≡ one_delta
unfolding advance_of advance_over
advance-delta-notification w e = rw e refl

pub advance-zero-wait : (w : Wait) → passage_of w ≡ ZeroWait → advance_of w ≡ one_delta
unfolding advance_of advance_over
advance-zero-wait w e = rw e refl

pub advance-timed-wait : (w : Wait) (k : Delay) → passage_of w ≡ TimedWait k → advance_of w ≡ At (cycle_at k.0 0)
unfolding advance_of advance_over
advance-timed-wait w k e = rw e refl

pub advance_of-Event : advance_of Event ≡ one_delta
advance_of-Event = advance-delta-notification Event passage-event

-- a wait advances at most one delta
pub advance_of-delta : (w : Wait) {c : Cycle} → advance_of w ≡ At c → c.delta.0 ≤ 1
advance_of-delta w {c} e = go (passing w)
  where
    by : (d : Cycle) → advance_of w ≡ At d → d.delta.0 ≤ 1 → c.delta.0 ≤ 1
    by d f h = rw (← At-same (sym f ∙ e)) h

    go : Passing w → c.delta.0 ≤ 1
    go (notified p) = by (cycle_at 0 1) (advance-delta-notification w p) (omega arith)
    go (instant p) = by (cycle_at 0 1) (advance-zero-wait w p) (omega arith)
    go (timed k h p) = by (cycle_at k.0 0) (advance-timed-wait w k p) (omega arith)

-- a sum over a wait, by its passage: "the delta of a sum is not cut at 1,023"

pub sum-delta-notification : (w : Wait) → passage_of w ≡ DeltaNotification → (c : Cycle) → At c ⊕ advance_of w ≡ At (cycle_at c.time.0 (c.delta.0 + 1))
sum-delta-notification w e c = rw (advance-delta-notification w e) (⊕-one_delta c)

pub sum-zero-wait : (w : Wait) → passage_of w ≡ ZeroWait → (c : Cycle) → At c ⊕ advance_of w ≡ At (cycle_at c.time.0 (c.delta.0 + 1))
sum-zero-wait w e c = rw (advance-zero-wait w e) (⊕-one_delta c)

pub sum-timed-wait : (w : Wait) (k : Delay) → passage_of w ≡ TimedWait k → (c : Cycle) → At c ⊕ advance_of w ≡ At (cycle_at (c.time.0 + k.0) 0)
sum-timed-wait w k e c = let u = timed-units w k e in rw (advance-timed-wait w k e) (⊕-units c k.0 (λ z. omega arith))

-- the parts of a sum that is not never
pub ⊕-parts : (a b : Bound) {c : Cycle} → a ⊕ b ≡ At c → (x : Cycle) × (y : Cycle) × (a ≡ At x) × (b ≡ At y) × (plus_of x y ≡ c)
unfolding ◌⊕◌
⊕-parts Never b e = absurd (At-not-Never (sym e))
⊕-parts (At x) Never e = absurd (At-not-Never (sym e))
⊕-parts (At x) (At y) e = (x, y, refl, refl, At-same e)

-- what a bound's words hold: a time below 2 ^ 64, a delta below 2 ^ 32
abbrev pub SmallBound : Bound → Type 0
SmallBound Never = Unit {0}
SmallBound (At c) = (c.time.0 < 2 ^ 64) × (c.delta.0 < 2 ^ 32)
