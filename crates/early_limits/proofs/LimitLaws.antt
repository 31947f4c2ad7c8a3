-- A limit says what its bound says: the order, the least, the raise, the sum and one delta, for times below 2 ^ 44 and deltas below 65,536. A fit word and a cycle come to
-- the limits of their bounds.
use Prim.Native.Nat.{ℕ, zero, suc, ◌+◌, ◌*◌, ◌<◌, ◌≤◌, ◌/◌}
use mathlib.Core.Path.{◌≡◌, refl, ap, ap₂, sym, ◌∙◌}
use mathlib.Core.Logic.{◌⊎◌, inl, inr}
use mathlib.Core.Bool.{Bool, true, false, cond, not, ◌&&◌, ◌||◌}
use native.Mathlib.Omega.{arith}
use native.Mathlib.Decide.{ℕ_discrete, dec_lt}
use lib.Dec.{T, ltb, T_not}
use borrow.Author.Tests.{lt-ltb, le-ltb, eq-eqb, ne_eqb}
use Rattle.base.proofs.BoolLaws.{T-case, T→true, T→false}
use Rattle.clock.specs.declared.Cycle.{Cycle}
use Rattle.clock.specs.declared.Delay.{Delay}
use Rattle.clock.specs.declared.Wait.{Wait}
use Rattle.clock.specs.declared.Passage.TheVariants.{DeltaNotification, ZeroWait, TimedWait}
use Rattle.clock.specs.declared.Step.TheVariants.{Ready}
use Rattle.clock.specs.declared.Bound.{Bound}
use Rattle.clock.specs.declared.Bound.TheVariants.{Never, At}
use Rattle.clock.specs.Cycle.{stamp_at, is_before, is_same}
use Rattle.clock.specs.Passage.{passage_of}
use Rattle.clock.specs.Wait.{wait_ends}
use Rattle.clock.specs.Advance.{is_bound_before, least, least_below, plus_of, ◌⊕◌, one_delta, advance_of}
use Rattle.clock.proofs.OrderLaws.{cycle-path}
use Rattle.clock.proofs.CycleLaws.{is_before-same, is_before-other, is_same→≡, ≡→is_same, is_stamp_before-same, is_stamp_before-other}
use Rattle.clock.proofs.AdvanceLaws.{delta_after-none, delta_after-more, advance-delta-notification, advance-zero-wait, advance-timed-wait}
use Rattle.clock.proofs.WaitLaws.{wait_ends-advance}
use Rattle.model.specs.Limits.{cut_time}
use Rattle.tables.specs.Word.{all_ones, bound_of}
use Rattle.early.specs.Earliest.{raised}
use Rattle.early.specs.Hazard.{is_sooner}
use Rattle.early.specs.Fit.{is_fit_word}
use Rattle.early_laws.proofs.FitLaws.{FitWord, is_fit_word→}
use Rattle.early_laws.proofs.RangeLaws.{Within, within_more, within-least_below}
use Rattle.early_limits.specs.Limit.{unit, top, limit_of, limit_of_cycle, limit_of_word, lesser, lesser_below, sum_of, raised_limit, is_sooner_limit}

-- a bound that a limit holds: a time below 2 ^ 44, a delta below 65,536
abbrev pub Limited : Bound → Type 0
Limited b = Within 17592186044416 65535 b

pub within-limited : (t d : ℕ) (b : Bound) → t ≤ 17592186044416 → d ≤ 65535 → Within t d b → Limited b
within-limited t d b p q w = within_more t d 17592186044416 65535 b (omega arith) (omega arith) w

-- the order

-- two comparisons that hold together
ltb-both : (a b c d : ℕ) → (a < b → c < d) → (c < d → a < b) → ltb a b ≡ ltb c d
ltb-both a b c d f g = go (dec_lt a b)
  where
    go : Dec (a < b) → ltb a b ≡ ltb c d
    go (yes h) = lt-ltb a b h ∙ sym (lt-ltb c d (f h))
    go (no h) = le-ltb a b (omega arith) ∙ sym (le-ltb c d (above (λ k. h (g k))))
      where
        above : (c < d → ⊥) → d ≤ c
        above n = omega arith

pub limit_of-before : (a b : Bound) → Limited a → Limited b → ltb (limit_of a) (limit_of b) ≡ is_bound_before a b
unfolding limit_of is_bound_before
limit_of-before Never Never p q = refl
limit_of-before Never (At b) p q = le-ltb all_ones (b.time.0 * unit + b.delta.0) (omega arith)
limit_of-before (At a) Never p q = lt-ltb (a.time.0 * unit + a.delta.0) all_ones (omega arith)
limit_of-before (At a) (At b) p q = go (ℕ_discrete a.time.0 b.time.0)
  where
    x : ℕ
    x = a.time.0 * unit + a.delta.0

    y : ℕ
    y = b.time.0 * unit + b.delta.0

    go : Dec (a.time.0 ≡ b.time.0) → ltb x y ≡ is_before a b
    go (yes e) = ltb-both x y a.delta.0 b.delta.0 (λ h. omega arith) (λ h. omega arith) ∙ is_before-same a b e
    go (no e) = ltb-both x y a.time.0 b.time.0 (λ h. omega arith) (λ h. omega arith) ∙ is_before-other a b e

-- limits are equal where their bounds are
pub limit_of-same : (a b : Bound) → Limited a → Limited b → limit_of a ≡ limit_of b → a ≡ b
unfolding limit_of
limit_of-same Never Never p q e = refl
limit_of-same Never (At b) p q e = absurd (omega arith)
limit_of-same (At a) Never p q e = absurd (omega arith)
limit_of-same (At a) (At b) p q e = ap At (cycle-path (omega arith) (omega arith))

-- the least

pub limit_of-cond : (t : Bool) (a b : Bound) → limit_of (cond t a b) ≡ cond t (limit_of a) (limit_of b)
limit_of-cond true a b = refl
limit_of-cond false a b = refl

pub limit_of-least : (a b : Bound) → Limited a → Limited b → limit_of (least a b) ≡ lesser (limit_of a) (limit_of b)
unfolding least lesser
limit_of-least a b p q =
    limit_of-cond (is_bound_before b a) b a ∙ ap (λ (t : Bool). cond t (limit_of b) (limit_of a)) (sym (limit_of-before b a q p))

-- what are limits one by one has the limit of the least for its least
pub limit_of-below : (n : ℕ) (f : ℕ → Bound) (g : ℕ → ℕ) → ((i : ℕ) → i < n → Limited (f i)) → ((i : ℕ) → i < n → g i ≡ limit_of (f i))
    → lesser_below n g ≡ limit_of (least_below n f)
unfolding limit_of least_below lesser_below
limit_of-below zero f g all same = refl
limit_of-below (suc n) f g all same =
    ap₂ lesser (limit_of-below n f g (λ i h. all i (omega arith)) (λ i h. same i (omega arith))) (same n (omega arith))
    ∙ sym (limit_of-least (least_below n f) (f n) (within-least_below 17592186044416 65535 n f (λ i h. all i (omega arith))) (all n (omega arith)))

-- raised to the limit of the cycle in which a wait began
pub limit_of-raised : (since : Cycle) (x : Bound) → Limited (At since) → Limited x → limit_of (raised since x) ≡ raised_limit (limit_of (At since)) (limit_of x)
unfolding raised raised_limit
limit_of-raised since x p q =
    limit_of-cond (is_bound_before x (At since)) (At since) x ∙ ap (λ (t : Bool). cond t (limit_of (At since)) (limit_of x)) (sym (limit_of-before x (At since) q p))

-- the sum

sum_of-small : (a d : ℕ) → a < top → d < unit → sum_of a d ≡ a + d
unfolding sum_of
sum_of-small a d p q = rw (lt-ltb a top p, lt-ltb d top (omega arith), lt-ltb d unit q) refl

sum_of-large : (a d : ℕ) → a < top → d < top → unit ≤ d → sum_of a d ≡ a / unit * unit + d
unfolding sum_of
sum_of-large a d p q r = rw (lt-ltb a top p, lt-ltb d top q, le-ltb d unit r) refl

sum_of-never : (a d : ℕ) → (top ≤ a) ⊎ (top ≤ d) → sum_of a d ≡ all_ones
unfolding sum_of
sum_of-never a d (inl h) = rw (le-ltb a top h) refl
sum_of-never a d (inr h) = go (ltb a top)
  where
    go : (t : Bool) → cond (t && ltb d top) (cond (ltb d unit) (a + d) (a / unit * unit + d)) all_ones ≡ all_ones
    go true = rw (le-ltb d top h) refl
    go false = refl

pub limit_of-⊕ : (a b : Bound) → Limited a → Limited b → limit_of (a ⊕ b) ≡ sum_of (limit_of a) (limit_of b)
unfolding limit_of ◌⊕◌ plus_of
limit_of-⊕ Never b p q = sym (sum_of-never all_ones (limit_of b) (inl (omega arith)))
limit_of-⊕ (At a) Never p q = sym (sum_of-never (limit_of (At a)) all_ones (inr (omega arith)))
limit_of-⊕ (At a) (At b) p q = go (ℕ_discrete b.time.0 0)
  where
    x : ℕ
    x = a.time.0 * unit + a.delta.0

    y : ℕ
    y = b.time.0 * unit + b.delta.0

    go : Dec (b.time.0 ≡ 0) → limit_of (At (plus_of a b)) ≡ sum_of x y
    go (yes e) =
        let left = delta_after-none b.time.0 a.delta.0 e in
        let sum = sum_of-small x y (omega arith) (omega arith) in
        omega arith
    go (no e) =
        let left = delta_after-more b.time.0 a.delta.0 e in
        let sum = sum_of-large x y (omega arith) (omega arith) (omega arith) in
        omega arith

-- A limit is stepped by the cases of the clock.
module _ (w : Wait) where
  pub limit-delta-notification : passage_of w ≡ DeltaNotification → limit_of (advance_of w) ≡ 1
  unfolding limit_of
  limit-delta-notification e = rw (advance-delta-notification w e) refl

  pub limit-zero-wait : passage_of w ≡ ZeroWait → limit_of (advance_of w) ≡ 1
  unfolding limit_of
  limit-zero-wait e = rw (advance-zero-wait w e) refl

  pub limit-timed-wait : (k : Delay) → passage_of w ≡ TimedWait k → limit_of (advance_of w) ≡ k.0 * unit
  unfolding limit_of
  limit-timed-wait k e = rw (advance-timed-wait w k e) (omega arith)

  -- where a wait begun at c ends ready at d, its limit on top of that of c is that of d
  pub limit-step : (c d : Cycle) → wait_ends w c ≡ Ready d → Limited (At c) → Limited (advance_of w) → sum_of (limit_of (At c)) (limit_of (advance_of w)) ≡ limit_of (At d)
  limit-step c d e p q = sym (limit_of-⊕ (At c) (advance_of w) p q) ∙ ap limit_of (wait_ends-advance w c e)

-- a thread is woken one delta after the notification
pub limit_of-one_delta : (a : Bound) → Limited a → limit_of (a ⊕ one_delta) ≡ sum_of (limit_of a) 1
unfolding limit_of
limit_of-one_delta a p = limit_of-⊕ a one_delta p (omega arith)

-- stamps

or-false : (t : Bool) → (t || false) ≡ t
or-false true = refl
or-false false = refl

pub limit_of-sooner : (b : Bound) (j : ℕ) (c : Cycle) (i : ℕ) → Limited b → Limited (At c) → is_sooner_limit (limit_of b) j (limit_of (At c)) i ≡ is_sooner b j (stamp_at c i)
unfolding is_sooner is_sooner_limit is_bound_before
limit_of-sooner Never j c i p q =
    rw (limit_of-before Never (At c) p q, ne_eqb (limit_of Never) (limit_of (At c)) other) refl
  where
    other : limit_of Never ≡ limit_of (At c) → ⊥
    other e = let z = limit_of-same Never (At c) p q e in let y : ◌≡◌ {A = ℕ} 0 1 = cc in omega arith
limit_of-sooner (At b) j c i p q = go (T-case (is_same b c))
  where
    x : ℕ
    x = limit_of (At b)

    y : ℕ
    y = limit_of (At c)

    go : T (is_same b c) ⊎ T (not (is_same b c)) → is_sooner_limit x j y i ≡ is_sooner (At b) j (stamp_at c i)
    go (inl s) =
        let e : x ≡ y = ap (λ (d : Cycle). limit_of (At d)) (is_same→≡ b c s) in
        rw (le-ltb x y (omega arith), eq-eqb x y e) (is_stamp_before-same (stamp_at b j) (stamp_at c i) (T→true (is_same b c) s))
    go (inr s) =
        let other : x ≡ y → ⊥ = λ e. T_not (is_same b c) s (≡→is_same (let z = limit_of-same (At b) (At c) p q e in cc)) in
        rw
        (ne_eqb x y other, or-false (ltb x y), limit_of-before (At b) (At c) p q)
        (is_stamp_before-other (stamp_at b j) (stamp_at c i) (T→false (is_same b c) s))

-- words and cycles

pub limit_of_word-is : (w : ℕ) → T (is_fit_word w) → limit_of_word w ≡ limit_of (bound_of w)
unfolding limit_of limit_of_word bound_of
limit_of_word-is w f = go (is_fit_word→ w f)
  where
    go : FitWord w → limit_of_word w ≡ limit_of (bound_of w)
    go (inl e) = rw e refl
    go (inr h) = rw (lt-ltb (w / 1024) cut_time h, ne_eqb w all_ones (λ e. omega arith)) refl

pub limit_of_cycle-is : (c : Cycle) → c.time.0 < 70368744177664 → limit_of_cycle c ≡ limit_of (At c)
unfolding limit_of limit_of_cycle
limit_of_cycle-is c h = rw (lt-ltb c.time.0 70368744177664 h) refl
