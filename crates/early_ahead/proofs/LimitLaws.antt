-- The exits of the functions on limits, and what a sum and a least keep.
--     sum_of-more     a sum is no sooner than its first part
--     is_sooner_limit-kept     what is not sooner stays so when it grows
--     lesser-never, lesser-again, lesser_below-most, lesser_below-past     never and repeats do not count in a least
use Prim.Native.Nat.{ℕ, zero, suc, min, max, ◌+◌, ◌*◌, ◌/◌, ◌%◌, ◌≤◌, ◌<◌}
use mathlib.Core.Path.{◌≡◌, refl, ap, sym, ◌∙◌}
use mathlib.Core.Bool.{false, ◌&&◌, or-false}
use native.Mathlib.Omega.{arith}
use native.Mathlib.Decide.{ℕ_discrete}
use native.Mathlib.Nat.{mul-le-mul}
use lib.Dec.{ltb, ltb→lt, nltb→le}
use borrow.Author.Tests.{lt-ltb, le-ltb, eq-eqb, ne_eqb, ltb-false}
use Rattle.base.proofs.BoolLaws.{cond-case}
use Rattle.clock.specs.declared.Cycle.{Cycle}
use Rattle.model.specs.Limits.{cut_time}
use Rattle.tables.specs.Word.{all_ones}
use Rattle.early_limits.specs.Limit.{limit_of_cycle, limit_of_word, lesser, lesser_below, sum_of, raised_limit, is_sooner_limit, at_most, top, unit}

module _ (k x : ℕ) where
  pub at_most-less : x < k → x ≡ at_most k x
  unfolding at_most
  at_most-less h = rw (lt-ltb x k h) refl

  pub at_most-full : k ≤ x → k ≡ at_most k x
  unfolding at_most
  at_most-full h = rw (le-ltb x k h) refl

  pub at_most-min : min x k ≡ at_most k x
  unfolding at_most
  at_most-min = cond-case (λ (z : ℕ). min x k ≡ z) (ltb x k) (λ t. omega (arith, ltb→lt x k t)) (λ t. omega (arith, nltb→le x k t))

  pub at_most-≤ : (at_most k x ≤ k) × (at_most k x ≤ x)
  unfolding at_most
  at_most-≤ =
      cond-case (λ (z : ℕ). (z ≤ k) × (z ≤ x)) (ltb x k)
      (λ t. (omega (arith, ltb→lt x k t), omega arith))
      (λ t. (omega arith, omega (arith, nltb→le x k t)))

  -- below k, what is below x is below the lesser of both
  pub at_most-below : (i : ℕ) → i < k → i < x → i < at_most k x
  unfolding at_most
  at_most-below i h l = cond-case (λ (z : ℕ). i < z) (ltb x k) (λ t. l) (λ t. h)

module _ (since x : ℕ) where
  pub raised_limit-max : max x since ≡ raised_limit since x
  unfolding raised_limit
  raised_limit-max = cond-case (λ (z : ℕ). max x since ≡ z) (ltb x since) (λ t. omega (arith, ltb→lt x since t)) (λ t. omega (arith, nltb→le x since t))

module _ (c : Cycle) where
  pub limit_of_cycle-never : 70368744177664 ≤ c.time.0 → all_ones ≡ limit_of_cycle c
  unfolding limit_of_cycle
  limit_of_cycle-never h = rw (le-ltb c.time.0 70368744177664 h) refl

  pub limit_of_cycle-at : (d : ℕ) → c.time.0 < 70368744177664 → d ≡ c.delta.0 → c.time.0 * 65536 + d ≡ limit_of_cycle c
  unfolding limit_of_cycle
  limit_of_cycle-at d h e = rw (lt-ltb c.time.0 70368744177664 h) (ap (λ (z : ℕ). c.time.0 * 65536 + z) e)

module _ (w : ℕ) where
  pub limit_of_word-never : cut_time ≤ w / 1024 → all_ones ≡ limit_of_word w
  unfolding limit_of_word
  limit_of_word-never h = rw (le-ltb (w / 1024) cut_time h) refl

  pub limit_of_word-at : w / 1024 < cut_time → w / 1024 * 65536 + w % 1024 ≡ limit_of_word w
  unfolding limit_of_word
  limit_of_word-at h = rw (lt-ltb (w / 1024) cut_time h) refl

module _ (a b : ℕ) where
  pub lesser-first : a ≤ b → a ≡ lesser a b
  unfolding lesser
  lesser-first h = rw (le-ltb b a h) refl

  pub lesser-min : min a b ≡ lesser a b
  unfolding lesser
  lesser-min = cond-case (λ (z : ℕ). min a b ≡ z) (ltb b a) (λ t. omega (arith, ltb→lt b a t)) (λ t. omega (arith, nltb→le b a t))

  pub lesser-≤ : lesser a b ≤ a
  unfolding lesser
  lesser-≤ = cond-case (λ (z : ℕ). z ≤ a) (ltb b a) (λ t. omega (arith, ltb→lt b a t)) (λ t. omega arith)

  lesser-≤-second : lesser a b ≤ b
  unfolding lesser
  lesser-≤-second = cond-case (λ (z : ℕ). z ≤ b) (ltb b a) (λ t. omega arith) (λ t. nltb→le b a t)

pub lesser-again : (a b : ℕ) → lesser (lesser a b) b ≡ lesser a b
lesser-again a b = sym (lesser-first (lesser a b) b (lesser-≤-second a b))

pub lesser-never : (a : ℕ) → a ≤ all_ones → lesser a all_ones ≡ a
lesser-never a h = sym (lesser-first a all_ones h)

module _ (f : ℕ → ℕ) where
  pub lesser_below-most : (n : ℕ) → lesser_below n f ≤ all_ones
  unfolding lesser_below
  lesser_below-most zero = omega arith
  lesser_below-most (suc n) = omega (arith, lesser-≤ (lesser_below n f) (f n), lesser_below-most n)

  pub lesser_below-past : (j n : ℕ) → j ≤ n → ((i : ℕ) → j ≤ i → f i ≡ all_ones) → lesser_below n f ≡ lesser_below j f
  unfolding lesser_below
  lesser_below-past j zero h past = let e : j ≡ 0 = omega arith in rw e refl
  lesser_below-past j (suc n) h past = go (λ l. lesser_below-past j n l past) (ℕ_discrete j (suc n))
    where
      go : (j ≤ n → lesser_below n f ≡ lesser_below j f) → Dec (j ≡ suc n) → lesser (lesser_below n f) (f n) ≡ lesser_below j f
      go ih (yes e) = rw e refl
      go ih (no e) = let l : j ≤ n = omega arith in rw (past n l) (lesser-never (lesser_below n f) (lesser_below-most n) ∙ ih l)

module _ (a d : ℕ) where
  pub sum_of-late : top ≤ a → all_ones ≡ sum_of a d
  unfolding sum_of
  sum_of-late h = rw (le-ltb a top h) refl

  pub sum_of-far : a < top → top ≤ d → all_ones ≡ sum_of a d
  unfolding sum_of
  sum_of-far h l = rw (lt-ltb a top h, le-ltb d top l) refl

  pub sum_of-deltas : a < top → d < unit → a + d ≡ sum_of a d
  unfolding sum_of
  sum_of-deltas h l = rw (lt-ltb a top h, lt-ltb d top (omega arith), lt-ltb d unit l) refl

  pub sum_of-time : a < top → d < top → unit ≤ d → a / unit * unit + d ≡ sum_of a d
  unfolding sum_of
  sum_of-time h l k = rw (lt-ltb a top h, lt-ltb d top l, le-ltb d unit k) refl

  pub sum_of-more : a ≤ all_ones → a ≤ sum_of a d
  unfolding sum_of
  sum_of-more h =
      cond-case (λ (z : ℕ). a ≤ z) (ltb a top && ltb d top)
      (λ t. cond-case (λ (z : ℕ). a ≤ z) (ltb d unit) (λ u. omega arith) (λ u. omega (arith, nltb→le d unit u)))
      (λ t. h)

module _ (j c i : ℕ) where
  pub is_sooner_limit-same : (b : ℕ) → b ≡ c → ltb j i ≡ is_sooner_limit b j c i
  unfolding is_sooner_limit
  is_sooner_limit-same b e = rw (le-ltb b c (omega arith), eq-eqb b c e) refl

  pub is_sooner_limit-other : (b : ℕ) → (b ≡ c → ⊥) → ltb b c ≡ is_sooner_limit b j c i
  unfolding is_sooner_limit
  is_sooner_limit-other b e = rw (ne_eqb b c e) (sym (or-false (ltb b c)))

  pub is_sooner_limit-kept : (b x : ℕ) → b ≤ x → is_sooner_limit b j c i ≡ false → is_sooner_limit x j c i ≡ false
  is_sooner_limit-kept b x h e = go (ℕ_discrete b c) (ℕ_discrete x c)
    where
      go : Dec (b ≡ c) → Dec (x ≡ c) → is_sooner_limit x j c i ≡ false
      go (yes p) (yes q) = sym (is_sooner_limit-same x q) ∙ (is_sooner_limit-same b p ∙ e)
      go (yes p) (no q) = sym (is_sooner_limit-other x q) ∙ le-ltb x c (omega arith)
      go (no p) q = let l = ltb-false b c (is_sooner_limit-other b p ∙ e) in sym (is_sooner_limit-other x (λ z. omega arith)) ∙ le-ltb x c (omega arith)

-- a place of the words is small
pub place-small : (r n : ℕ) → r ≤ 255 → n ≤ 255 → r * n ≤ 65025
place-small r n h l = mul-le-mul {n₁ = r} {m₁ = n} {n₂ = 255} {m₂ = 255} h l
