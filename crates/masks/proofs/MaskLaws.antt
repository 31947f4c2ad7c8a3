-- The bits of words: of 0, of a single bit, of `bit_or` and `bit_and`; a word below 2 ^ 64 is told by its bits below 64.
--     bit_at-zero, -and, -or, -past, -none, -some; bit_at-bit_of, bit_at-with_bit, bit_at-with_bit-below, bit_at-mask_of
--     bit_of-lt, with_bit-lt, mask_of-lt; for a loop mask_of-start, -more; for the functions' exits bit_at-has, with_bit-past, -below
use Prim.Native.Nat.{ℕ, zero, suc, ◌+◌, ◌-◌, ◌*◌, ◌/◌, ◌%◌, ◌^◌, ◌≤◌, ◌<◌, min, max}
use mathlib.Core.Path.{◌≡◌, refl, ap, sym, ◌∙◌}
use mathlib.Core.Logic.{◌⊎◌, inl, inr}
use mathlib.Core.Bool.{Bool, true, false, not, cond, ◌&&◌, ◌||◌, and-true, and-false, or-false}
use native.Mathlib.Omega.{arith}
use native.Mathlib.Numerals.{add-one}
use native.Mathlib.Nat.{mod-eq_of_lt, one-mul, zero-div, div-eq_of_lt, div_self, mul-div_left, mul-mod_left, div-div-eq-div-mul, pow-suc, pow-succ'}
use native.Mathlib.Decide.{dec_lt, ℕ_discrete}
use lib.Bits.{bit_and, bit_or, and_step, or_step, and_shr, or_shr, or_lt, or_zero_r, and_mask}
use lib.Dec.{T, ltb, eqb, eqb→eq, T_not, not_T}
use lib.Pow.{pow-lt, pow_pos, pow-add}
use borrow.Author.Tests.{lt-ltb, le-ltb, eq-eqb, ne_eqb}
use Rattle.base.specs.Index.{any_below}
use Rattle.base.proofs.BoolLaws.{T-case, T→false, T-same, eq→eqb, false→T}
use Rattle.base.proofs.IndexLaws.{any_below-some, any_below-none}
use Rattle.masks.specs.Mask.{bit_at, bit_of, with_bit, mask_of}

digit : (p : ℕ) → p < 2 → (p ≡ 0) ⊎ (p ≡ 1)
digit zero h = inl refl
digit (suc p) h = inr (omega arith)

low : (x y : ℕ) → y < 2 → (x * 2 + y) % 2 ≡ y
low x y h = omega arith

module _ (x p q : ℕ) (ph : p < 2) (qh : q < 2) where
  low_and : eqb ((x * 2 + min p q) % 2) 1 ≡ (eqb p 1 && eqb q 1)
  low_and = go (digit p ph) (digit q qh)
    where
      go : (p ≡ 0) ⊎ (p ≡ 1) → (q ≡ 0) ⊎ (q ≡ 1) → eqb ((x * 2 + min p q) % 2) 1 ≡ (eqb p 1 && eqb q 1)
      go (inl e) (inl f) = rw (e, f, low x 0 (omega arith)) refl
      go (inl e) (inr f) = rw (e, f, low x 0 (omega arith)) refl
      go (inr e) (inl f) = rw (e, f, low x 0 (omega arith)) refl
      go (inr e) (inr f) = rw (e, f, low x 1 (omega arith)) refl

  low_or : eqb ((x * 2 + max p q) % 2) 1 ≡ (eqb p 1 || eqb q 1)
  low_or = go (digit p ph) (digit q qh)
    where
      go : (p ≡ 0) ⊎ (p ≡ 1) → (q ≡ 0) ⊎ (q ≡ 1) → eqb ((x * 2 + max p q) % 2) 1 ≡ (eqb p 1 || eqb q 1)
      go (inl e) (inl f) = rw (e, f, low x 0 (omega arith)) refl
      go (inl e) (inr f) = rw (e, f, low x 1 (omega arith)) refl
      go (inr e) (inl f) = rw (e, f, low x 1 (omega arith)) refl
      go (inr e) (inr f) = rw (e, f, low x 1 (omega arith)) refl

module _ (a b i : ℕ) where
  pub bit_at-and : bit_at (bit_and a b) i ≡ (bit_at a i && bit_at b i)
  unfolding bit_at
  bit_at-and =
      ap (λ (x : ℕ). eqb (x % 2) 1) (and_shr a b i ∙ and_step (a / 2 ^ i) (b / 2 ^ i))
      ∙ low_and (bit_and (a / 2 ^ i / 2) (b / 2 ^ i / 2)) (a / 2 ^ i % 2) (b / 2 ^ i % 2) (omega arith) (omega arith)

  pub bit_at-or : bit_at (bit_or a b) i ≡ (bit_at a i || bit_at b i)
  unfolding bit_at
  bit_at-or =
      ap (λ (x : ℕ). eqb (x % 2) 1) (or_shr a b i ∙ or_step (a / 2 ^ i) (b / 2 ^ i))
      ∙ low_or (bit_or (a / 2 ^ i / 2) (b / 2 ^ i / 2)) (a / 2 ^ i % 2) (b / 2 ^ i % 2) (omega arith) (omega arith)

pub bit_at-zero : (i : ℕ) → bit_at 0 i ≡ false
unfolding bit_at
bit_at-zero i = rw (zero-div (2 ^ i)) refl

-- a word of k bits has none from k on
pub bit_at-past : (k w i : ℕ) → w < 2 ^ k → k ≤ i → bit_at w i ≡ false
unfolding bit_at
bit_at-past k w i h l = go (ℕ_discrete k i)
  where
    none : w < 2 ^ i → bit_at w i ≡ false
    none b = rw (div-eq_of_lt b) refl

    go : Dec (k ≡ i) → bit_at w i ≡ false
    go (yes e) = none (rw e at h)
    go (no e) = let p : 2 ^ k < 2 ^ i = pow-lt (omega arith) in none (omega arith)

-- a word with no bit is 0
pub bit_at-none : (k w : ℕ) → w < 2 ^ k → ((i : ℕ) → i < k → bit_at w i ≡ false) → w ≡ 0
unfolding bit_at
bit_at-none zero w h f = omega arith
bit_at-none (suc k) w h f =
    let half =
    bit_at-none k (w / 2) (omega (arith, pow-suc 2 k))
    (λ i l. ap (λ (x : ℕ). eqb (x % 2) 1) (div-div-eq-div-mul w 2 (2 ^ i) ∙ ap (λ (x : ℕ). w / x) (sym (pow-succ' 2 i))) ∙ f (suc i) (omega arith)) in
    let even = f 0 (omega arith) in
    go (digit (w % 2) (omega arith)) half even
  where
    go : (w % 2 ≡ 0) ⊎ (w % 2 ≡ 1) → w / 2 ≡ 0 → eqb (w / 1 % 2) 1 ≡ false → w ≡ 0
    go (inl e) z g = omega arith
    go (inr e) z g = absurd (T_not (eqb (w / 1 % 2) 1) (false→T (eqb (w / 1 % 2) 1) g) (eq→eqb (w / 1 % 2) 1 (omega arith)))

-- a word is not 0 where some bit says so
pub bit_at-some : (w : ℕ) → w < 2 ^ 64 → not (eqb w 0) ≡ any_below 64 (bit_at w)
bit_at-some w small = T-same (not (eqb w 0)) (any_below 64 (bit_at w)) (λ t. go t (T-case (any_below 64 (bit_at w)))) back
  where
    go : T (not (eqb w 0)) → T (any_below 64 (bit_at w)) ⊎ T (not (any_below 64 (bit_at w))) → T (any_below 64 (bit_at w))
    go t (inl s) = s
    go t (inr s) =
        let z = bit_at-none 64 w small (λ i l. T→false (bit_at w i) (any_below-none 64 (bit_at w) s i l)) in
        absurd (T_not (eqb w 0) t (eq→eqb w 0 z))

    back : T (any_below 64 (bit_at w)) → T (not (eqb w 0))
    back t =
        let (i, l, s) = any_below-some 64 (bit_at w) t in
        not_T (eqb w 0) (λ z. T_not (bit_at w i) (false→T (bit_at w i) (ap (λ (x : ℕ). bit_at x i) (eqb→eq w 0 z) ∙ bit_at-zero i)) s)

-- a single bit

bit_of-none : (i : ℕ) → 64 ≤ i → bit_of i ≡ 0
unfolding bit_of
bit_of-none i h = rw (le-ltb i 64 h) refl

bit_of-power : (i : ℕ) → i < 64 → bit_of i ≡ 2 ^ i
unfolding bit_of
bit_of-power i h = rw (lt-ltb i 64 h) refl

power_below : (i j : ℕ) → i < j → 2 ^ i / 2 ^ j % 2 ≡ 0
power_below i j h = rw (div-eq_of_lt (pow-lt h)) refl

power-above : (i j : ℕ) → j < i → 2 ^ i / 2 ^ j % 2 ≡ 0
power-above i j h =
    let d : ℕ = i - suc j in
    let e : i ≡ suc d + j = omega arith in
    ap (λ (y : ℕ). 2 ^ y / 2 ^ j % 2) e
    ∙ (ap (λ (y : ℕ). y / 2 ^ j % 2) (pow-add 2 (suc d) j)
    ∙ (ap (λ (y : ℕ). y % 2) (mul-div_left (2 ^ suc d) (pow_pos j)) ∙ (ap (λ (y : ℕ). y % 2) (pow-suc 2 d) ∙ mul-mod_left (2 ^ d) 2)))

pub bit_at-bit_of : (i j : ℕ) → bit_at (bit_of i) j ≡ (eqb i j && ltb i 64)
unfolding bit_at
bit_at-bit_of i j = go (dec_lt i 64) (dec_lt i j) (dec_lt j i)
  where
    go : Dec (i < 64) → Dec (i < j) → Dec (j < i) → bit_at (bit_of i) j ≡ (eqb i j && ltb i 64)
    go (no l) _ _ = rw (bit_of-none i (omega arith), zero-div (2 ^ j), le-ltb i 64 (omega arith)) (sym (and-false (eqb i j)))
    go (yes l) (yes b) _ = rw (bit_of-power i l, power_below i j b, ne_eqb i j (λ e. omega arith)) refl
    go (yes l) (no b) (yes a) = rw (bit_of-power i l, power-above i j a, ne_eqb i j (λ e. omega arith)) refl
    go (yes l) (no b) (no a) = let e : i ≡ j = omega arith in rw (bit_of-power i l, lt-ltb i 64 l, e, div_self (pow_pos j), eq-eqb j j refl) refl

pub bit_of-lt : (i : ℕ) → bit_of i < 2 ^ 64
bit_of-lt i = go (dec_lt i 64)
  where
    go : Dec (i < 64) → bit_of i < 2 ^ 64
    go (yes h) = rw (bit_of-power i h) (pow-lt h)
    go (no h) = rw (bit_of-none i (omega arith)) (omega arith)

-- one bit more

pub bit_at-with_bit : (w i j : ℕ) → bit_at (with_bit w i) j ≡ (bit_at w j || (eqb i j && ltb i 64))
unfolding with_bit
bit_at-with_bit w i j = bit_at-or w (bit_of i) j ∙ ap (λ (b : Bool). bit_at w j || b) (bit_at-bit_of i j)

-- of the bits below 64
pub bit_at-with_bit-below : (w i j : ℕ) → j < 64 → bit_at (with_bit w i) j ≡ (bit_at w j || eqb i j)
bit_at-with_bit-below w i j h = bit_at-with_bit w i j ∙ ap (λ (b : Bool). bit_at w j || b) (go (ℕ_discrete i j))
  where
    go : Dec (i ≡ j) → (eqb i j && ltb i 64) ≡ eqb i j
    go (yes e) = rw (lt-ltb i 64 (omega arith)) (and-true (eqb i j))
    go (no e) = rw (ne_eqb i j e) refl

pub with_bit-lt : (w i : ℕ) → w < 2 ^ 64 → with_bit w i < 2 ^ 64
unfolding with_bit
with_bit-lt w i h = or_lt 64 w (bit_of i) h (bit_of-lt i)

-- the numbers at which f holds

pub mask_of-start : (f : ℕ → Bool) → 0 ≡ mask_of f 0
unfolding mask_of
mask_of-start f = refl

pub mask_of-more : (f : ℕ → Bool) (n w v : ℕ) (b : Bool) → w ≡ mask_of f n → b ≡ f n → v ≡ cond b (with_bit w n) w → v ≡ mask_of f (n + 1)
unfolding mask_of
mask_of-more f n w v b e g h = rw (add-one, ← e, ← g) h

pub mask_of-lt : (f : ℕ → Bool) (n : ℕ) → mask_of f n < 2 ^ 64
unfolding mask_of
mask_of-lt f zero = omega arith
mask_of-lt f (suc n) = go (f n) (mask_of-lt f n)
  where
    go : (b : Bool) → mask_of f n < 2 ^ 64 → cond b (with_bit (mask_of f n) n) (mask_of f n) < 2 ^ 64
    go true h = with_bit-lt (mask_of f n) n h
    go false h = h

-- one number more: at n as f says there, elsewhere as before
pub bit_at-mask_of : (f : ℕ → Bool) (n i : ℕ) → n ≤ 64 → bit_at (mask_of f n) i ≡ (ltb i n && f i)
unfolding mask_of
bit_at-mask_of f zero i h = bit_at-zero i ∙ sym (rw (le-ltb i 0 (omega arith)) refl)
bit_at-mask_of f (suc n) i h = one (f n) (bit_at-mask_of f n i (omega arith)) ∙ go (ℕ_discrete n i) (dec_lt i n)
  where
    one : (b : Bool) → bit_at (mask_of f n) i ≡ (ltb i n && f i) → bit_at (cond b (with_bit (mask_of f n) n) (mask_of f n)) i ≡ ((ltb i n && f i) || (eqb n i && b))
    one true before = bit_at-with_bit (mask_of f n) n i ∙ rw (before, lt-ltb n 64 (omega arith)) refl
    one false before = before ∙ sym (rw (and-false (eqb n i)) (or-false (ltb i n && f i)))

    go : Dec (n ≡ i) → Dec (i < n) → ((ltb i n && f i) || (eqb n i && f n)) ≡ (ltb i (suc n) && f i)
    go (yes e) _ = rw (eq-eqb n i e, e, le-ltb i i (omega arith), lt-ltb i (suc i) (omega arith)) refl
    go (no e) (yes l) = rw (ne_eqb n i e, lt-ltb i n l, lt-ltb i (suc n) (omega arith)) (or-false (f i))
    go (no e) (no l) = rw (ne_eqb n i e, le-ltb i n (omega arith), le-ltb i (suc n) (omega arith)) refl

-- exits of the functions

pub bit_at-has : (w i : ℕ) → eqb (bit_and (w / 2 ^ i) 1) 1 ≡ bit_at w i
unfolding bit_at
bit_at-has w i = ap (λ (x : ℕ). eqb x 1) (and_mask (w / 2 ^ i) 1)

pub with_bit-past : (w i : ℕ) → 64 ≤ i → w ≡ with_bit w i
unfolding with_bit
with_bit-past w i h = rw (bit_of-none i h) (sym (or_zero_r w))

pub with_bit-below : (w i : ℕ) → i < 64 → bit_or w (1 * 2 ^ i % 2 ^ 64) ≡ with_bit w i
unfolding with_bit
with_bit-below w i h = ap (bit_or w) (rw (one-mul) (mod-eq_of_lt (pow-lt h)) ∙ sym (bit_of-power i h))
