-- Laws of `digits_of`: one digit, one digit more, and how many there are.
-- Assumes nothing.
use Prim.Native.Nat.{ℕ, zero, suc, ◌+◌, ◌*◌, ◌/◌, ◌%◌, ◌^◌, ◌≤◌, ◌<◌}
use mathlib.Core.Path.{◌≡◌, refl, sym, ◌∙◌}
use mathlib.Core.Logic.{⊎_elim}
use mathlib.Core.List.{[], ◌∷◌, ◌++◌}
use native.Mathlib.Nat.{pow-suc}
use native.Mathlib.Omega.{arith}
use lib.Dec.{ltb, ltb→lt, nltb→le}
use lib.ListN.{length, length-append}
use borrow.Author.Tests.{lt-ltb, le-ltb}
use Rattle.base.proofs.BoolLaws.{T-case}
use Rattle.buffers.specs.Digits.{last_digits, digits_of}

last_digits-one : (k n : ℕ) → n < 10 → last_digits (suc k) n ≡ (48 + n) ∷ []
unfolding last_digits
last_digits-one k n h = rw (lt-ltb n 10 h) refl

last_digits-more : (k n : ℕ) → 10 ≤ n → last_digits (suc k) n ≡ last_digits k (n / 10) ++ ((48 + n % 10) ∷ [])
unfolding last_digits
last_digits-more k n h = rw (le-ltb n 10 h) refl

-- more places than n add nothing
last_digits-same : (j k n : ℕ) → n < j → n < k → last_digits j n ≡ last_digits k n
last_digits-same zero k n g h = absurd (omega arith)
last_digits-same (suc j) zero n g h = absurd (omega arith)
last_digits-same (suc j) (suc k) n g h =
    ⊎_elim
    (λ l. last_digits-one j n (ltb→lt n 10 l) ∙ sym (last_digits-one k n (ltb→lt n 10 l)))
    (λ l. more (nltb→le n 10 l) (λ p. last_digits-same j k (n / 10) (below p g) (below p h)))
    (T-case (ltb n 10))
  where
    below : {m : ℕ} → 10 ≤ n → n < suc m → n / 10 < m
    below p q = omega arith

    more : (l : 10 ≤ n) → (10 ≤ n → last_digits j (n / 10) ≡ last_digits k (n / 10)) → last_digits (suc j) n ≡ last_digits (suc k) n
    more l f = last_digits-more j n l ∙ rw (f l) (sym (last_digits-more k n l))

pub digits_of-one : (n : ℕ) → n < 10 → digits_of n ≡ (48 + n) ∷ []
unfolding digits_of
digits_of-one n h = last_digits-one n n h

pub digits_of-more : (n : ℕ) → 10 ≤ n → digits_of n ≡ digits_of (n / 10) ++ ((48 + n % 10) ∷ [])
unfolding digits_of
digits_of-more n h = last_digits-more n n h ∙ rw (last_digits-same n (suc (n / 10)) (n / 10) (omega arith) (omega arith)) refl

-- a number below 10 ^ k has at most k digits
pub digits_of-length : (k n : ℕ) → n < 10 ^ suc k → length (digits_of n) ≤ suc k
digits_of-length zero n h = rw (digits_of-one n h) (omega arith)
digits_of-length (suc k) n h =
    ⊎_elim
    (λ l. rw (digits_of-one n (ltb→lt n 10 l)) (omega arith))
    (λ l. rw (digits_of-more n (nltb→le n 10 l)) (simp length-append (more (digits_of-length k (n / 10) fewer))))
    (T-case (ltb n 10))
  where
    fewer : n / 10 < 10 ^ suc k
    fewer = let e : 10 ^ suc (suc k) ≡ 10 ^ suc k * 10 = pow-suc 10 (suc k) in omega arith

    more : {m : ℕ} → m ≤ suc k → m + 1 ≤ suc (suc k)
    more p = omega arith
