-- Bytes put one part after the other.
--     joined-first, joined-more     one part more at the front, at the end
--     joined_same, joined-set     parts that are the same, but for one more at the end
--     joined-below     parts of bytes are bytes
--     joined_length, joined-part, joined-again     parts of one length: how many bytes, which part begins where, and bytes cut into parts
use Prim.Native.Nat.{ℕ, zero, suc, ◌+◌, ◌-◌, ◌*◌, ◌≤◌, ◌<◌}
use mathlib.Core.Path.{◌≡◌, refl, sym, ap, ap₂, ◌∙◌}
use mathlib.Core.List.{List, ◌++◌, append_assoc, append-nil}
use native.Mathlib.Omega.{arith}
use native.Mathlib.Numerals.{add-one}
use native.Mathlib.Nat.{zero-add, zero-mul, suc-mul}
use lib.ListN.{length, get_or, set, take, drop, length-append}
use lib.Seq.{get_or-set_same, get_or-set_other, take-add, take_all, drop-append-add}
use Rattle.writer.specs.Bytes.{joined}
use Rattle.writer_laws.proofs.ByteLaws.{AllBytes, append-below}

pub joined-first : (n i : ℕ) (f : ℕ → List ℕ) (rest : List ℕ) → joined (suc n) i f ++ rest ≡ f i ++ (joined n (suc i) f ++ rest)
unfolding joined
joined-first n i f rest =
    append_assoc (f i) (joined n (i + 1) f) rest
    ∙ ap (λ (k : ℕ). f i ++ (joined n k f ++ rest)) (omega arith)

pub joined-more : (n i : ℕ) (f : ℕ → List ℕ) → joined (suc n) i f ≡ joined n i f ++ f (i + n)
unfolding joined
joined-more zero i f = append-nil (f i) ∙ ap f (omega arith)
joined-more (suc n) i f =
    ap (λ (b : List ℕ). f i ++ b) (joined-more n (i + 1) f ∙ ap (λ (k : ℕ). joined n (i + 1) f ++ f k) (omega arith))
    ∙ sym (append_assoc (f i) (joined n (i + 1) f) (f (i + suc n)))

pub joined_same : (n i : ℕ) (f g : ℕ → List ℕ) → ((j : ℕ) → i ≤ j → j < i + n → f j ≡ g j) → joined n i f ≡ joined n i g
unfolding joined
joined_same zero i f g h = refl
joined_same (suc n) i f g h =
    ap₂ ◌++◌ (h i (omega arith) (omega arith)) (joined_same n (i + 1) f g (λ j l m. h j (omega arith) (omega arith)))

pub joined-set : {A : Type 0} (f : A → List ℕ) (d : A) (l : List A) (n : ℕ) (a : A) → n < length l
    → joined (n + 1) 0 (λ i. f (get_or (set l n a) i d)) ≡ joined n 0 (λ i. f (get_or l i d)) ++ f a
joined-set f d l n a h =
    let parts : ℕ → List ℕ = λ i. f (get_or (set l n a) i d) in
    ap (λ (k : ℕ). joined k 0 parts) (add-one n)
    ∙ joined-more n 0 parts
    ∙ ap₂ ◌++◌
    (joined_same n 0 parts (λ i. f (get_or l i d)) (λ i _ below. ap f (get_or-set_other l n i a d (λ e. omega arith))))
    (ap parts (zero-add n) ∙ ap f (get_or-set_same l n a d h))

pub joined-below : (n i : ℕ) (f : ℕ → List ℕ) → ((j : ℕ) → AllBytes (f j)) → AllBytes (joined n i f)
unfolding joined
joined-below zero i f h j = omega arith
joined-below (suc n) i f h j = append-below (f i) (joined n (i + 1) f) (h i) (joined-below n (i + 1) f h) j

-- parts of w bytes each
module _ (w : ℕ) (f : ℕ → List ℕ) (same : (j : ℕ) → length (f j) ≡ w) where
  pub joined_length : (n i : ℕ) → length (joined n i f) ≡ n * w
  unfolding joined
  joined_length zero i = sym (zero-mul w)
  joined_length (suc n) i =
      length-append (f i) (joined n (i + 1) f) ∙ ap₂ ◌+◌ (same i) (joined_length n (i + 1)) ∙ omega (arith, suc-mul n w)

  pub joined-part : (n i j : ℕ) → j < n → drop (j * w) (joined n i f) ≡ f (i + j) ++ joined (n - suc j) (i + suc j) f
  unfolding joined
  joined-part zero i j h = absurd (omega arith)
  joined-part (suc n) i zero h =
      let e : n ≡ suc n - 1 = omega arith in
      ap (λ (k : ℕ). drop k (f i ++ joined n (i + 1) f)) (zero-mul w)
      ∙ ap₂ ◌++◌ (ap f (omega arith)) (ap (λ (k : ℕ). joined k (i + 1) f) e)
  joined-part (suc n) i (suc j) h =
      let e : suc j * w ≡ length (f i) + j * w = omega (arith, suc-mul j w, same i) in
      let p : i + 1 + j ≡ i + suc j = omega arith in
      let q : n - suc j ≡ suc n - suc (suc j) = omega arith in
      let r : i + 1 + suc j ≡ i + suc (suc j) = omega arith in
      ap (λ (k : ℕ). drop k (f i ++ joined n (i + 1) f)) e
      ∙ drop-append-add (f i) (joined n (i + 1) f) (j * w)
      ∙ joined-part n (i + 1) j (omega arith)
      ∙ ap₂ ◌++◌ (ap f p) (ap₂ (λ (k l : ℕ). joined k l f) q r)

-- bytes cut into n parts of w bytes and joined again
pub joined-again : (w n : ℕ) (f : ℕ → List ℕ) (b : List ℕ) → length b ≡ n * w → ((j : ℕ) → j < n → f j ≡ take w (drop (j * w) b))
    → joined n 0 f ≡ b
unfolding joined
joined-again w n f b size is = go n (omega arith) ∙ take_all (n * w) b (omega arith)
  where
    go : (k : ℕ) → k ≤ n → joined k 0 f ≡ take (k * w) b
    go zero h = ap (λ (l : ℕ). take l b) (sym (zero-mul w))
    go (suc k) h =
        joined-more k 0 f
        ∙ ap₂ ◌++◌ (go k (omega arith)) (ap f (zero-add k) ∙ is k (omega arith))
        ∙ sym (take-add (k * w) w b)
        ∙ ap (λ (l : ℕ). take l b) (sym (suc-mul k w))
