-- Laws of `value_of`, `kind_of` and `word_of`: digits read one by one, an argument's letter, and the calls that kinds and labels ask for.
-- Assumes nothing.
use Prim.Native.Nat.{ℕ, suc, ◌+◌, ◌-◌, ◌*◌, ◌^◌, ◌≤◌, ◌<◌}
use mathlib.Core.Path.{◌≡◌, refl, sym, ap, ◌∙◌}
use mathlib.Core.Bool.{Bool, true, false, ◌&&◌}
use mathlib.Core.List.{List, [], ◌∷◌, ◌++◌}
use native.Mathlib.Nat.{pow-suc, pow-le-pow_right, zero-add}
use native.Mathlib.Numerals.{add-one}
use native.Mathlib.Decide.{ℕ_discrete}
use native.Mathlib.Omega.{arith}
use lib.Dec.{ltb, leb}
use lib.ListN.{length, get_or, take, drop, set, drop_of_length-le, length-drop}
use lib.Seq.{drop-cons, take_all}
use borrow.Author.Tests.{lt-ltb, le-ltb, le-leb, lt-leb, eq-eqb, ne_eqb}
use Rattle.base.proofs.IndexLaws.{tabulate-length, tabulate-at}
use Rattle.buffers.specs.Write.{placed_in}
use Rattle.buffers.proofs.WriteLaws.{placed_in-front, copied_more}
use Rattle.transcript.specs.Label.{no_number, is_digit, are_digits, value_from, is_number, value_of, kind_of, label_of, thread_of, word_of}
use Rattle.transcript_print.specs.Text.{call_words}

-- what is left to read: the rest says whether all are digits, and with the number so far what they say
pub record Left (bs : List ℕ) (i x : ℕ) : Type 0 where
  pub digits : are_digits bs ≡ are_digits (drop i bs)
  pub value : value_from 0 bs ≡ value_from x (drop i bs)
  pub small : x < 10 ^ i

pub left-none : (bs : List ℕ) → Left bs 0 0
left-none bs = record { digits = refl; value = refl; small = omega arith }

and-false : (a : Bool) → (a && false) ≡ false
and-false true = refl
and-false false = refl

value_none : (bs : List ℕ) → is_number bs ≡ false → no_number ≡ value_of bs
unfolding value_of
value_none bs e = rw e refl

module _ (bs : List ℕ) (i x : ℕ) (h : i < length bs) (l : Left bs i x) where
  pub left-more : 48 ≤ get_or bs i 0 → get_or bs i 0 ≤ 57 → Left bs (i + 1) (x * 10 + (get_or bs i 0 - 48))
  unfolding are_digits is_digit value_from
  left-more a b =
      let d = drop-cons bs i 0 h in
      let e : are_digits bs ≡ are_digits (drop (suc i) bs) = rw (d, le-leb 48 (get_or bs i 0) a, le-leb (get_or bs i 0) 57 b) at l.digits in
      let f : value_from 0 bs ≡ value_from (x * 10 + (get_or bs i 0 - 48)) (drop (suc i) bs) = rw d at l.value in
      let p : 10 ^ suc i ≡ 10 ^ i * 10 = pow-suc 10 i in
      rw add-one (record { digits = e; value = f; small = omega (arith, l.small) })

  is_number-no : (are_digits (drop i bs) ≡ false) → is_number bs ≡ false
  unfolding is_number
  is_number-no e = rw (l.digits ∙ e) (and-false (ltb 0 (length bs) && leb (length bs) 19))

  -- a byte that is no digit
  pub left_below : get_or bs i 0 < 48 → no_number ≡ value_of bs
  unfolding are_digits is_digit
  left_below a = value_none bs (is_number-no (rw (drop-cons bs i 0 h, lt-leb 48 (get_or bs i 0) a) refl))

  pub left-above : 57 < get_or bs i 0 → no_number ≡ value_of bs
  unfolding are_digits is_digit
  left-above a =
      value_none bs
      (is_number-no (rw (drop-cons bs i 0 h, le-leb 48 (get_or bs i 0) (omega arith), lt-leb (get_or bs i 0) 57 a) refl))

-- no digit, or too many
pub value-empty : (bs : List ℕ) → length bs ≡ 0 → no_number ≡ value_of bs
unfolding is_number
value-empty bs h = value_none bs (rw (le-ltb 0 (length bs) (omega arith)) refl)

pub value-long : (bs : List ℕ) → 19 < length bs → no_number ≡ value_of bs
unfolding is_number
value-long bs h = value_none bs (rw (lt-leb (length bs) 19 h, and-false (ltb 0 (length bs))) refl)

-- all read
pub value-whole : (bs : List ℕ) (i x : ℕ) → 0 < length bs → length bs ≤ 19 → length bs ≤ i → Left bs i x → x ≡ value_of bs
unfolding value_of is_number are_digits value_from
value-whole bs i x a b h l =
    let d = drop_of_length-le bs h in
    let e : are_digits bs ≡ true = rw d at l.digits in
    let f : value_from 0 bs ≡ x = rw d at l.value in
    rw (lt-ltb 0 (length bs) a, le-leb (length bs) 19 b, e) (sym f)

pub thread_of-small : (x : ℕ) → x < 255 → x ≡ thread_of x
unfolding thread_of
thread_of-small x h = rw (lt-ltb x 255 h) refl

pub thread_of-large : (x : ℕ) → 255 ≤ x → 255 ≡ thread_of x
unfolding thread_of
thread_of-large x h = rw (le-ltb x 255 h) refl

-- the number so far, and one digit more, fit a word of 64 bits
pub left-fits : (bs : List ℕ) (i x : ℕ) → i < 19 → Left bs i x → x < 10 ^ 18
left-fits bs i x h l =
    let p : 10 ^ i ≤ 10 ^ 18 = pow-le-pow_right {n = 10} (omega arith) {i = i} {j = 18} (omega arith) in
    omega (arith, l.small)

-- an argument's kind, by its first byte
pub kind-none : (bs : List ℕ) → length bs ≡ 0 → 114 ≡ kind_of bs
unfolding kind_of
kind-none [] h = refl
kind-none (b ∷ bs) h = absurd (omega arith)

pub kind-letter : (bs : List ℕ) → 102 ≤ get_or bs 0 0 → get_or bs 0 0 ≤ 103 → get_or bs 0 0 ≡ kind_of bs
unfolding kind_of
kind-letter bs a b = go (ℕ_discrete (get_or bs 0 0) 103)
  where
    go : Dec (get_or bs 0 0 ≡ 103) → get_or bs 0 0 ≡ kind_of bs
    go (yes e) = rw (eq-eqb (get_or bs 0 0) 103 e) refl
    go (no n) = let e : get_or bs 0 0 ≡ 102 = omega arith in rw e refl

pub kind-other : (bs : List ℕ) → (get_or bs 0 0 ≡ 103 → ⊥) → (get_or bs 0 0 ≡ 102 → ⊥) → 114 ≡ kind_of bs
unfolding kind_of
kind-other bs g f = rw (ne_eqb (get_or bs 0 0) 103 g, ne_eqb (get_or bs 0 0) 102 f) refl

-- a letter stands in front
pub kind-long : (bs : List ℕ) → (kind_of bs ≡ 114 → ⊥) → 1 ≤ length bs
kind-long [] h = absurd (h (sym (kind-none [] refl)))
kind-long (b ∷ bs) h = omega arith

-- the label, without a letter and after one
pub label-request : (bs : List ℕ) → kind_of bs ≡ 114 → value_of bs ≡ label_of bs
unfolding label_of
label-request bs h = rw (eq-eqb (kind_of bs) 114 h) refl

pub label-apart : (bs : List ℕ) → (kind_of bs ≡ 114 → ⊥) → value_of (take (length bs - 1) (drop 1 bs)) ≡ label_of bs
unfolding label_of
label-apart bs h =
    rw (take_all (length bs - 1) (drop 1 bs) (omega (arith, length-drop 1 bs)), ne_eqb (kind_of bs) 114 h) refl

-- a call's word, by its kind
pub word-grant : (kind x : ℕ) → kind ≡ 103 → 256 + thread_of x ≡ word_of kind x
unfolding word_of
word-grant kind x h = rw (eq-eqb kind 103 h) refl

pub word-finish : (kind x : ℕ) → (kind ≡ 103 → ⊥) → kind ≡ 102 → 512 + thread_of x ≡ word_of kind x
unfolding word_of
word-finish kind x g h = rw (ne_eqb kind 103 g, eq-eqb kind 102 h) refl

pub word-request : (kind x : ℕ) → (kind ≡ 103 → ⊥) → (kind ≡ 102 → ⊥) → thread_of x ≡ word_of kind x
unfolding word_of
word-request kind x g h = rw (ne_eqb kind 103 g, ne_eqb kind 102 h) refl

-- the calls that kinds and labels ask for: one more, and all of them at the front of a buffer
module _ (kinds labels : List ℕ) where
  pub call_words-length : length (call_words kinds labels) ≡ length labels
  unfolding call_words
  call_words-length = tabulate-length (length labels) 0 (λ i. word_of (get_or kinds i 0) (get_or labels i 0))

  call_words-at : (i : ℕ) → i < length labels → get_or (call_words kinds labels) i 0 ≡ word_of (get_or kinds i 0) (get_or labels i 0)
  unfolding call_words
  call_words-at i h =
      tabulate-at (length labels) 0 i (λ j. word_of (get_or kinds j 0) (get_or labels j 0)) 0 h
      ∙ ap (λ (j : ℕ). word_of (get_or kinds j 0) (get_or labels j 0)) (zero-add i)

  pub words_more :
      (calls : List ℕ) (i : ℕ) → i < length labels → i < length calls →
      set (take i (call_words kinds labels) ++ drop i calls) i (word_of (get_or kinds i 0) (get_or labels i 0)) ≡ take (i + 1) (call_words kinds labels) ++ drop (i + 1) calls
  words_more calls i h g =
      rw (← call_words-at i h) (copied_more (call_words kinds labels) calls i (omega (arith, call_words-length)) g)

  pub words-front : (calls end : List ℕ) → length labels ≤ length calls → end ≡ placed_in (call_words kinds labels) calls → take (length labels) end ≡ call_words kinds labels
  words-front calls end h p = rw p (placed_in-front (call_words kinds labels) calls (length labels) call_words-length h)
