-- Laws of `placed_in`, `length_in` and `Writes`: a text for which there is room, and one for which there is none.
-- Assumes nothing.
use Prim.Native.Nat.{ℕ, suc, ◌+◌, ◌≤◌, ◌<◌}
use mathlib.Core.Path.{◌≡◌, refl, sym, ◌∙◌}
use mathlib.Core.List.{List, ◌++◌, append_assoc}
use native.Mathlib.Nat.{zero-add}
use native.Mathlib.Numerals.{add-one}
use native.Mathlib.Omega.{arith}
use lib.Dec.{leb, leb→le}
use lib.ListN.{length, get_or, take, drop, set}
use lib.Seq.{sets, sets-eq, length-take-le, take-length, take_at, drop-cons, take-suc, set_at}
use borrow.Author.Tests.{le-leb, lt-leb}
use Rattle.base.proofs.BoolLaws.{cond-case}
use Rattle.buffers.specs.Put.{Puts}
use Rattle.buffers.specs.Write.{placed_in, length_in, Writes}
use Rattle.buffers.proofs.PutLaws.{puts-uncut}

module _ (text out : List ℕ) where
  -- room: the text, then what stood there
  pub placed_in-room : length text ≤ length out → placed_in text out ≡ text ++ drop (length text) out
  unfolding placed_in
  placed_in-room h = rw (le-leb (length text) (length out) h) refl

  pub length_in-room : length text ≤ length out → length_in text out ≡ length text
  unfolding length_in
  length_in-room h = rw (le-leb (length text) (length out) h) refl

  pub placed_in-front : (n : ℕ) → length text ≡ n → n ≤ length out → take n (placed_in text out) ≡ text
  placed_in-front n e h = rw (placed_in-room (omega arith)) (take_at text (drop (length text) out) n e)

  -- no room: nothing is written
  pub placed_in-short : length out < length text → out ≡ placed_in text out
  unfolding placed_in
  placed_in-short h = rw (lt-leb (length text) (length out) h) refl

  pub length_in-short : length out < length text → 0 ≡ length_in text out
  unfolding length_in
  length_in-short h = rw (lt-leb (length text) (length out) h) refl

  -- what is the text is in the buffer
  pub length_in-within : length_in text out ≤ length out
  unfolding length_in
  length_in-within = cond-case (λ n. n ≤ length out) (leb (length text) (length out)) (λ h. leb→le (length text) (length out) h) (λ h. omega arith)

  -- stored from the front on
  pub placed_in-stored : length text ≤ length out → sets out 0 text ≡ placed_in text out
  placed_in-stored h =
      let z : 0 + length text ≡ length text = zero-add (length text) in
      (rw z at (sets-eq text out 0 (omega arith))) ∙ sym (placed_in-room h)

  -- copied byte by byte: one more
  pub copied_more :
      (i : ℕ) → i < length text → i < length out →
      set (take i text ++ drop i out) i (get_or text i 0) ≡ take (i + 1) text ++ drop (i + 1) out
  copied_more i h g =
      rw (drop-cons out i 0 g)
      (set_at (take i text) (get_or out i 0) (drop (suc i) out) (get_or text i 0) i (length-take-le i text (omega arith))
      ∙ rw (add-one, take-suc text i 0 h, append_assoc) refl)

  -- and all
  pub writes-all : (end : List ℕ) (i : ℕ) → length text ≤ length out → i ≡ length text → end ≡ take i text ++ drop i out → Writes out end i text
  writes-all end i g e p =
      record { answer = e ∙ sym (length_in-room g); buffer = p ∙ rw (e, take-length text) (sym (placed_in-room g)) }

  -- copied whole
  pub writes_room : length text ≤ length out → Writes out (text ++ drop (length text) out) (length text) text
  writes_room h = record { answer = sym (length_in-room h); buffer = sym (placed_in-room h) }

  pub writes_short : length out < length text → Writes out out 0 text
  writes_short g = record { answer = length_in-short g; buffer = placed_in-short g }

-- the same text in other words
pub writes-same : {before after text whole : List ℕ} {r : ℕ} → text ≡ whole → Writes before after r text → Writes before after r whole
writes-same e p = rw e at p

-- a text made in an array that it does not fill, then written
pub writes-uncut :
    {made full text before after : List ℕ} {n r : ℕ} → Puts made 0 full n text → n < length made → Writes before after r (take n full) →
    Writes before after r text × (length text ≡ n)
writes-uncut p h w = let u = puts-uncut p h in (writes-same u.0 w, u.1)

-- what is written out of a buffer: so much from its front
pub counts : (n : ℕ) (end : List ℕ) → n ≤ length end → (n ≤ length end) × (n ≡ length (take n end))
counts n end h = (h, sym (length-take-le n end h))

pub counts-text : {before after text : List ℕ} {r : ℕ} → Writes before after r text → length after ≡ length before → (r ≤ length after) × (r ≡ length (take r after))
counts-text {before} {after} {text} {r} p l = counts r after (rw (p.answer, l) (length_in-within text before))
