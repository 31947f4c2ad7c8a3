-- Laws of `Saves`.
--     saves-number, saves-short, saves-text     its three answers: a number, no room, and the text at the front of the buffer
--     saves-writes     a call that has no number of its own writes the text, or nothing where there is no room
--     saves-front     beside an answer without a number the text stands at the front
-- Assumes nothing.
use Prim.Native.Nat.{ℕ, ◌≤◌, ◌<◌}
use mathlib.Core.Path.{◌≡◌, refl, sym, ap, ◌∙◌, subst}
use mathlib.Core.Bool.{Bool, true, false, cond}
use mathlib.Core.List.{List}
use native.Mathlib.Decide.{ℕ_discrete, dec_lt}
use native.Mathlib.Omega.{arith}
use lib.Dec.{leb}
use lib.ListN.{length, take}
use borrow.Author.Tests.{eq-eqb, ne_eqb, le-leb, lt-leb}
use Rattle.buffers.specs.declared.Written.{Written}
use Rattle.buffers.specs.declared.Written.TheVariants.{Length, Refused}
use Rattle.buffers.specs.Put.{Puts, bytes_at, place_after}
use Rattle.buffers.specs.Write.{placed_in, length_in, Writes}
use Rattle.buffers.specs.Written.{number_of, length_of, short_output, written_in, left_in, Saves}
use Rattle.buffers.proofs.WriteLaws.{placed_in-stored, placed_in-short, placed_in-front}

module _ (out text : List ℕ) (number : ℕ) where
  -- the answer
  written_in-number : (number ≡ 0 → ⊥) → written_in number text out ≡ Refused number
  unfolding written_in
  written_in-number n = rw (ne_eqb number 0 n) refl

  written_in-short : number ≡ 0 → length out < length text → written_in number text out ≡ Refused short_output
  unfolding written_in
  written_in-short e h = rw (eq-eqb number 0 e, lt-leb (length text) (length out) h) refl

  written_in-text : number ≡ 0 → length text ≤ length out → written_in number text out ≡ Length (length text)
  unfolding written_in
  written_in-text e h = rw (eq-eqb number 0 e, le-leb (length text) (length out) h) refl

  -- the buffer
  left_in-number : (number ≡ 0 → ⊥) → left_in number text out ≡ out
  unfolding left_in
  left_in-number n = rw (ne_eqb number 0 n) refl

  left_in-text : number ≡ 0 → left_in number text out ≡ placed_in text out
  unfolding left_in
  left_in-text e = rw (eq-eqb number 0 e) refl

  pub saves-number : (x : ℕ) → x ≡ number → (x ≡ 0 → ⊥) → Saves out out (Refused x) number text
  saves-number x e n =
      let n : number ≡ 0 → ⊥ = λ z. n (e ∙ z) in
      record { answer = ap Refused e ∙ sym (written_in-number n); buffer = sym (left_in-number n) }

  pub saves-short : number ≡ 0 → length out < length text → Saves out out (Refused 16) number text
  saves-short e h = record { answer = sym (written_in-short e h); buffer = placed_in-short text out h ∙ sym (left_in-text e) }

  pub saves-text :
      (after : List ℕ) (r : ℕ) → number ≡ 0 → length text ≤ length out → Puts out 0 after r text → Saves out after (Length r) number text
  unfolding bytes_at place_after
  saves-text after r e h p =
      let l : r ≡ length text = omega (arith, p.place) in
      record {
        answer = ap Length l ∙ sym (written_in-text e h);
        buffer = p.text ∙ placed_in-stored text out h ∙ sym (left_in-text e);
      }

module _ (before after : List ℕ) (r : Written) (text : List ℕ) where
  saves-zero : Saves before after r 0 text → Writes before after (length_of r) text
  unfolding written_in left_in length_in
  saves-zero s = record { answer = ap length_of s.answer ∙ go (leb (length text) (length before)); buffer = s.buffer }
    where
      go : (b : Bool) → length_of (cond b (Length (length text)) (Refused short_output)) ≡ cond b (length text) 0
      go true = refl
      go false = refl

  pub saves-writes : (number : ℕ) → number ≡ 0 → Saves before after r number text → Writes before after (length_of r) text
  saves-writes number e s = saves-zero (subst (λ (n : ℕ). Saves before after r n text) e s)

  pub saves-front : (number : ℕ) → Saves before after r number text → number_of r ≡ 0 → (number ≡ 0) × (take (length_of r) after ≡ text)
  saves-front number s none = go (ℕ_discrete number 0)
    where
      front : number ≡ 0 → Dec (length before < length text) → take (length_of r) after ≡ text
      front z (yes h) =
          let short : number_of r ≡ 16 = ap number_of (s.answer ∙ written_in-short before text number z h) in
          absurd (omega arith)
      front z (no h) =
          let l : length_of r ≡ length text = ap length_of (s.answer ∙ written_in-text before text number z (omega arith)) in
          let b : after ≡ placed_in text before = s.buffer ∙ left_in-text before text number z in
          ap (take (length_of r)) b ∙ placed_in-front text before (length_of r) (sym l) (omega arith)

      go : Dec (number ≡ 0) → (number ≡ 0) × (take (length_of r) after ≡ text)
      go (yes z) = (z, front z (dec_lt (length before) (length text)))
      go (no z) = absurd (z (sym (ap number_of (s.answer ∙ written_in-number before text number z)) ∙ none))
