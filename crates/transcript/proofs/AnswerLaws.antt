-- The words of an answer's line: the segment and cycle of what was granted or finished, or a refusal's number.
-- Assumes nothing.
use Prim.Native.Nat.{ℕ, ◌<◌, ◌≤◌}
use mathlib.Core.Path.{◌≡◌, refl}
use mathlib.Core.List.{List, [], ◌∷◌}
use lib.ListN.{get_or}
use borrow.Author.Tests.{lt-ltb, le-ltb, ne_eqb}
use Rattle.clock.specs.declared.Cycle.{Cycle}
use Rattle.buffers.specs.Digits.{digits_of}
use Rattle.sheet.specs.Sheet.{cycle_words}
use Rattle.early.specs.declared.Answer.{Answer}
use Rattle.early.specs.declared.Answer.TheVariants.{Granted, Refused}
use Rattle.early.specs.Answer.{number_of, values_of}
use Rattle.transcript.specs.Transcript.{done_word, printed_answer}

-- of an answer, by its call's word, its number and its values
abbrev pub printed_of : ℕ → Answer → List (List ℕ)
printed_of w a = printed_answer w (number_of a) (get_or (values_of a) 0 0) (get_or (values_of a) 1 0) (get_or (values_of a) 2 0)

pub printed_answer-granted :
    (w s : ℕ) (c : Cycle) → w < 512 →
    printed_of w (Granted s c) ≡ (103 ∷ 114 ∷ 97 ∷ 110 ∷ 116 ∷ 101 ∷ 100 ∷ []) ∷ digits_of s ∷ cycle_words c
unfolding printed_answer done_word cycle_words
printed_answer-granted w s c h = rw (lt-ltb w 512 h) refl

pub printed_answer-finished :
    (w s : ℕ) (c : Cycle) → 512 ≤ w →
    printed_of w (Granted s c) ≡ (102 ∷ 105 ∷ 110 ∷ 105 ∷ 115 ∷ 104 ∷ 101 ∷ 100 ∷ []) ∷ digits_of s ∷ cycle_words c
unfolding printed_answer done_word cycle_words
printed_answer-finished w s c h = rw (le-ltb w 512 h) refl

pub printed_answer-refused :
    (w n : ℕ) → (n ≡ 0 → ⊥) →
    printed_of w (Refused n) ≡ (114 ∷ 101 ∷ 102 ∷ 117 ∷ 115 ∷ 101 ∷ 100 ∷ []) ∷ digits_of n ∷ []
unfolding printed_answer
printed_answer-refused w n h = rw (ne_eqb n 0 h) refl
