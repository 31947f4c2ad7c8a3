-- Laws of specs/Desk.antt: what is read of a desk once a word was put there, and the count that a run leaves.
use Rattle.std.proofs.Common.{◌≡◌, ℕ, ◌<◌, ◌≤◌, List, length, get_or, set, arith, get_or-set_other, get_or-set_same}
use native.Mathlib.Decide.{dec_lt}
use lib.ListN.{get_or-eq_default}
use lib.Seq.{set_out}
use Rattle.second.specs.Desk.{place_of, word_at, with_word}

-- at the place itself, also where that is past the end
pub word_at-same : (words : List ℕ) (part i x : ℕ) → word_at (with_word words part i x) part i ≤ x
unfolding word_at with_word
word_at-same words part i x = go (dec_lt (place_of part i) (length words))
  where
    go : Dec (place_of part i < length words) → get_or (set words (place_of part i) x) (place_of part i) 0 ≤ x
    go (yes h) = rw get_or-set_same (omega arith)
    go (no h) =
        let out : length words ≤ place_of part i = omega arith in
        rw (set_out, get_or-eq_default) (omega arith)

-- at another place
pub word_at-other : (words : List ℕ) (part i x other j : ℕ) → (place_of other j ≡ place_of part i → ⊥) → word_at (with_word words part i x) other j ≡ word_at words other j
unfolding word_at with_word
word_at-other words part i x other j h = get_or-set_other words (place_of part i) (place_of other j) x 0 h

-- the count of a run that was done, and of one whose budget was spent
pub ran-done : (desk left : List ℕ) (n budget : ℕ) → n ≤ budget → left ≡ with_word desk 101 0 n → word_at left 101 0 ≤ budget
ran-done desk left n budget h e = rw e (omega (arith, word_at-same desk 101 0 n))

pub ran-spent : (desk one left : List ℕ) (budget : ℕ) → one ≡ with_word desk 101 0 budget → left ≡ with_word one 102 0 1 → word_at left 101 0 ≤ budget
unfolding place_of
ran-spent desk one left budget e f = rw (f, word_at-other one 102 0 1 101 0 (λ p. omega arith), e) (word_at-same desk 101 0 budget)
