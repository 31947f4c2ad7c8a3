-- Closed examples: a buffer below, at and above five words for each call; the words of answers, and how many are no refusals.
-- The other comparisons are those of `early`, which `FitAnswerLaws` proves them to be.
use mathlib.Core.Path.{◌≡◌, refl}
use mathlib.Core.Bool.{true, false}
use mathlib.Core.List.{[], ◌∷◌}
use lib.ListN.{replicate}
use Rattle.clock.specs.Cycle.{cycle_at}
use Rattle.early.specs.declared.Answer.TheVariants.{Granted, Refused}
use Rattle.early_list.specs.Answers.{answers_words, granted_in, is_short}

pub is_short-edges :
    (is_short (7 ∷ 7 ∷ []) (replicate 9 0) ≡ true) × (is_short (7 ∷ 7 ∷ []) (replicate 10 0) ≡ false) × (is_short (7 ∷ 7 ∷ []) (replicate 11 0) ≡ false) × (is_short [] [] ≡ false)
unfolding is_short
is_short-edges = (refl, refl, refl, refl)

pub answers_words-edges : answers_words (256 ∷ 3 ∷ []) (Granted 2 (cycle_at 5 7) ∷ Refused 14 ∷ []) ≡ 256 ∷ 0 ∷ 2 ∷ 5 ∷ 7 ∷ 3 ∷ 14 ∷ 0 ∷ 0 ∷ 0 ∷ []
unfolding answers_words
answers_words-edges = refl

pub granted_in-edges : granted_in (Granted 2 (cycle_at 5 7) ∷ Refused 14 ∷ Granted 0 (cycle_at 6 0) ∷ []) ≡ 2
unfolding granted_in
granted_in-edges = refl
