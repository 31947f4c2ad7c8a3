-- The definitions of `specs/Row.antt` at their edges: closed examples, worked out from documents 01 and 02.
use Prim.Native.Nat.{ℕ}
use mathlib.Core.Path.{◌≡◌, refl}
use mathlib.Core.List.{[], ◌∷◌}
use lib.ListN.{length, get_or, take, replicate}
use Rattle.model.specs.declared.Next.{Next}
use Rattle.model.specs.declared.Closer.{Closer}
use Rattle.model.specs.declared.Closer.TheVariants.{End, Time, Event}
use Rattle.tables.specs.Word.{all_ones, words_of}
use Rattle.tables.proofs.Edges.{with_segments, model_of, waits}
use Rattle.tables_distance.specs.Store.{steps_of}
use Rattle.tables_row.specs.Row.{step_word, step_words, steps_in}
use Rattle.tables_row.proofs.Computed.{computed}

-- a or b next; the one next segment s, with no test
abbrev either : ℕ → ℕ → Next
either a b = record { a = a; b = b; test = 0; limit = 0 }

abbrev onward : ℕ → Next
onward s = record { a = s; b = s; test = 255; limit = 0 }

abbrev units : ℕ → Next → Closer
units k x = Time (record { 0 = k }) x

-- STEPS; `waits a b` leads from segment 0 to segment 2 over waits a, then b

-- the word × 65,536, the first next segment × 256, the second. An end is past the cut, 1,000,000,001 × 1,024; a zero wait and an event wait are one
-- delta; 7 units are 7 × 1,024; exactly 1,000,000,000 units are before the cut, one more is at it
pub step_word-edges :
    (step_word (steps_of End) ≡ 67108864067108864) ×
    (step_word (steps_of (units 0 (either 1 2))) ≡ 65794) ×
    (step_word (steps_of (Event 0 (either 1 2))) ≡ 65794) ×
    (step_word (steps_of (units 7 (either 1 2))) ≡ 469762306) ×
    (step_word (steps_of (units 1 (either 63 0))) ≡ 67124992) ×
    (step_word (steps_of (units 1000000000 (onward 0))) ≡ 67108864000000000) ×
    (step_word (steps_of (units 1000000001 (onward 0))) ≡ 67108864067108864)
unfolding computed
step_word-edges = (refl, refl, refl, refl, refl, refl, refl)

-- 64 words, those past N too
pub step_words-edges :
    (length (step_words (waits 0 7)) ≡ 64) ×
    (take 4 (step_words (waits 0 7)) ≡ 65793 ∷ 469762562 ∷ 67108864067108864 ∷ 67108864067108864 ∷ []) ×
    (get_or (step_words (waits 0 7)) 63 0 ≡ 67108864067108864)
unfolding waits model_of with_segments computed
step_words-edges = (refl, refl, refl)

-- a buffer of 63 words stays; of 64 it is all stored; of 65 the last word stays
pub steps_in-edges :
    (steps_in (waits 0 7) (replicate 63 5) ≡ replicate 63 5) ×
    (steps_in (waits 0 7) (replicate 64 5) ≡ step_words (waits 0 7)) ×
    (length (steps_in (waits 0 7) (replicate 65 5)) ≡ 65) ×
    (get_or (steps_in (waits 0 7) (replicate 65 5)) 0 0 ≡ 65793) ×
    (get_or (steps_in (waits 0 7) (replicate 65 5)) 63 0 ≡ 67108864067108864) ×
    (get_or (steps_in (waits 0 7) (replicate 65 5)) 64 0 ≡ 5)
unfolding waits model_of with_segments computed
steps_in-edges = (refl, refl, refl, refl, refl, refl)

-- ROWS

-- of segment 0, as `IsRow` names them: over waits 0 then 7, over 7 then 0; a path of 1,000,000,000 units, and of one more
pub rows-edges :
    (take 3 (words_of (waits 0 7)) ≡ 0 ∷ 1 ∷ 7168 ∷ []) ×
    (take 3 (words_of (waits 7 0)) ≡ 0 ∷ 7168 ∷ 7169 ∷ []) ×
    (take 3 (words_of (waits 500000000 500000000)) ≡ 0 ∷ 512000000000 ∷ 1024000000000 ∷ []) ×
    (take 3 (words_of (waits 500000000 500000001)) ≡ 0 ∷ 512000000000 ∷ all_ones ∷ [])
unfolding waits model_of with_segments computed
rows-edges = (refl, refl, refl, refl)
