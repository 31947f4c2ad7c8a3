-- A replay of small files, worked out by hand.
use Prim.Native.Nat.{ℕ}
use mathlib.Core.Path.{◌≡◌, refl}
use mathlib.Core.List.{List, [], ◌∷◌, ◌++◌}
use lib.ListN.{replicate}
use Rattle.base.specs.Index.{or_else}
use Rattle.reader.proofs.Computed as reader
use Rattle.tables.specs.Outcome as tables
use Rattle.early.proofs.Computed as early
use Rattle.early_list.specs.Answers.{answers_words, granted_in, is_short}
use Rattle.order.specs.Claim.{after_calls}
use Rattle.replay.specs.Replay.{done_on, is_unfit_lent, number_on, replayed_on, words_on, held_on, answers_on, replayed_of, words_after, held_after, answers_after}

-- case 1: "the 36-byte file of H = 10, V = E = 0, one ending segment, one thread"
abbrev one : List ℕ
one = 10 ∷ 0 ∷ 1 ∷ 0 ∷ 10 ∷ 0 ∷ 0 ∷ 0 ∷ 0 ∷ 0 ∷ 17 ∷ 0 ∷ 2 ∷ 0 ∷ 0 ∷ 0 ∷ 0 ∷ 0 ∷ 0 ∷ 0 ∷ 0 ∷ 0 ∷ 0 ∷ 0 ∷ 0 ∷ 0 ∷ 0 ∷ 5 ∷ 0 ∷ 3 ∷ 0 ∷ 0 ∷ 4 ∷ 0 ∷ 4 ∷ 0 ∷ []

-- the file's 1 ("empty file") before the 11 of a buffer one word short of 5 for the call; 11 before the 16 of a table without words; nothing is written
pub replayed_of-edges :
    ((replayed_of [] (5 ∷ []) (replicate 64 9) (0 ∷ []) (7 ∷ 7 ∷ 7 ∷ 7 ∷ [])).number ≡ 1) ×
    (words_after [] (5 ∷ []) (replicate 64 9) (0 ∷ []) (7 ∷ 7 ∷ 7 ∷ 7 ∷ []) ≡ 5 ∷ []) ×
    (held_after [] (5 ∷ []) (9 ∷ []) (0 ∷ []) (7 ∷ 7 ∷ 7 ∷ 7 ∷ []) ≡ 9 ∷ []) ×
    (answers_after [] (5 ∷ []) (replicate 64 9) (0 ∷ []) (7 ∷ 7 ∷ 7 ∷ 7 ∷ []) ≡ (7 ∷ 7 ∷ 7 ∷ 7 ∷ [])) ×
    ((replayed_of one [] (replicate 64 9) (0 ∷ []) (7 ∷ 7 ∷ 7 ∷ 7 ∷ [])).number ≡ 11) ×
    (words_after one [] (replicate 64 9) (0 ∷ []) (7 ∷ 7 ∷ 7 ∷ 7 ∷ []) ≡ []) ×
    (answers_after one [] (replicate 64 9) (0 ∷ []) (7 ∷ 7 ∷ 7 ∷ 7 ∷ []) ≡ (7 ∷ 7 ∷ 7 ∷ 7 ∷ [])) ×
    ((replayed_of one [] (replicate 64 9) (0 ∷ []) (7 ∷ 7 ∷ 7 ∷ 7 ∷ 7 ∷ [])).number ≡ 16)
unfolding reader.computed early.computed or_else tables.if_held tables.is_short tables.distances_number tables.distances_buffer answers_words granted_in is_short after_calls done_on is_unfit_lent number_on replayed_on words_on held_on answers_on replayed_of words_after held_after answers_after
replayed_of-edges = (refl, refl, refl, refl, refl, refl, refl, refl)

-- 63 held values for the one thread are 11, and stay as they are; 64 are enough, and none without a call are too few
pub replayed_of-held :
    ((replayed_of one (5 ∷ []) (replicate 63 9) (0 ∷ []) (7 ∷ 7 ∷ 7 ∷ 7 ∷ 7 ∷ [])).number ≡ 11) ×
    (words_after one (5 ∷ []) (replicate 63 9) (0 ∷ []) (7 ∷ 7 ∷ 7 ∷ 7 ∷ 7 ∷ []) ≡ 5 ∷ []) ×
    (held_after one (5 ∷ []) (replicate 63 9) (0 ∷ []) (7 ∷ 7 ∷ 7 ∷ 7 ∷ 7 ∷ []) ≡ replicate 63 9) ×
    (answers_after one (5 ∷ []) (replicate 63 9) (0 ∷ []) (7 ∷ 7 ∷ 7 ∷ 7 ∷ 7 ∷ []) ≡ (7 ∷ 7 ∷ 7 ∷ 7 ∷ 7 ∷ [])) ×
    ((replayed_of one (5 ∷ []) (replicate 64 9) (0 ∷ []) (7 ∷ 7 ∷ 7 ∷ 7 ∷ 7 ∷ [])).number ≡ 0) ×
    ((replayed_of one (5 ∷ []) [] [] []).number ≡ 11)
unfolding reader.computed early.computed or_else tables.if_held tables.is_short tables.distances_number tables.distances_buffer answers_words granted_in is_short after_calls done_on is_unfit_lent number_on replayed_on words_on held_on answers_on replayed_of words_after held_after answers_after
replayed_of-held = (refl, refl, refl, refl, refl, refl)

-- no word for the table is 16; with one, the first request is granted and the second, on what the first left, refused with 12. Nothing is held
pub replayed_of-case-1 :
    ((replayed_of one [] (replicate 64 9) (0 ∷ 0 ∷ []) (replicate 11 7)).number ≡ 16) ×
    ((replayed_of one (5 ∷ 6 ∷ []) (replicate 64 9) (0 ∷ 0 ∷ []) (replicate 11 7)).number ≡ 0) ×
    ((replayed_of one (5 ∷ 6 ∷ []) (replicate 64 9) (0 ∷ 0 ∷ []) (replicate 11 7)).granted ≡ 1) ×
    (words_after one (5 ∷ 6 ∷ []) (replicate 64 9) (0 ∷ 0 ∷ []) (replicate 11 7) ≡ 0 ∷ 6 ∷ []) ×
    (held_after one (5 ∷ 6 ∷ []) (replicate 64 9) (0 ∷ 0 ∷ []) (replicate 11 7) ≡ replicate 64 9) ×
    (answers_after one (5 ∷ 6 ∷ []) (replicate 64 9) (0 ∷ 0 ∷ []) (replicate 11 7) ≡ 0 ∷ 0 ∷ 0 ∷ 0 ∷ 0 ∷ 0 ∷ 12 ∷ 0 ∷ 0 ∷ 0 ∷ 7 ∷ [])
unfolding reader.computed early.computed or_else tables.if_held tables.is_short tables.distances_number tables.distances_buffer answers_words granted_in is_short after_calls done_on is_unfit_lent number_on replayed_on words_on held_on answers_on replayed_of words_after held_after answers_after
replayed_of-case-1 = (refl, refl, refl, refl, refl, refl)

-- a finish of what is not running is 19; a grant holds the variables in the first 64 of 65 numbers
pub replayed_of-running :
    ((replayed_of one (5 ∷ []) (replicate 65 9) (512 ∷ 256 ∷ []) (replicate 16 7)).granted ≡ 1) ×
    (held_after one (5 ∷ []) (replicate 65 9) (512 ∷ 256 ∷ []) (replicate 16 7) ≡ replicate 64 0 ++ (9 ∷ [])) ×
    (answers_after one (5 ∷ []) (replicate 65 9) (512 ∷ 256 ∷ []) (replicate 16 7) ≡ 512 ∷ 19 ∷ 0 ∷ 0 ∷ 0 ∷ 256 ∷ 0 ∷ 0 ∷ 0 ∷ 0 ∷ 7 ∷ 7 ∷ 7 ∷ 7 ∷ 7 ∷ 7 ∷ [])
unfolding reader.computed early.computed or_else tables.if_held tables.is_short tables.distances_number tables.distances_buffer answers_words granted_in is_short after_calls done_on is_unfit_lent number_on replayed_on words_on held_on answers_on replayed_of words_after held_after answers_after
replayed_of-running = (refl, refl, refl)

-- granted, granted again (19), finished: both that were not refused count. Thread 255, of each kind, is 10: at 255, 511, 767, and from 768 on
pub replayed_of-finished :
    ((replayed_of one (5 ∷ []) (replicate 64 9) (256 ∷ 256 ∷ 512 ∷ []) (replicate 16 7)).granted ≡ 2) ×
    (answers_after one (5 ∷ []) (replicate 64 9) (256 ∷ 256 ∷ 512 ∷ []) (replicate 16 7) ≡ 256 ∷ 0 ∷ 0 ∷ 0 ∷ 0 ∷ 256 ∷ 19 ∷ 0 ∷ 0 ∷ 0 ∷ 512 ∷ 0 ∷ 0 ∷ 0 ∷ 0 ∷ 7 ∷ []) ×
    (answers_after one (5 ∷ []) (replicate 64 9) (255 ∷ 511 ∷ 767 ∷ 768 ∷ []) (replicate 20 7) ≡ 255 ∷ 10 ∷ 0 ∷ 0 ∷ 0 ∷ 511 ∷ 10 ∷ 0 ∷ 0 ∷ 0 ∷ 767 ∷ 10 ∷ 0 ∷ 0 ∷ 0 ∷ 768 ∷ 10 ∷ 0 ∷ 0 ∷ 0 ∷ [])
unfolding reader.computed early.computed or_else tables.if_held tables.is_short tables.distances_number tables.distances_buffer answers_words granted_in is_short after_calls done_on is_unfit_lent number_on replayed_on words_on held_on answers_on replayed_of words_after held_after answers_after
replayed_of-finished = (refl, refl, refl)
