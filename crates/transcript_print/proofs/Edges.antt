-- What is printed of small files, worked out by hand; kinds: `f` 102, `g` 103, `r` 114.
use Prim.Native.Nat.{ℕ}
use mathlib.Core.Path.{◌≡◌, refl}
use mathlib.Core.List.{List, [], ◌∷◌}
use lib.ListN.{replicate}
use Rattle.reader.proofs.Computed as reader
use Rattle.early_list.specs.Answers.{answers_words}
use Rattle.order.specs.Claim.{after_calls}
use Rattle.transcript.proofs.Computed as transcript
use Rattle.transcript_print.specs.Text.{call_words, replay_text}

-- 1, "empty file"; 1,024 labels and one more, which is 11 whatever the file; a label without a kind, and a kind without a label
pub replay_text-refused :
    (replay_text [] (114 ∷ []) (0 ∷ []) ≡ 114 ∷ 101 ∷ 102 ∷ 117 ∷ 115 ∷ 101 ∷ 100 ∷ 32 ∷ 49 ∷ 10 ∷ []) ×
    (replay_text [] (replicate 1024 114) (replicate 1024 0) ≡ 114 ∷ 101 ∷ 102 ∷ 117 ∷ 115 ∷ 101 ∷ 100 ∷ 32 ∷ 49 ∷ 10 ∷ []) ×
    (replay_text [] (replicate 1025 114) (replicate 1025 0) ≡ 114 ∷ 101 ∷ 102 ∷ 117 ∷ 115 ∷ 101 ∷ 100 ∷ 32 ∷ 49 ∷ 49 ∷ 10 ∷ []) ×
    (replay_text [] [] (0 ∷ []) ≡ 114 ∷ 101 ∷ 102 ∷ 117 ∷ 115 ∷ 101 ∷ 100 ∷ 32 ∷ 49 ∷ 49 ∷ 10 ∷ []) ×
    (replay_text [] (114 ∷ []) [] ≡ 114 ∷ 101 ∷ 102 ∷ 117 ∷ 115 ∷ 101 ∷ 100 ∷ 32 ∷ 49 ∷ 10 ∷ [])
unfolding reader.computed transcript.computed call_words replay_text
replay_text-refused = (refl, refl, refl, refl, refl)

abbrev one : List ℕ
one = 10 ∷ 0 ∷ 1 ∷ 0 ∷ 10 ∷ 0 ∷ 0 ∷ 0 ∷ 0 ∷ 0 ∷ 17 ∷ 0 ∷ 2 ∷ 0 ∷ 0 ∷ 0 ∷ 0 ∷ 0 ∷ 0 ∷ 0 ∷ 0 ∷ 0 ∷ 0 ∷ 0 ∷ 0 ∷ 0 ∷ 0 ∷ 5 ∷ 0 ∷ 3 ∷ 0 ∷ 0 ∷ 4 ∷ 0 ∷ 4 ∷ 0 ∷ []

-- case 1, thread 0, then an argument that is no number: `r 0 granted 0 0 0`, `r ? refused 10`, `t 0 0 ended 0 0`
pub replay_text-case-1 :
    replay_text one (114 ∷ 114 ∷ []) (0 ∷ 18446744073709551615 ∷ []) ≡ 114 ∷ 32 ∷ 48 ∷ 32 ∷ 103 ∷ 114 ∷ 97 ∷ 110 ∷ 116 ∷ 101 ∷ 100 ∷ 32 ∷ 48 ∷ 32 ∷ 48 ∷ 32 ∷ 48 ∷ 10 ∷ 114 ∷ 32 ∷ 63 ∷ 32 ∷ 114 ∷ 101 ∷ 102 ∷ 117 ∷ 115 ∷ 101 ∷ 100 ∷ 32 ∷ 49 ∷ 48 ∷ 10 ∷ 116 ∷ 32 ∷ 48 ∷ 32 ∷ 48 ∷ 32 ∷ 101 ∷ 110 ∷ 100 ∷ 101 ∷ 100 ∷ 32 ∷ 48 ∷ 32 ∷ 48 ∷ 10 ∷ []
unfolding reader.computed transcript.computed answers_words after_calls call_words replay_text
replay_text-case-1 = refl

-- `g0`: `t 0 0 running 0 0`
pub replay_text-running :
    replay_text one (103 ∷ []) (0 ∷ []) ≡ 103 ∷ 32 ∷ 48 ∷ 32 ∷ 103 ∷ 114 ∷ 97 ∷ 110 ∷ 116 ∷ 101 ∷ 100 ∷ 32 ∷ 48 ∷ 32 ∷ 48 ∷ 32 ∷ 48 ∷ 10 ∷ 116 ∷ 32 ∷ 48 ∷ 32 ∷ 48 ∷ 32 ∷ 114 ∷ 117 ∷ 110 ∷ 110 ∷ 105 ∷ 110 ∷ 103 ∷ 32 ∷ 48 ∷ 32 ∷ 48 ∷ 10 ∷ []
unfolding reader.computed transcript.computed answers_words after_calls call_words replay_text
replay_text-running = refl

-- `f0`, `g0`, `f0`, `g0`, `f256`, `g` alone: 19, granted, finished, 12, 10, 10
pub replay_text-kinds :
    replay_text one (102 ∷ 103 ∷ 102 ∷ 103 ∷ 102 ∷ 103 ∷ []) (0 ∷ 0 ∷ 0 ∷ 0 ∷ 256 ∷ 18446744073709551615 ∷ []) ≡ 102 ∷ 32 ∷ 48 ∷ 32 ∷ 114 ∷ 101 ∷ 102 ∷ 117 ∷ 115 ∷ 101 ∷ 100 ∷ 32 ∷ 49 ∷ 57 ∷ 10 ∷ 103 ∷ 32 ∷ 48 ∷ 32 ∷ 103 ∷ 114 ∷ 97 ∷ 110 ∷ 116 ∷ 101 ∷ 100 ∷ 32 ∷ 48 ∷ 32 ∷ 48 ∷ 32 ∷ 48 ∷ 10 ∷ 102 ∷ 32 ∷ 48 ∷ 32 ∷ 102 ∷ 105 ∷ 110 ∷ 105 ∷ 115 ∷ 104 ∷ 101 ∷ 100 ∷ 32 ∷ 48 ∷ 32 ∷ 48 ∷ 32 ∷ 48 ∷ 10 ∷ 103 ∷ 32 ∷ 48 ∷ 32 ∷ 114 ∷ 101 ∷ 102 ∷ 117 ∷ 115 ∷ 101 ∷ 100 ∷ 32 ∷ 49 ∷ 50 ∷ 10 ∷ 102 ∷ 32 ∷ 50 ∷ 53 ∷ 54 ∷ 32 ∷ 114 ∷ 101 ∷ 102 ∷ 117 ∷ 115 ∷ 101 ∷ 100 ∷ 32 ∷ 49 ∷ 48 ∷ 10 ∷ 103 ∷ 32 ∷ 63 ∷ 32 ∷ 114 ∷ 101 ∷ 102 ∷ 117 ∷ 115 ∷ 101 ∷ 100 ∷ 32 ∷ 49 ∷ 48 ∷ 10 ∷ 116 ∷ 32 ∷ 48 ∷ 32 ∷ 48 ∷ 32 ∷ 101 ∷ 110 ∷ 100 ∷ 101 ∷ 100 ∷ 32 ∷ 48 ∷ 32 ∷ 48 ∷ 10 ∷ []
unfolding reader.computed transcript.computed answers_words after_calls call_words replay_text
replay_text-kinds = refl
