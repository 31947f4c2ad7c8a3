-- The lines of a transcript, worked out by hand; ASCII: line feed 10, space 32, `0` 48, `?` 63, `f` 102, `g` 103, `r` 114.
use Prim.Native.Nat.{ℕ}
use mathlib.Core.Path.{◌≡◌, refl}
use mathlib.Core.Bool.{true, false}
use mathlib.Core.List.{List, [], ◌∷◌}
use lib.ListN.{length, replicate}
use Rattle.clock.specs.Cycle.{cycle_at}
use Rattle.model.specs.declared.State.TheVariants.{Ended, Running}
use Rattle.model.specs.declared.Thread.{Thread}
use Rattle.early.specs.declared.Notification.{Notification}
use Rattle.early.specs.declared.Site.{Site}
use Rattle.early.specs.declared.Call.TheVariants.{Both, Grant, Finish}
use Rattle.early.specs.Log.{pair_of}
use Rattle.early.specs.Call.{call_at}
use Rattle.transcript.specs.Label.{is_digit, value_of, kind_of, label_of, thread_of, word_of}
use Rattle.transcript.specs.Transcript.{letter_of, call_line, l_line, is_unfit_list, transcript_of}
use Rattle.transcript.proofs.Computed.{computed}

abbrev site : List ℕ → List Notification → ℕ → Site
site xs log count = record { variables = record { at = xs }; log = log; count = count }

abbrev ended : Thread
ended = record { segment = 1; state = Ended (cycle_at 5 0) }

abbrev running : Thread
running = record { segment = 1; state = Running (cycle_at 3 0) }

-- one below `0`, `0`, `9`, one above `9`
pub is_digit-edges :
    (is_digit 47 ≡ false) ×
    (is_digit 48 ≡ true) ×
    (is_digit 57 ≡ true) ×
    (is_digit 58 ≡ false)
unfolding computed
is_digit-edges = (refl, refl, refl, refl)

-- no byte, `0`, `31`, `007`, `300`; `x`, `1x`, `-1`; 19 digits, and 20
pub value_of-edges :
    (value_of [] ≡ 18446744073709551615) ×
    (value_of (48 ∷ []) ≡ 0) ×
    (value_of (51 ∷ 49 ∷ []) ≡ 31) ×
    (value_of (48 ∷ 48 ∷ 55 ∷ []) ≡ 7) ×
    (value_of (51 ∷ 48 ∷ 48 ∷ []) ≡ 300) ×
    (value_of (120 ∷ []) ≡ 18446744073709551615) ×
    (value_of (49 ∷ 120 ∷ []) ≡ 18446744073709551615) ×
    (value_of (45 ∷ 49 ∷ []) ≡ 18446744073709551615) ×
    (value_of (57 ∷ 57 ∷ 57 ∷ 57 ∷ 57 ∷ 57 ∷ 57 ∷ 57 ∷ 57 ∷ 57 ∷ 57 ∷ 57 ∷ 57 ∷ 57 ∷ 57 ∷ 57 ∷ 57 ∷ 57 ∷ 57 ∷ []) ≡ 9999999999999999999) ×
    (value_of (49 ∷ 48 ∷ 48 ∷ 48 ∷ 48 ∷ 48 ∷ 48 ∷ 48 ∷ 48 ∷ 48 ∷ 48 ∷ 48 ∷ 48 ∷ 48 ∷ 48 ∷ 48 ∷ 48 ∷ 48 ∷ 48 ∷ 48 ∷ []) ≡ 18446744073709551615)
unfolding computed
value_of-edges = (refl, refl, refl, refl, refl, refl, refl, refl, refl, refl)

-- no byte, `5`; `g`, `f`, and the letters beside them; an `f` that is not first
pub kind_of-edges :
    (kind_of [] ≡ 114) ×
    (kind_of (53 ∷ []) ≡ 114) ×
    (kind_of (103 ∷ []) ≡ 103) ×
    (kind_of (102 ∷ []) ≡ 102) ×
    (kind_of (101 ∷ 53 ∷ []) ≡ 114) ×
    (kind_of (104 ∷ 53 ∷ []) ≡ 114) ×
    (kind_of (114 ∷ 53 ∷ []) ≡ 114) ×
    (kind_of (53 ∷ 102 ∷ []) ≡ 114) ×
    (kind_of (103 ∷ 102 ∷ []) ≡ 103)
unfolding computed
kind_of-edges = (refl, refl, refl, refl, refl, refl, refl, refl, refl)

-- `5`; `g` and `f` alone, `g5`, `gg5`, `fg5`, `r5`, `f255`, `f256`; 19 digits after a letter, and 20
pub label_of-edges :
    (label_of [] ≡ 18446744073709551615) ×
    (label_of (53 ∷ []) ≡ 5) ×
    (label_of (103 ∷ []) ≡ 18446744073709551615) ×
    (label_of (102 ∷ []) ≡ 18446744073709551615) ×
    (label_of (103 ∷ 53 ∷ []) ≡ 5) ×
    (label_of (103 ∷ 103 ∷ 53 ∷ []) ≡ 18446744073709551615) ×
    (label_of (102 ∷ 103 ∷ 53 ∷ []) ≡ 18446744073709551615) ×
    (label_of (114 ∷ 53 ∷ []) ≡ 18446744073709551615) ×
    (label_of (102 ∷ 50 ∷ 53 ∷ 53 ∷ []) ≡ 255) ×
    (label_of (102 ∷ 50 ∷ 53 ∷ 54 ∷ []) ≡ 256) ×
    (label_of (103 ∷ 57 ∷ 57 ∷ 57 ∷ 57 ∷ 57 ∷ 57 ∷ 57 ∷ 57 ∷ 57 ∷ 57 ∷ 57 ∷ 57 ∷ 57 ∷ 57 ∷ 57 ∷ 57 ∷ 57 ∷ 57 ∷ 57 ∷ []) ≡ 9999999999999999999) ×
    (label_of (103 ∷ 49 ∷ 48 ∷ 48 ∷ 48 ∷ 48 ∷ 48 ∷ 48 ∷ 48 ∷ 48 ∷ 48 ∷ 48 ∷ 48 ∷ 48 ∷ 48 ∷ 48 ∷ 48 ∷ 48 ∷ 48 ∷ 48 ∷ 48 ∷ []) ≡ 18446744073709551615)
unfolding computed
label_of-edges = (refl, refl, refl, refl, refl, refl, refl, refl, refl, refl, refl, refl)

-- 254, 255 and 256, and no number
pub thread_of-edges :
    (thread_of 0 ≡ 0) ×
    (thread_of 254 ≡ 254) ×
    (thread_of 255 ≡ 255) ×
    (thread_of 256 ≡ 255) ×
    (thread_of 18446744073709551615 ≡ 255)
unfolding computed
thread_of-edges = (refl, refl, refl, refl, refl)

-- thread 254 and what is none, of each kind; as calls; and the letter of the line is the kind
pub word_of-edges :
    (word_of 114 254 ≡ 254) ×
    (word_of 114 256 ≡ 255) ×
    (word_of 103 254 ≡ 510) ×
    (word_of 103 18446744073709551615 ≡ 511) ×
    (word_of 102 0 ≡ 512) ×
    (word_of 102 256 ≡ 767) ×
    (call_at (word_of 114 7) ≡ Both 7) ×
    (call_at (word_of 103 7) ≡ Grant 7) ×
    (call_at (word_of 102 7) ≡ Finish 7) ×
    (call_at (word_of 102 18446744073709551615) ≡ Finish 255) ×
    (letter_of (word_of 114 18446744073709551615) ≡ 114) ×
    (letter_of (word_of 103 0) ≡ 103) ×
    (letter_of (word_of 103 18446744073709551615) ≡ 103) ×
    (letter_of (word_of 102 0) ≡ 102)
unfolding computed
word_of-edges = (refl, refl, refl, refl, refl, refl, refl, refl, refl, refl, refl, refl, refl, refl)

-- 255 and 256, 511 and 512, 767 and 768
pub letter_of-edges :
    (letter_of 255 ≡ 114) ×
    (letter_of 256 ≡ 103) ×
    (letter_of 511 ≡ 103) ×
    (letter_of 512 ≡ 102) ×
    (letter_of 767 ≡ 102) ×
    (letter_of 768 ≡ 102)
unfolding computed
letter_of-edges = (refl, refl, refl, refl, refl, refl)

-- `r 0 granted 3 1250 1`, `r 300 refused 10`, `r ? refused 10`; 1 is a refusal, and a label of one less than no number its digits
pub call_line-edges :
    (call_line 0 0 0 3 1250 1 ≡ 114 ∷ 32 ∷ 48 ∷ 32 ∷ 103 ∷ 114 ∷ 97 ∷ 110 ∷ 116 ∷ 101 ∷ 100 ∷ 32 ∷ 51 ∷ 32 ∷ 49 ∷ 50 ∷ 53 ∷ 48 ∷ 32 ∷ 49 ∷ 10 ∷ []) ×
    (call_line 300 255 10 0 0 0 ≡ 114 ∷ 32 ∷ 51 ∷ 48 ∷ 48 ∷ 32 ∷ 114 ∷ 101 ∷ 102 ∷ 117 ∷ 115 ∷ 101 ∷ 100 ∷ 32 ∷ 49 ∷ 48 ∷ 10 ∷ []) ×
    (call_line 18446744073709551615 255 10 0 0 0 ≡ 114 ∷ 32 ∷ 63 ∷ 32 ∷ 114 ∷ 101 ∷ 102 ∷ 117 ∷ 115 ∷ 101 ∷ 100 ∷ 32 ∷ 49 ∷ 48 ∷ 10 ∷ []) ×
    (call_line 18446744073709551614 255 1 7 7 7 ≡ 114 ∷ 32 ∷ 49 ∷ 56 ∷ 52 ∷ 52 ∷ 54 ∷ 55 ∷ 52 ∷ 52 ∷ 48 ∷ 55 ∷ 51 ∷ 55 ∷ 48 ∷ 57 ∷ 53 ∷ 53 ∷ 49 ∷ 54 ∷ 49 ∷ 52 ∷ 32 ∷ 114 ∷ 101 ∷ 102 ∷ 117 ∷ 115 ∷ 101 ∷ 100 ∷ 32 ∷ 49 ∷ 10 ∷ [])
unfolding computed
call_line-edges = (refl, refl, refl, refl)

-- at 256 and 511 a grant's, at 512, 767 and 768 a finish's: `g 0 granted 0 0 0`, `g ? refused 10`, `f 0 finished 3 5 1`, `f 300 refused 10`, `f 1 finished 0 0 0`
pub call_line-kinds :
    (call_line 0 256 0 0 0 0 ≡ 103 ∷ 32 ∷ 48 ∷ 32 ∷ 103 ∷ 114 ∷ 97 ∷ 110 ∷ 116 ∷ 101 ∷ 100 ∷ 32 ∷ 48 ∷ 32 ∷ 48 ∷ 32 ∷ 48 ∷ 10 ∷ []) ×
    (call_line 18446744073709551615 511 10 0 0 0 ≡ 103 ∷ 32 ∷ 63 ∷ 32 ∷ 114 ∷ 101 ∷ 102 ∷ 117 ∷ 115 ∷ 101 ∷ 100 ∷ 32 ∷ 49 ∷ 48 ∷ 10 ∷ []) ×
    (call_line 0 512 0 3 5 1 ≡ 102 ∷ 32 ∷ 48 ∷ 32 ∷ 102 ∷ 105 ∷ 110 ∷ 105 ∷ 115 ∷ 104 ∷ 101 ∷ 100 ∷ 32 ∷ 51 ∷ 32 ∷ 53 ∷ 32 ∷ 49 ∷ 10 ∷ []) ×
    (call_line 300 767 10 0 0 0 ≡ 102 ∷ 32 ∷ 51 ∷ 48 ∷ 48 ∷ 32 ∷ 114 ∷ 101 ∷ 102 ∷ 117 ∷ 115 ∷ 101 ∷ 100 ∷ 32 ∷ 49 ∷ 48 ∷ 10 ∷ []) ×
    (call_line 1 768 0 0 0 0 ≡ 102 ∷ 32 ∷ 49 ∷ 32 ∷ 102 ∷ 105 ∷ 110 ∷ 105 ∷ 115 ∷ 104 ∷ 101 ∷ 100 ∷ 32 ∷ 48 ∷ 32 ∷ 48 ∷ 32 ∷ 48 ∷ 10 ∷ [])
unfolding computed
call_line-kinds = (refl, refl, refl, refl, refl)

-- `l 2 5 1023`
pub l_line-edges :
    l_line (pair_of 2 (cycle_at 5 1023)) ≡ 108 ∷ 32 ∷ 50 ∷ 32 ∷ 53 ∷ 32 ∷ 49 ∷ 48 ∷ 50 ∷ 51 ∷ 10 ∷ []
unfolding computed
l_line-edges = refl

-- 1,024 calls and one more; 5 words for a call and one less
pub is_unfit_list-edges :
    (is_unfit_list (replicate 1024 0) (replicate 5120 0) ≡ false) ×
    (is_unfit_list (replicate 1025 0) (replicate 5125 0) ≡ true) ×
    (is_unfit_list (0 ∷ []) (replicate 5 0) ≡ false) ×
    (is_unfit_list (0 ∷ []) (replicate 4 0) ≡ true) ×
    (is_unfit_list [] [] ≡ false)
unfolding computed
is_unfit_list-edges = (refl, refl, refl, refl, refl)

-- two requests, a grant and a finish, one variable, two threads, one of them running, two logged pairs in the log's order; the place past
-- the count has no line
pub transcript_of-whole :
    transcript_of (0 ∷ 1 ∷ 1 ∷ 1 ∷ []) (0 ∷ 0 ∷ 2 ∷ 0 ∷ 0 ∷ 1 ∷ 12 ∷ 0 ∷ 0 ∷ 0 ∷ 257 ∷ 0 ∷ 1 ∷ 3 ∷ 0 ∷ 513 ∷ 0 ∷ 1 ∷ 3 ∷ 0 ∷ []) 1 2 (site (7 ∷ 8 ∷ []) (pair_of 0 (cycle_at 4 0) ∷ pair_of 1 (cycle_at 3 2) ∷ pair_of 1 (cycle_at 9 9) ∷ []) 2) (ended ∷ running ∷ ended ∷ []) ≡ 114 ∷ 32 ∷ 48 ∷ 32 ∷ 103 ∷ 114 ∷ 97 ∷ 110 ∷ 116 ∷ 101 ∷ 100 ∷ 32 ∷ 50 ∷ 32 ∷ 48 ∷ 32 ∷ 48 ∷ 10 ∷ 114 ∷ 32 ∷ 49 ∷ 32 ∷ 114 ∷ 101 ∷ 102 ∷ 117 ∷ 115 ∷ 101 ∷ 100 ∷ 32 ∷ 49 ∷ 50 ∷ 10 ∷ 103 ∷ 32 ∷ 49 ∷ 32 ∷ 103 ∷ 114 ∷ 97 ∷ 110 ∷ 116 ∷ 101 ∷ 100 ∷ 32 ∷ 49 ∷ 32 ∷ 51 ∷ 32 ∷ 48 ∷ 10 ∷ 102 ∷ 32 ∷ 49 ∷ 32 ∷ 102 ∷ 105 ∷ 110 ∷ 105 ∷ 115 ∷ 104 ∷ 101 ∷ 100 ∷ 32 ∷ 49 ∷ 32 ∷ 51 ∷ 32 ∷ 48 ∷ 10 ∷ 118 ∷ 32 ∷ 48 ∷ 32 ∷ 55 ∷ 10 ∷ 116 ∷ 32 ∷ 48 ∷ 32 ∷ 49 ∷ 32 ∷ 101 ∷ 110 ∷ 100 ∷ 101 ∷ 100 ∷ 32 ∷ 53 ∷ 32 ∷ 48 ∷ 10 ∷ 116 ∷ 32 ∷ 49 ∷ 32 ∷ 49 ∷ 32 ∷ 114 ∷ 117 ∷ 110 ∷ 110 ∷ 105 ∷ 110 ∷ 103 ∷ 32 ∷ 51 ∷ 32 ∷ 48 ∷ 10 ∷ 108 ∷ 32 ∷ 48 ∷ 32 ∷ 52 ∷ 32 ∷ 48 ∷ 10 ∷ 108 ∷ 32 ∷ 49 ∷ 32 ∷ 51 ∷ 32 ∷ 50 ∷ 10 ∷ []
unfolding computed
transcript_of-whole = refl

-- no call, no variable, no thread, no pair; a list without its words: `refused 11`
pub transcript_of-none :
    (transcript_of [] [] 0 0 (site [] [] 0) [] ≡ []) ×
    (transcript_of (0 ∷ []) [] 1 1 (site (7 ∷ []) [] 0) (ended ∷ []) ≡ 114 ∷ 101 ∷ 102 ∷ 117 ∷ 115 ∷ 101 ∷ 100 ∷ 32 ∷ 49 ∷ 49 ∷ 10 ∷ [])
unfolding computed
transcript_of-none = (refl, refl)

-- as many lines as there are places: `l 0 0 0` is 8 bytes; `v 0 0` to `v 63 0` are 438, `t 0 0 ended 0 0` to thread 31 534
pub transcript_of-places :
    (length (transcript_of [] [] 0 0 (site [] [] 127) []) ≡ 1016) ×
    (length (transcript_of [] [] 0 0 (site [] [] 128) []) ≡ 1024) ×
    (length (transcript_of [] [] 0 0 (site [] [] 129) []) ≡ 1024) ×
    (length (transcript_of [] [] 64 0 (site [] [] 0) []) ≡ 438) ×
    (length (transcript_of [] [] 65 0 (site [] [] 0) []) ≡ 438) ×
    (length (transcript_of [] [] 0 32 (site [] [] 0) []) ≡ 534) ×
    (length (transcript_of [] [] 0 33 (site [] [] 0) []) ≡ 534)
unfolding computed
transcript_of-places = (refl, refl, refl, refl, refl, refl, refl)
