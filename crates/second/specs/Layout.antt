-- The words of a desk, laid out as the library's numbers are: records, the log in the order of insertion, then variables, how many
-- segments were run, whether the budget was spent, and the log's count.
-- Assumes nothing.
use Rattle.std.specs.Prelude.{ℕ, zero, suc, ◌+◌, ◌*◌, ◌/◌, ◌%◌, List, replicate, slice_set}
use Rattle.second.specs.Desk.{word_at, with_word}

-- three words, and five, from a place on
abbrev pub three_in : List ℕ → ℕ → ℕ → ℕ → ℕ → List ℕ
three_in words k a b c = slice_set (slice_set (slice_set words k a) (k + 1) b) (k + 2) c

abbrev pub five_in : List ℕ → ℕ → ℕ → ℕ → ℕ → ℕ → ℕ → List ℕ
five_in words k a b c d e = slice_set (slice_set (three_in words k a b c) (k + 3) d) (k + 4) e

-- an answer: number, segment, time, delta
abbrev pub reply_in : List ℕ → ℕ → ℕ → ℕ → ℕ → List ℕ
reply_in words a b c d = slice_set (slice_set (slice_set (slice_set words 611 a) 612 b) 613 c) 614 d

-- the record of thread k in one word x
unfoldable pub record_in : List ℕ → ℕ → ℕ → List ℕ
record_in words k x = five_in words (k % 32 * 5 % 635) (x / 8 % 128) (x % 8) (x / 1024 % 256) (x / 262144 / 1024) (x / 262144 % 1024)

unfoldable pub records_to : List ℕ → List ℕ → ℕ → List ℕ
records_to desk out zero = out
records_to desk out (suc k) = record_in (records_to desk out k) k (word_at desk 224 k)

-- notification i of the log in one word w
unfoldable pub pair_in : List ℕ → ℕ → ℕ → List ℕ
pair_in words i w = three_in words ((227 + 3 * (i % 128)) % 637) (w / 2199023255552) (w % 2199023255552 / 1024) (w % 2199023255552 % 1024)

unfoldable pub pairs_to : List ℕ → List ℕ → ℕ → List ℕ
pairs_to desk out zero = out
pairs_to desk out (suc i) = pair_in (pairs_to desk out i) i (word_at desk 480 i)

unfoldable pub copied_to : List ℕ → ℕ → List ℕ → ℕ → ℕ → List ℕ
copied_to desk part out to zero = out
copied_to desk part out to (suc i) = with_word (copied_to desk part out to i) to i (word_at desk part i)

unfoldable pub words_of : List ℕ → List ℕ
words_of desk =
    copied_to
    desk
    101
    (copied_to desk 0 (pairs_to desk (records_to desk (replicate 640 0) 32) (word_at desk 103 0)) 160 64)
    224
    3
