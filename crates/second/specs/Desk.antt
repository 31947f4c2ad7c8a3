-- What the contracts of `second` cite of a desk: 640 words, in which each part has a place of its own. Places past the end begin anew.
-- Assumes nothing.
use Rattle.std.specs.Prelude.{ℕ, zero, suc, ◌+◌, ◌/◌, ◌%◌, Bool, cond, ◌||◌, List, ◌==◌, nat_lt, slice_index, slice_set}

-- so far behind a place
unfoldable pub place_of : ℕ → ℕ → ℕ
place_of part i = (part % 640 + i % 640) % 640

unfoldable pub word_at : List ℕ → ℕ → ℕ → ℕ
word_at words part i = slice_index words (place_of part i)

unfoldable pub with_word : List ℕ → ℕ → ℕ → ℕ → List ℕ
with_word words part i x = slice_set words (place_of part i) x

-- whether the record in one word is ready or running
unfoldable pub is_due_in : ℕ → Bool
is_due_in x = x % 8 == 2 || x % 8 == 4

unfoldable pub lesser_of : ℕ → ℕ → ℕ
lesser_of a b = cond (nat_lt a b) a b

-- its key, if it is and its key is less; else the other
unfoldable pub sooner_of : ℕ → ℕ → ℕ
sooner_of x least = cond (is_due_in x) (lesser_of (x / 262144) least) least

-- the least key of a ready or running thread among the first n, or never
unfoldable pub floor_to : List ℕ → ℕ → ℕ
floor_to desk zero = 18446744073709551615
floor_to desk (suc k) = sooner_of (word_at desk 224 k) (floor_to desk k)
