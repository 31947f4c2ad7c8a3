-- The arguments of `replayrun`, in ASCII: "any thread number", as decimal digits, alone for a request, after a `g` for a grant, after an
-- `f` for a finish.
use Rattle.std.specs.Prelude.{ℕ, ◌+◌, ◌-◌, ◌*◌, ◌^◌, Bool, true, cond, ◌&&◌, ◌||◌, List, [], ◌∷◌, ltb, leb, eqb, length, get_or, drop}

-- stands for an argument that is no number
abbrev pub no_number : ℕ
no_number = 2 ^ 64 - 1

-- the digits that every number of 64 bits has room for
abbrev pub most_digits : ℕ
most_digits = 19

unfoldable pub is_digit : ℕ → Bool
is_digit b = leb 48 b && leb b 57

unfoldable pub are_digits : List ℕ → Bool
are_digits [] = true
are_digits (b ∷ bs) = is_digit b && are_digits bs

-- the number that digits say, after those that say x
unfoldable pub value_from : ℕ → List ℕ → ℕ
value_from x [] = x
value_from x (b ∷ bs) = value_from (x * 10 + (b - 48)) bs

-- 1 to 19 digits
unfoldable pub is_number : List ℕ → Bool
is_number bs = (ltb 0 (length bs) && leb (length bs) most_digits) && are_digits bs

-- the number that digits say, or `no_number`
unfoldable pub value_of : List ℕ → ℕ
value_of bs = cond (is_number bs) (value_from 0 bs) no_number

-- an argument's kind: `g`, `f`, or else `r`
unfoldable pub kind_of : List ℕ → ℕ
kind_of bs = let b = get_or bs 0 0 in cond (eqb b 103 || eqb b 102) b 114

-- its label: the number after a `g` or an `f`, or that of the whole
unfoldable pub label_of : List ℕ → ℕ
label_of bs = cond (eqb (kind_of bs) 114) (value_of bs) (value_of (drop 1 bs))

-- the thread that a label asks for: above every thread number where the label is
unfoldable pub thread_of : ℕ → ℕ
thread_of x = cond (ltb x 255) x 255

-- the call that a kind and a label ask for, as a word
unfoldable pub word_of : ℕ → ℕ → ℕ
word_of kind x = cond (eqb kind 103) (256 + thread_of x) (cond (eqb kind 102) (512 + thread_of x) (thread_of x))
