-- Each comparison at, below and above its edge, closed: digits, a line, bytes put into a buffer, a text written to its front.
use mathlib.Core.Path.{◌≡◌, refl}
use mathlib.Core.List.{[], ◌∷◌}
use Rattle.buffers.specs.Digits.{digits_of}
use Rattle.buffers.specs.Line.{rest_of, line_of}
use Rattle.buffers.specs.Put.{bytes_at, place_after}
use Rattle.buffers.specs.declared.Written.TheVariants.{Length, Refused}
use Rattle.buffers.specs.Write.{placed_in, length_in}
use Rattle.buffers.specs.Written.{number_of, length_of, written_in, left_in}
use Rattle.buffers.proofs.Computed.{computed}

-- `0`, `9`, `10`, `99`, `100`, and the largest numbers of 32 and of 64 bits: one digit below 10, two from 10 on, no zero in front
pub digits_of-edges :
    (digits_of 0 ≡ 48 ∷ []) ×
    (digits_of 9 ≡ 57 ∷ []) ×
    (digits_of 10 ≡ 49 ∷ 48 ∷ []) ×
    (digits_of 99 ≡ 57 ∷ 57 ∷ []) ×
    (digits_of 100 ≡ 49 ∷ 48 ∷ 48 ∷ []) ×
    (digits_of 4294967295 ≡ 52 ∷ 50 ∷ 57 ∷ 52 ∷ 57 ∷ 54 ∷ 55 ∷ 50 ∷ 57 ∷ 53 ∷ []) ×
    (digits_of 18446744073709551615 ≡ 49 ∷ 56 ∷ 52 ∷ 52 ∷ 54 ∷ 55 ∷ 52 ∷ 52 ∷ 48 ∷ 55 ∷ 51 ∷ 55 ∷ 48 ∷ 57 ∷ 53 ∷ 53 ∷ 49 ∷ 54 ∷ 49 ∷ 53 ∷ [])
unfolding computed
digits_of-edges = (refl, refl, refl, refl, refl, refl, refl)

-- a line of one word, of two, of three: a line feed, after a space before each further word
pub line_of-edges :
    (rest_of [] ≡ 10 ∷ []) ×
    (line_of (97 ∷ []) [] ≡ 97 ∷ 10 ∷ []) ×
    (line_of (97 ∷ []) ((98 ∷ []) ∷ []) ≡ 97 ∷ 32 ∷ 98 ∷ 10 ∷ []) ×
    (line_of (97 ∷ []) ([] ∷ (98 ∷ 99 ∷ []) ∷ []) ≡ 97 ∷ 32 ∷ 32 ∷ 98 ∷ 99 ∷ 10 ∷ [])
unfolding computed
line_of-edges = (refl, refl, refl, refl)

-- within the buffer, past its end in part, past it whole, none
pub bytes_at-edges :
    (bytes_at (1 ∷ 2 ∷ 3 ∷ []) 1 (7 ∷ 8 ∷ []) ≡ 1 ∷ 7 ∷ 8 ∷ []) ×
    (bytes_at (1 ∷ 2 ∷ 3 ∷ []) 2 (7 ∷ 8 ∷ []) ≡ 1 ∷ 2 ∷ 7 ∷ []) ×
    (bytes_at (1 ∷ 2 ∷ 3 ∷ []) 3 (7 ∷ 8 ∷ []) ≡ 1 ∷ 2 ∷ 3 ∷ []) ×
    (bytes_at (1 ∷ 2 ∷ 3 ∷ []) 0 [] ≡ 1 ∷ 2 ∷ 3 ∷ [])
unfolding computed
bytes_at-edges = (refl, refl, refl, refl)

pub place_after-edges :
    (place_after (1 ∷ 2 ∷ 3 ∷ []) 0 (7 ∷ 8 ∷ []) ≡ 2) ×
    (place_after (1 ∷ 2 ∷ 3 ∷ []) 1 (7 ∷ 8 ∷ []) ≡ 3) ×
    (place_after (1 ∷ 2 ∷ 3 ∷ []) 2 (7 ∷ 8 ∷ []) ≡ 3) ×
    (place_after (1 ∷ 2 ∷ 3 ∷ []) 9 [] ≡ 3)
unfolding computed
place_after-edges = (refl, refl, refl, refl)

-- one byte: before the last place, at it, just past it, far past it
pub byte-edges :
    (bytes_at (1 ∷ 2 ∷ []) 0 (7 ∷ []) ≡ 7 ∷ 2 ∷ []) × (place_after (1 ∷ 2 ∷ []) 0 (7 ∷ []) ≡ 1) ×
    (bytes_at (1 ∷ 2 ∷ []) 1 (7 ∷ []) ≡ 1 ∷ 7 ∷ []) × (place_after (1 ∷ 2 ∷ []) 1 (7 ∷ []) ≡ 2) ×
    (bytes_at (1 ∷ 2 ∷ []) 2 (7 ∷ []) ≡ 1 ∷ 2 ∷ []) × (place_after (1 ∷ 2 ∷ []) 2 (7 ∷ []) ≡ 2) ×
    (bytes_at (1 ∷ 2 ∷ []) 9 (7 ∷ []) ≡ 1 ∷ 2 ∷ []) × (place_after (1 ∷ 2 ∷ []) 9 (7 ∷ []) ≡ 2)
unfolding computed
byte-edges = (refl, refl, refl, refl, refl, refl, refl, refl)

-- a text of two bytes in buffers of one, two and three bytes: as it was, filled, followed by what stood there; the empty text
pub placed_in-edges :
    (placed_in (7 ∷ 8 ∷ []) (1 ∷ []) ≡ 1 ∷ []) ×
    (placed_in (7 ∷ 8 ∷ []) (1 ∷ 2 ∷ []) ≡ 7 ∷ 8 ∷ []) ×
    (placed_in (7 ∷ 8 ∷ []) (1 ∷ 2 ∷ 3 ∷ []) ≡ 7 ∷ 8 ∷ 3 ∷ []) ×
    (placed_in [] (1 ∷ []) ≡ 1 ∷ []) ×
    (placed_in [] [] ≡ [])
unfolding computed
placed_in-edges = (refl, refl, refl, refl, refl)

pub length_in-edges :
    (length_in (7 ∷ 8 ∷ []) (1 ∷ []) ≡ 0) ×
    (length_in (7 ∷ 8 ∷ []) (1 ∷ 2 ∷ []) ≡ 2) ×
    (length_in (7 ∷ 8 ∷ []) (1 ∷ 2 ∷ 3 ∷ []) ≡ 2) ×
    (length_in [] (1 ∷ []) ≡ 0) ×
    (length_in [] [] ≡ 0)
unfolding computed
length_in-edges = (refl, refl, refl, refl, refl)

-- "the answer is the length": 0 and a length, or a number and 0
pub answer-edges : (number_of (Length 3) ≡ 0) × (length_of (Length 3) ≡ 3) × (number_of (Refused 4) ≡ 4) × (length_of (Refused 4) ≡ 0)
answer-edges = (refl, refl, refl, refl)

-- an output of two bytes' length, of three, of one: "16, checked last, covers a short output buffer"; a number comes before it
pub written_in-edges :
    (written_in 0 (7 ∷ 8 ∷ []) (1 ∷ 2 ∷ []) ≡ Length 2) ×
    (written_in 0 (7 ∷ 8 ∷ []) (1 ∷ 2 ∷ 3 ∷ []) ≡ Length 2) ×
    (written_in 0 (7 ∷ 8 ∷ []) (1 ∷ []) ≡ Refused 16) ×
    (written_in 4 (7 ∷ 8 ∷ []) (1 ∷ 2 ∷ []) ≡ Refused 4) ×
    (written_in 4 (7 ∷ 8 ∷ []) (1 ∷ []) ≡ Refused 4)
unfolding computed
written_in-edges = (refl, refl, refl, refl, refl)

-- "a refusal writes no output, and bytes past it stay"
pub left_in-edges :
    (left_in 0 (7 ∷ 8 ∷ []) (1 ∷ 2 ∷ []) ≡ 7 ∷ 8 ∷ []) ×
    (left_in 0 (7 ∷ 8 ∷ []) (1 ∷ 2 ∷ 3 ∷ []) ≡ 7 ∷ 8 ∷ 3 ∷ []) ×
    (left_in 0 (7 ∷ 8 ∷ []) (1 ∷ []) ≡ 1 ∷ []) ×
    (left_in 4 (7 ∷ 8 ∷ []) (1 ∷ 2 ∷ []) ≡ 1 ∷ 2 ∷ [])
unfolding computed
left_in-edges = (refl, refl, refl, refl)
