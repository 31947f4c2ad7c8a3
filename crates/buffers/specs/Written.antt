-- What a call that writes a file answers, and what it leaves: "the answer is the length, a refusal writes no output, and bytes past it stay".
use Rattle.std.specs.Prelude.{ℕ, ◌≡◌, cond, List, leb, eqb, length}
use Rattle.buffers.specs.declared.Written.{Written}
use Rattle.buffers.specs.declared.Written.TheVariants.{Length, Refused}
use Rattle.buffers.specs.Write.{placed_in}

-- the number of an answer, 0 for a length; its length, 0 beside a number
abbrev pub number_of : Written → ℕ
number_of (Length n) = 0
number_of (Refused x) = x

abbrev pub length_of : Written → ℕ
length_of (Length n) = n
length_of (Refused x) = 0

-- "16, checked last, covers a short output buffer"
abbrev pub short_output : ℕ
short_output = 16

-- the first that applies: the number of what is to be written, 16, or the length
unfoldable pub written_in : ℕ → List ℕ → List ℕ → Written
written_in number text out =
    cond (eqb number 0) (cond (leb (length text) (length out)) (Length (length text)) (Refused short_output)) (Refused number)

-- the output after it
unfoldable pub left_in : ℕ → List ℕ → List ℕ → List ℕ
left_in number text out = cond (eqb number 0) (placed_in text out) out

-- what such a call ensures
pub record Saves (before after : List ℕ) (r : Written) (number : ℕ) (text : List ℕ) : Type 0 where
  pub answer : r ≡ written_in number text before
  pub buffer : after ≡ left_in number text before
