-- A text written to the front of a lent buffer, whole or not at all.
use Rattle.std.specs.Prelude.{ℕ, ◌≡◌, cond, List, ◌++◌, leb, length, drop}

-- the buffer with the text at its front, followed by what stood there; as it was where the text does not fit
unfoldable pub placed_in : List ℕ → List ℕ → List ℕ
placed_in text out = cond (leb (length text) (length out)) (text ++ drop (length text) out) out

-- how much of the buffer is the text: its length, or 0 where it does not fit
unfoldable pub length_in : List ℕ → List ℕ → ℕ
length_in text out = cond (leb (length text) (length out)) (length text) 0

-- what a call that writes a text ensures: its answer, and the buffer that it leaves
pub record Writes (before after : List ℕ) (r : ℕ) (text : List ℕ) : Type 0 where
  pub answer : r ≡ length_in text before
  pub buffer : after ≡ placed_in text before
