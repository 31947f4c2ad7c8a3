-- Bytes put into a lent buffer from a place on, as far as there is room.
use Rattle.std.specs.Prelude.{ℕ, ◌+◌, ◌≤◌, min, ◌≡◌, List, length}
use Rattle.std.proofs.lemmas.List.Edits.{sets}

-- the buffer with the bytes at the places `at`, `at + 1`, ..; a place past its end takes none
unfoldable pub bytes_at : List ℕ → ℕ → List ℕ → List ℕ
bytes_at before at bytes = sets before at bytes

-- where the next byte goes
unfoldable pub place_after : List ℕ → ℕ → List ℕ → ℕ
place_after before at bytes = min (at + length bytes) (length before)

-- The buffer after, and the place: both are fixed. The other facts follow; they are what a caller goes by.
pub record Puts (before : List ℕ) (at : ℕ) (after : List ℕ) (next : ℕ) (bytes : List ℕ) : Type 0 where
  pub text : after ≡ bytes_at before at bytes
  pub place : next ≡ place_after before at bytes
  pub same : length after ≡ length before
  pub within : next ≤ length after
  pub few : next ≤ at + length bytes
