-- Ranges of threads, for the plain run: one for each event, which holds the threads that wait for it, and at 32 one for the threads that
-- a cycle's notifications reach. A range may hold more. Its first thread stands at its number, the thread past its last 33 further.
use Rattle.std.specs.Prelude.{ℕ, ◌+◌, ◌<◌, ◌≤◌, cond, List, ltb, get_or, set}

abbrev pub lesser_of : ℕ → ℕ → ℕ
lesser_of a b = cond (ltb a b) a b

abbrev pub greater_of : ℕ → ℕ → ℕ
greater_of a b = cond (ltb a b) b a

-- thread k is in range i
abbrev pub Inside : List ℕ → ℕ → ℕ → Type 0
Inside rs i k = (get_or rs i 0 ≤ k) × (k < get_or rs (33 + i) 0)

-- range i, made to hold the threads from a on and before b too
unfoldable pub widened : ℕ → ℕ → ℕ → List ℕ → List ℕ
widened i a b rs = set (set rs i (lesser_of a (get_or rs i 0))) (33 + i) (greater_of b (get_or rs (33 + i) 0))
