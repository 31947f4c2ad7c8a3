-- A line of words, in ASCII.
use Rattle.std.specs.Prelude.{ℕ, List, [], ◌∷◌, ◌++◌}

-- after a line's first word: one space before each further word, one line feed at the end
unfoldable pub rest_of : List (List ℕ) → List ℕ
rest_of [] = 10 ∷ []
rest_of (w ∷ ws) = 32 ∷ (w ++ rest_of ws)

abbrev pub line_of : List ℕ → List (List ℕ) → List ℕ
line_of w ws = w ++ rest_of ws
