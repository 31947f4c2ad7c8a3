-- How a row is made: words of the row are lowered along the steps until all is at rest. Only private contracts cite this.
-- A floor of the steps is a word for each place that no step leads below; a lowered row stays above each floor that it was above.
use Rattle.std.specs.Prelude.{ℕ, zero, suc, ◌+◌, ◌/◌, ◌%◌, ◌≤◌, ◌<◌, ◌≡◌, ◌⊎◌, Bool, true, false, cond, ◌&&◌, List, ltb, eqb, length, get_or, set}
use Rattle.base.specs.Index.{store_to}
use Rattle.tables_distance.specs.Store.{far, sum_word}

-- the parts of a step in one word
abbrev pub word_in : ℕ → ℕ
word_in g = g / 65536

abbrev pub first_in : ℕ → ℕ
first_in g = g / 256 % 256

abbrev pub second_in : ℕ → ℕ
second_in g = g % 256

-- place t is a next segment of the step g
abbrev pub Leads : ℕ → ℕ → Type 0
Leads g t = (first_in g ≡ t) ⊎ (second_in g ≡ t)

-- the row at its start: 0 at place r, never at all others
abbrev pub start_to : ℕ → List ℕ → ℕ → List ℕ
start_to r row k = store_to (λ s vs. cond (eqb s r) 0 far) 0 row k

-- word t made c where that is less
unfoldable pub is_lower : ℕ → ℕ → ℕ → List ℕ → Bool
is_lower k t c row = ltb t k && ltb c (get_or row t 0)

unfoldable pub lowered_at : ℕ → ℕ → ℕ → List ℕ → List ℕ
lowered_at k t c row = cond (is_lower k t c row) (set row t c) row

-- the sum of the first words
unfoldable pub total : ℕ → List ℕ → ℕ
total zero row = 0
total (suc k) row = total k row + get_or row k 0

-- no step leads below the floor
abbrev pub IsFloor : List ℕ → ℕ → (ℕ → ℕ) → Type 0
IsFloor steps k floor = (s t : ℕ) → s < k → t < k → Leads (get_or steps s 0) t → floor t ≤ sum_word (floor s) (word_in (get_or steps s 0))

abbrev pub IsAbove : ℕ → (ℕ → ℕ) → List ℕ → Type 0
IsAbove k floor row = (s : ℕ) → s < k → floor s ≤ get_or row s 0

-- no word rises, and none falls below a floor
pub record Falls (steps : List ℕ) (k : ℕ) (before after : List ℕ) : Type 0 where
  pub length_kept : length after ≡ length before
  pub falls : (s : ℕ) → s < k → get_or after s 0 ≤ get_or before s 0
  pub above : (floor : ℕ → ℕ) → IsFloor steps k floor → IsAbove k floor before → IsAbove k floor after

-- what lowering does to a row, with the answer whether a word changed
pub record Lowers (steps : List ℕ) (k : ℕ) (changed : Bool) (before after : List ℕ) : Type 0 where
  pub fall : Falls steps k before after
  pub same : changed ≡ false → after ≡ before
  pub less : changed ≡ true → total k after < total k before

-- the step of place s lowers nothing
abbrev pub RestsAt : List ℕ → ℕ → List ℕ → ℕ → Type 0
RestsAt steps k row s =
    get_or row s 0 < far → word_in (get_or steps s 0) < far →
    (t : ℕ) → t < k → Leads (get_or steps s 0) t → get_or row t 0 ≤ sum_word (get_or row s 0) (word_in (get_or steps s 0))

-- nor do those of the first j places
abbrev pub RestsTo : List ℕ → ℕ → List ℕ → ℕ → Type 0
RestsTo steps k row j = (s : ℕ) → s < j → RestsAt steps k row s

-- lowered until all is at rest
pub record Settles (steps : List ℕ) (k : ℕ) (before after : List ℕ) : Type 0 where
  pub fall : Falls steps k before after
  pub rests : RestsTo steps k after k
