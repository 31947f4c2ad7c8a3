-- How the code notes which segments notify which events, and keeps the ways to the events, place by place. Only private contracts cite this;
-- `proofs/StoreLaws.antt` says that the places are those of `reach_of`.
use Rattle.std.specs.Prelude.{ℕ, zero, suc, ◌+◌, ◌*◌, ◌/◌, ◌%◌, ◌≤◌, ◌<◌, ◌≡◌, cond, List, ltb, eqb, length, get_or}
use Rattle.model.specs.declared.Op.{Op}
use Rattle.model.specs.declared.Op.TheVariants.{Set, Add, Copy, AddVariable, SubVariable, Notify}
use Rattle.model.specs.Footprint.{has}
use Rattle.tables.specs.Word.{all_ones}
use Rattle.early_limits.specs.Limit.{limit_of_word, lesser}

-- each of the 2,048 places k made f k of what it was, and nothing else
pub record Places (f : ℕ → ℕ → ℕ) (from to : List ℕ) : Type 0 where
  pub same_length : length to ≡ length from
  pub at : (k : ℕ) → k < 2048 → get_or to k 0 ≡ f k (get_or from k 0)
  pub past : (k : ℕ) → 2048 ≤ k → get_or to k 0 ≡ get_or from k 0

-- the first i places made never
unfoldable pub cleared : ℕ → ℕ → ℕ → ℕ
cleared i k w = cond (ltb k i) all_ones w

-- the event that an operation notifies, or 255
unfoldable pub event_of : Op → ℕ
event_of (Set a b) = 255
event_of (Add a b) = 255
event_of (Copy a b) = 255
event_of (AddVariable a b) = 255
event_of (SubVariable a b) = 255
event_of (Notify w) = w

-- w lowered to f s for each of the first k notes that say of segment s that it notifies event e; a note is s × 32 + e
unfoldable pub lowered_by : List ℕ → ℕ → (ℕ → ℕ) → ℕ → ℕ → ℕ
lowered_by notes zero f e w = w
lowered_by notes (suc k) f e w =
    let v = lowered_by notes k f e w in
    cond (eqb (get_or notes k 0 % 32) e) (lesser v (f (get_or notes k 0 / 32))) v

-- the first k notes are of segments below n
abbrev pub NotesBelow : ℕ → List ℕ → ℕ → Type 0
NotesBelow n notes k = (q : ℕ) → q < k → get_or notes q 0 / 32 < n

-- k notes after some of segment s, for the events es, no more than room: whatever they lower, they lower by the first notes and by those
pub record NotesOf (s : ℕ) (es : List ℕ) (from : ℕ) (first : List ℕ) (room k : ℕ) (notes : List ℕ) : Type 0 where
  pub same_length : length notes ≡ length first
  pub most : k ≤ from + room
  pub lowers : (f : ℕ → ℕ) (e w : ℕ) → e < 32 → lowered_by notes k f e w ≡ cond (has es e) (lesser (lowered_by first from f e w) (f s)) (lowered_by first from f e w)
  pub below : (n : ℕ) → s < n → NotesBelow n first from → NotesBelow n notes k

-- the way to segment s by the row of words from place p on
unfoldable pub way_in : List ℕ → ℕ → ℕ → ℕ
way_in ws p s = limit_of_word (get_or ws (p + s) 0)

-- row r lowered by the first k notes
unfoldable pub row_lowered : List ℕ → ℕ → List ℕ → ℕ → ℕ → ℕ → ℕ → ℕ
row_lowered notes k ws p r i w = cond (eqb (i / 32) r) (lowered_by notes k (way_in ws p) (i % 32) w) w

-- the first rows, each by its own row of N × N words
unfoldable pub rows_lowered : List ℕ → ℕ → List ℕ → ℕ → ℕ → ℕ → ℕ → ℕ
rows_lowered notes k ws n rows i w = cond (ltb (i / 32) rows) (lowered_by notes k (way_in ws (i / 32 * n)) (i % 32) w) w
