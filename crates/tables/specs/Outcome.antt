-- Document 01, "Numbers of refusal": "The plain run and the tables refuse a held model with 11 if the file rules would refuse it, the tables before 16."
-- Document 01: "A refused file returns the number and the table buffer is not written; a model or marks returned by value beside the number are zero and unset."
use Rattle.std.specs.Prelude.{ℕ, ◌*◌, Bool, cond, List, ltb, eqb, length}
use Rattle.model.specs.declared.Model.{Model}
use Rattle.model.specs.Refusal.{accepted, unfit, short_table}
use Rattle.model.specs.Rules.{model_fault}
use Rattle.tables.specs.Conflict.{marks_of, no_marks}
use Rattle.tables.specs.Word.{stored}

-- a value for a model that keeps the file rules, and one for any other
unfoldable pub if_held : {A : Type 0} → Model → A → A → A
if_held m x y = cond (eqb (model_fault m) 0) x y

unfoldable pub conflict_number : Model → ℕ
conflict_number m = if_held m accepted unfit

unfoldable pub conflict_marks : Model → List (List Bool)
conflict_marks m = if_held m (marks_of m) no_marks

-- "table buffer below N × N words"
unfoldable pub is_short : Model → List ℕ → Bool
is_short m buffer = ltb (length buffer) (m.n * m.n)

-- Document 02, slip 6: "Here 16 applies below 64 words", whatever N is
abbrev pub row_words : ℕ
row_words = 64

unfoldable pub distances_number : Model → List ℕ → ℕ
distances_number m buffer = if_held m (cond (is_short m buffer) short_table accepted) unfit

-- the buffer at the end
unfoldable pub distances_buffer : Model → List ℕ → List ℕ
distances_buffer m buffer = if_held m (cond (is_short m buffer) buffer (stored m buffer)) buffer

-- Document 02, slip 6, with so many words lent: 11, then 16; there is no table to make
unfoldable pub rows_number : Model → ℕ → ℕ
rows_number m lent = if_held m (cond (ltb lent row_words) short_table accepted) unfit
