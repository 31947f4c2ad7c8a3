-- Document 02, slip 6: a call on a fit state with so many words lent: "16 applies below 64 words", then "the same distances, answers and states
-- after as the full table that the reader makes".
use Rattle.std.specs.Prelude.{ℕ, Bool, cond, List, ltb}
use Rattle.model.specs.declared.Model.{Model}
use Rattle.model.specs.declared.Thread.{Thread}
use Rattle.model.specs.Refusal.{short_table}
use Rattle.tables.specs.Word.{words_of}
use Rattle.tables.specs.Outcome.{row_words}
use Rattle.early.specs.declared.Site.{Site}
use Rattle.early.specs.declared.Call.{Call}
use Rattle.early.specs.Call.{Called, called_with, call_fit}

unfoldable pub rows_fit : Model → List (List Bool) → ℕ → Site → List Thread → List ℕ → Call → Called
rows_fit m marks lent site ts held call =
    cond (ltb lent row_words) (called_with short_table site ts held) (call_fit m marks (words_of m) site ts held call)
