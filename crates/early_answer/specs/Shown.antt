-- Which distances a request goes by: ws, where they are what is lent says, and every thread is in one of their segments.
use Rattle.std.specs.Prelude.{ℕ, ◌<◌, Bool, cond, List}
use Rattle.model.specs.declared.Model.{Model}
use Rattle.model.specs.declared.Thread.{Thread}
use Rattle.model.specs.Record.{thread_at}
use Rattle.tables.specs.Word.{words_of}
use Rattle.tables_row.specs.Row.{Knows}

pub record Shows (n t : ℕ) (ws : List ℕ) (by_steps : Bool) (lent : List ℕ) (room : ℕ) (ts : List Thread) : Type 0 where
  pub known : Knows n ws by_steps lent room
  pub within : (j : ℕ) → j < t → (thread_at ts j).segment < n

-- those of a model: the words that are lent, or the ones that the reader would make, where its steps are
abbrev pub table_by : Bool → Model → List ℕ → List ℕ
table_by by_steps m lent = cond by_steps (words_of m) lent
