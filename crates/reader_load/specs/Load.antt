-- Document 01, "Numbers of refusal": reader and tables together. "Order: 1 to 7 record by record, lower number first .., then
-- 9, 8, 16."; 17 "where the record stands", 18 "after 8".
use Rattle.std.specs.Prelude.{ℕ, Bool, cond, List, ltb, eqb}
use Rattle.base.specs.Index.{or_else}
use Rattle.model.specs.Refusal.{accepted, short_table}
use Rattle.reader.specs.Read.{Read}
use Rattle.reader.specs.File.{read_or, read_file}
use Rattle.tables.specs.Word.{stored}
use Rattle.tables.specs.Outcome.{is_short, row_words, conflict_marks}

-- the reader's number, then "table buffer below N × N words"
unfoldable pub load_number : Read → List ℕ → ℕ
load_number r buffer = or_else r.number (cond (is_short r.model buffer) short_table accepted)

-- "a model .. returned by value beside the number" is zero
unfoldable pub load_of : List ℕ → List ℕ → Read
load_of bytes buffer = let r = read_file bytes in read_or (load_number r buffer) r.model

-- "A refused file returns the number and the table buffer is not written"
unfoldable pub load_buffer : List ℕ → List ℕ → List ℕ
load_buffer bytes buffer =
    let r = read_file bytes in
    cond (eqb (load_number r buffer) accepted) (stored r.model buffer) buffer

-- the marks of what was loaded: unset beside a number
unfoldable pub load_marks : List ℕ → List ℕ → List (List Bool)
load_marks bytes buffer = conflict_marks (load_of bytes buffer).model

-- Document 02, slip 6, with so many words lent: the reader's number, then "Here 16 applies below 64 words"
unfoldable pub by_rows_number : Read → ℕ → ℕ
by_rows_number r lent = or_else r.number (cond (ltb lent row_words) short_table accepted)

unfoldable pub load_by_rows : List ℕ → ℕ → Read
load_by_rows bytes lent = let r = read_file bytes in read_or (by_rows_number r lent) r.model
