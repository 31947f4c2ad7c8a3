-- A segment's record by itself: what its bytes say where its length fits.
use Rattle.std.specs.Prelude.{ℕ, suc, ◌-◌, max, Bool, false, cond, not, ◌&&◌, ◌||◌, List, ◌++◌, leb, eqb, length, drop, replicate}
use Rattle.base.specs.Index.{any_below, or_else, first_below, tabulate}
use Rattle.model.specs.declared.Next.{Next}
use Rattle.model.specs.declared.Closer.{Closer}
use Rattle.model.specs.declared.Closer.TheVariants.{End, Time, Event}
use Rattle.model.specs.declared.Statement.{Statement}
use Rattle.model.specs.declared.Segment.{Segment}
use Rattle.model.specs.Refusal.{wrong_length}
use Rattle.model.specs.Port.{first_port}
use Rattle.model.specs.Values.{no_statement, no_segment}
use Rattle.model.specs.Effect.{no_test}
use Rattle.model.specs.Rules.{unless}
use Rattle.reader.specs.Word.{byte_at}
use Rattle.reader.specs.Closer.{closer_from}
use Rattle.reader.specs.Statement.{op_from, op_bytes_fault}
use Rattle.reader.specs.Record.{segment_kind, length_fits, statement_count, statement_bytes, segment_from, segment_bytes_fault}

-- the first j statements of a segment's record r, and unused places
unfoldable pub statements_from : ℕ → List ℕ → List Statement
statements_from j r = tabulate j 0 (λ i. record { op = op_from (statement_bytes r i) }) ++ replicate (32 - j) no_statement

-- the first fault of the first j statements
unfoldable pub statements_bytes_fault : ℕ → ℕ → ℕ → List ℕ → ℕ
statements_bytes_fault j v e r = first_below j (λ i. op_bytes_fault v e (statement_bytes r i))

-- the length of a segment's record
abbrev pub fits : List ℕ → Bool
fits r = length_fits segment_kind (length r)

-- 3, then the record's 5 to 7
unfoldable pub segment_record_fault : ℕ → ℕ → List ℕ → ℕ
segment_record_fault v e r = or_else (unless (fits r) wrong_length) (segment_bytes_fault v e r)

-- the segment that a record says, zero where its length does not fit; its parts
unfoldable pub segment_in : List ℕ → Segment
segment_in r = cond (fits r) (segment_from r) no_segment

unfoldable pub count_in : List ℕ → ℕ
count_in r = cond (fits r) (statement_count r) 0

unfoldable pub closer_in : List ℕ → Closer
closer_in r = cond (fits r) (closer_from (drop 4 r)) End

-- one more than the greater of two next segments
abbrev pub bound_of : Next → ℕ
bound_of x = suc (max x.a x.b)

-- the least N that a closer's next segments are below: "next .. segment not below N"
unfoldable pub target_bound : Closer → ℕ
target_bound End = 0
target_bound (Time k x) = bound_of x
target_bound (Event w x) = bound_of x

-- whether a statement's bytes can name a port: as a, or as b where the operation names one
unfoldable pub op_names : List ℕ → Bool
op_names b = leb first_port (byte_at b 1) || (leb 3 (byte_at b 0) && leb first_port (byte_at b 2))

abbrev pub next_names : Next → Bool
next_names x = leb first_port x.test && not (eqb x.test no_test)

unfoldable pub test_names : Closer → Bool
test_names End = false
test_names (Time k x) = next_names x
test_names (Event w x) = next_names x

-- whether a record can name a port: without it none is named
unfoldable pub record_names : List ℕ → Bool
record_names r = any_below (count_in r) (λ j. op_names (statement_bytes r j)) || test_names (closer_in r)
