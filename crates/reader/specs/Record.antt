-- Document 01, "Model file": one record. "Each record is a two-byte length (whole record, head included), a two-byte kind, a body."
use Rattle.std.specs.Prelude.{ℕ, ◌+◌, ◌-◌, ◌*◌, ◌/◌, ◌%◌, Bool, false, cond, ◌&&◌, ◌||◌, List, ◌++◌, ltb, leb, eqb, length, drop, replicate}
use Rattle.base.specs.Index.{or_else, first_below, tabulate}
use Rattle.model.specs.declared.Statement.{Statement}
use Rattle.model.specs.declared.Segment.{Segment}
use Rattle.model.specs.declared.Model.{Model}
use Rattle.model.specs.Refusal.{accepted, short_file, wrong_kind, wrong_length, wrong_count, wrong_port}
use Rattle.model.specs.Port.{no_ports, uses_ports}
use Rattle.model.specs.Values.{no_statement, with_head, with_segment, with_start, with_ports}
use Rattle.model.specs.Rules.{unless, head_fault, ports_fault}
use Rattle.reader.specs.Word.{byte_at, word_at, long_at}
use Rattle.reader.specs.Closer.{closer_from, closer_bytes_fault}
use Rattle.reader.specs.Statement.{op_from, op_bytes_fault}

-- the kinds
abbrev pub head_kind : ℕ
head_kind = 1

abbrev pub segment_kind : ℕ
segment_kind = 2

abbrev pub thread_kind : ℕ
thread_kind = 3

abbrev pub end_kind : ℕ
end_kind = 4

abbrev pub ports_kind : ℕ
ports_kind = 5

-- "The order is one head, 1 to 64 segments, 1 to 32 threads, one end."; "A record of kind 5 [..] may follow a thread's record". 0 stands
-- before the first record.
unfoldable pub follows : ℕ → ℕ → Bool
follows last k =
    cond (eqb last 0) (eqb k head_kind)
    (cond (eqb last head_kind) (eqb k segment_kind)
    (cond (eqb last segment_kind) (eqb k segment_kind || eqb k thread_kind)
    (cond (eqb last thread_kind) ((eqb k thread_kind || eqb k end_kind) || eqb k ports_kind)
    (cond (eqb last ports_kind) (eqb k thread_kind || eqb k end_kind)
    false))))

-- "head, length 10"; "segment, length 17 + 6n, n from 0 to 32"; "thread, length 5"; "kind 5, length 12"; "end, length 4"
unfoldable pub length_fits : ℕ → ℕ → Bool
length_fits k l =
    cond (eqb k head_kind) (eqb l 10)
    (cond (eqb k segment_kind) ((leb 17 l && leb l 209) && eqb ((l - 17) % 6) 0)
    (cond (eqb k thread_kind) (eqb l 5)
    (cond (eqb k ports_kind) (eqb l 12)
    (eqb l 4))))

-- 1, 2 and 3 at a record that begins the bytes b, after a record of kind last
unfoldable pub framing_fault : ℕ → List ℕ → ℕ
framing_fault last b =
    or_else (unless (leb 4 (length b) && (leb 4 (word_at b 0) && leb (word_at b 0) (length b))) short_file)
    (or_else (unless (follows last (word_at b 2)) wrong_kind)
    (unless (length_fits (word_at b 2) (word_at b 0)) wrong_length))

-- a segment's record: 4 bytes, a closer of 13, then statements of 6
abbrev pub statement_count : List ℕ → ℕ
statement_count r = (length r - 17) / 6

abbrev pub statement_bytes : List ℕ → ℕ → List ℕ
statement_bytes r j = drop (17 + 6 * j) r

unfoldable pub segment_from : List ℕ → Segment
segment_from r =
    record { closer = closer_from (drop 4 r); n = statement_count r; statements = tabulate (statement_count r) 0 statement_from ++ replicate (32 - statement_count r) no_statement }
  where
    statement_from : ℕ → Statement
    statement_from j = record { op = op_from (statement_bytes r j) }

-- "the closer's 5 and 7, then 6 and 7 of each statement"
unfoldable pub segment_bytes_fault : ℕ → ℕ → List ℕ → ℕ
segment_bytes_fault v e r =
    or_else (closer_bytes_fault v e (drop 4 r)) (first_below (statement_count r) (λ j. op_bytes_fault v e (statement_bytes r j)))

-- "gives eight variable numbers"
unfoldable pub ports_from : List ℕ → List ℕ
ports_from r = tabulate 8 4 (λ i. byte_at r i)

-- "17 when all eight are 255 or a mapped number is neither 255 nor below V"
unfoldable pub ports_bytes_fault : ℕ → List ℕ → ℕ
ports_bytes_fault v r = or_else (unless (uses_ports (ports_from r)) wrong_port) (ports_fault v (ports_from r))

-- 4 to 7 and 17 of the record r of kind k, after what m holds: "H, V or E out of range; 65th segment; 33rd thread"
unfoldable pub body_fault : ℕ → Model → List ℕ → ℕ
body_fault k m r =
    cond (eqb k head_kind) (head_fault (long_at r 4) (byte_at r 8) (byte_at r 9))
    (cond (eqb k segment_kind) (or_else (unless (ltb m.n 64) wrong_count) (segment_bytes_fault m.v m.e r))
    (cond (eqb k thread_kind) (unless (ltb m.t 32) wrong_count)
    (cond (eqb k ports_kind) (ports_bytes_fault m.v r)
    accepted)))

-- the model with what the record says
unfoldable pub with_record : ℕ → Model → List ℕ → Model
with_record k m r =
    cond (eqb k head_kind) (with_head m (long_at r 4) (byte_at r 8) (byte_at r 9))
    (cond (eqb k segment_kind) (with_segment m (segment_from r))
    (cond (eqb k thread_kind) (with_start m (record { first = byte_at r 4; ports = no_ports }))
    (cond (eqb k ports_kind) (with_ports m (ports_from r))
    m)))
