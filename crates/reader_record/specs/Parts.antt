-- What the functions on one record answer, in parts of the definitions before.
use Rattle.std.specs.Prelude.{ℕ, Bool, cond, ◌&&◌, List, ltb, leb, eqb, length, take}
use Rattle.base.specs.Index.{or_else}
use Rattle.model.specs.Refusal.{accepted, wrong_count}
use Rattle.model.specs.Rules.{unless, head_fault}
use Rattle.reader.specs.Word.{byte_at, word_at, long_at}
use Rattle.reader.specs.Record.{head_kind, segment_kind, thread_kind, ports_kind, framing_fault, segment_bytes_fault, ports_bytes_fault}
use Rattle.reader_record.specs.declared.Counts.{Counts}

-- a record's head and its length are there
unfoldable pub is_whole : List ℕ → Bool
is_whole b = leb 4 (length b) && (leb 4 (word_at b 0) && leb (word_at b 0) (length b))

-- 4 of the record r of kind k, after what is counted
unfoldable pub count_fault : ℕ → Counts → List ℕ → ℕ
count_fault k c r =
    cond (eqb k head_kind) (head_fault (long_at r 4) (byte_at r 8) (byte_at r 9))
    (cond (eqb k segment_kind) (unless (ltb c.n 64) wrong_count)
    (cond (eqb k thread_kind) (unless (ltb c.t 32) wrong_count)
    accepted))

-- a segment's 5 to 7, the 17 of a thread's ports, none of another kind
unfoldable pub own_fault : ℕ → ℕ → ℕ → List ℕ → ℕ
own_fault k v e r = cond (eqb k segment_kind) (segment_bytes_fault v e r) (cond (eqb k ports_kind) (ports_bytes_fault v r) accepted)

-- 1 to 7 and 17 of the record that begins b, after a record of kind last and what is counted
unfoldable pub record_fault : ℕ → Counts → List ℕ → ℕ
record_fault last c b =
    let k = word_at b 2 in
    let r = take (word_at b 0) b in
    or_else (framing_fault last b) (or_else (count_fault k c r) (own_fault k c.v c.e r))
