-- Document 01, "Model file": the closer's 13 bytes.
use Rattle.std.specs.Prelude.{ℕ, ◌+◌, Bool, cond, not, List, eqb}
use Rattle.base.specs.Index.{any_below, or_else}
use Rattle.model.specs.declared.Next.{Next}
use Rattle.model.specs.declared.Closer.{Closer}
use Rattle.model.specs.declared.Closer.TheVariants.{End, Time, Event}
use Rattle.model.specs.Refusal.{wrong_closer}
use Rattle.model.specs.Rules.{unless, closer_fault}
use Rattle.reader.specs.Word.{byte_at, long_at}

-- "Bytes 6 and 7 are next segments A and B. Byte 8 is a test variable, or 255 for none. Bytes 9 to 12 are a limit."
abbrev pub next_from : List ℕ → Next
next_from b = record { a = byte_at b 6; b = byte_at b 7; test = byte_at b 8; limit = long_at b 9 }

-- a closer by its kind, event, delay and what comes next: "0 end, 1 wait for time, 2 wait for event"
abbrev pub closer_of : ℕ → ℕ → ℕ → Next → Closer
closer_of kind e k x = cond (eqb kind 1) (Time (record { 0 = k }) x) (cond (eqb kind 2) (Event e x) End)

-- "Byte 0 is 0 end, 1 wait for time, 2 wait for event. Byte 1 is the event (0 unless kind 2). Bytes 2 to 5 are the delay".
-- "Byte 1 under kind 1 names no event either."
unfoldable pub closer_from : List ℕ → Closer
closer_from b = closer_of (byte_at b 0) (byte_at b 1) (long_at b 2) (next_from b)

-- "With kind 0 the other twelve bytes are 0"
unfoldable pub rest_is_zero : List ℕ → Bool
rest_is_zero b = not (any_below 12 (λ i. not (eqb (byte_at b (i + 1)) 0)))

-- the rules that no closer as a value can break, by kind, event, delay and whether all but the kind is 0: the event is "0 unless
-- kind 2", the delay is "0 unless kind 1"
abbrev pub closer_form_fault : ℕ → ℕ → ℕ → Bool → ℕ
closer_form_fault kind e k is_zero =
    cond (eqb kind 0) (unless is_zero wrong_closer)
    (cond (eqb kind 1) (unless (eqb e 0) wrong_closer)
    (cond (eqb kind 2) (unless (eqb k 0) wrong_closer)
    wrong_closer))

unfoldable pub closer_shape_fault : List ℕ → ℕ
closer_shape_fault b = closer_form_fault (byte_at b 0) (byte_at b 1) (long_at b 2) (rest_is_zero b)

-- "the closer's 5 and 7"
unfoldable pub closer_bytes_fault : ℕ → ℕ → List ℕ → ℕ
closer_bytes_fault v e b = or_else (closer_shape_fault b) (closer_fault v e (closer_from b))
