-- Document 01, "Model file" and "Numbers of refusal": from bytes to a model, or the first number that applies.
-- "Order: 1 to 7 record by record, lower number first .., then 9, 8"; 17 "where the record stands", 18 "after 8".
use Rattle.std.specs.Prelude.{ℕ, zero, suc, cond, List, eqb, length, take, drop}
use Rattle.base.specs.Index.{or_else}
use Rattle.model.specs.declared.Model.{Model}
use Rattle.model.specs.Refusal.{accepted, short_file, extra_bytes}
use Rattle.model.specs.Values.{no_model}
use Rattle.model.specs.Rules.{unless, links_fault}
use Rattle.reader.specs.Read.{Read}
use Rattle.reader.specs.Word.{word_at}
use Rattle.reader.specs.Record.{end_kind, framing_fault, body_fault, with_record}

-- "a model .. returned by value beside the number" is zero
abbrev pub read_or : ℕ → Model → Read
read_or number m = cond (eqb number accepted) (record { number = accepted; model = m }) (record { number = number; model = no_model })

-- after the end record: "bytes after the end record", then "next or first segment not below N", then 18
unfoldable pub read_end : List ℕ → Model → Read
read_end b m = read_or (or_else (unless (eqb (length b) 0) extra_bytes) (links_fault m)) m

-- the bytes b after a record of kind last, where m holds what was read so far. Each record takes 4 bytes or
-- more, so that at most as many records follow as there are bytes: with no byte left it is 1.
unfoldable pub read_from : ℕ → ℕ → List ℕ → Model → Read
read_from zero last b m = read_or short_file m
read_from (suc most) last b m =
    let r = take (word_at b 0) b in
    let k = word_at b 2 in
    let rest = drop (word_at b 0) b in
    let fault = or_else (framing_fault last b) (body_fault k m r) in
    let more = read_from most k rest (with_record k m r) in
    let done = cond (eqb k end_kind) (read_end rest m) more in
    cond (eqb fault accepted) done (read_or fault m)

unfoldable pub read_file : List ℕ → Read
read_file b = read_from (length b) 0 b no_model
