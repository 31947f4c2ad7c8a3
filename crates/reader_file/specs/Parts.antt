-- What the reader's own functions answer, in parts of the definitions before. Only private contracts cite these.
use Rattle.std.specs.Prelude.{ℕ, zero, suc, ◌+◌, ◌<◌, ◌≤◌, max, ◌≡◌, Bool, false, cond, ◌||◌, List, leb, eqb, length, take, drop, Result, Ok}
use Rattle.refusal.specs.declared.Refusal.{Refusal}
use Rattle.refusal.specs.Number.{number_told}
use Rattle.base.specs.Index.{or_else}
use Rattle.model.specs.declared.Start.{Start}
use Rattle.model.specs.declared.Model.{Model}
use Rattle.model.specs.Port.{no_ports}
use Rattle.model.specs.Refusal.{accepted, short_file, wrong_target, extra_bytes}
use Rattle.model.specs.Values.{no_model, start_at}
use Rattle.model.specs.Rules.{unless, targets_fault, lack_fault}
use Rattle.reader.specs.Read.{Read}
use Rattle.reader.specs.Word.{byte_at, word_at}
use Rattle.reader.specs.Record.{head_kind, segment_kind, thread_kind, end_kind, framing_fault, ports_from, body_fault, with_record}
use Rattle.reader.specs.File.{read_or}
use Rattle.reader_segment.specs.Parts.{closer_in, target_bound, record_names}
use Rattle.reader_record.specs.declared.Counts.{Counts}

-- what is counted before the first record, and with the record r of kind k
abbrev pub no_counts : Counts
no_counts = record { v = 0; e = 0; n = 0; t = 0; bound = 0; named = false }

unfoldable pub counts_after : ℕ → Counts → List ℕ → Counts
counts_after k c r =
    cond (eqb k head_kind) (record { v = byte_at r 8; e = byte_at r 9; n = c.n; t = c.t; bound = c.bound; named = c.named })
    (cond (eqb k segment_kind) (record { v = c.v; e = c.e; n = c.n + 1; t = c.t; bound = max c.bound (target_bound (closer_in r)); named = c.named || record_names r })
    (cond (eqb k thread_kind) (record { v = c.v; e = c.e; n = c.n; t = c.t + 1; bound = max c.bound (byte_at r 4 + 1); named = c.named })
    c))

-- a record of kind k and length l is whole, and there is room for it
pub record Room (k : ℕ) (c : Counts) (l : ℕ) : Type 0 where
  pub head : k ≡ head_kind → l ≡ 10
  pub segment : k ≡ segment_kind → c.n < 64
  pub thread : k ≡ thread_kind → (l ≡ 5) × (c.t < 32)

-- after the end record, with so many bytes left: "then 9, 8"
unfoldable pub end_fault : ℕ → Counts → ℕ
end_fault left c = or_else (unless (eqb left 0) extra_bytes) (unless (leb c.bound c.n) wrong_target)

-- a number, and a model that is zero
abbrev pub refused_with : ℕ → Read
refused_with number = record { number = number; model = no_model }

-- the thread that a record says, and one with the ports of the record after it
unfoldable pub thread_from : List ℕ → Start
thread_from r = record { first = byte_at r 4; ports = no_ports }

unfoldable pub ports_into : Start → List ℕ → Start
ports_into x r = record { first = x.first; ports = ports_from r }

-- the file but for 18: after the end record 9, then 8
unfoldable pub judged_end : List ℕ → Model → Read
judged_end b m = read_or (or_else (unless (eqb (length b) 0) extra_bytes) (targets_fault m)) m

unfoldable pub judged_from : ℕ → ℕ → List ℕ → Model → Read
judged_from zero last b m = read_or short_file m
judged_from (suc most) last b m =
    let r = take (word_at b 0) b in
    let k = word_at b 2 in
    let rest = drop (word_at b 0) b in
    let fault = or_else (framing_fault last b) (body_fault k m r) in
    let more = judged_from most k rest (with_record k m r) in
    let done = cond (eqb k end_kind) (judged_end rest m) more in
    cond (eqb fault accepted) done (read_or fault m)

unfoldable pub judged_file : List ℕ → Read
judged_file b = judged_from (length b) 0 b no_model

-- a file's number but for 18; where no port is named, 18 is not to be asked
pub record Judges (b : List ℕ) (x : Result Bool Refusal) : Type 0 where
  pub number : number_told x ≡ (judged_file b).number
  pub unnamed : x ≡ Ok false → lack_fault (judged_file b).model ≡ 0

-- the model of a file whose number, but for 18, is 0: few enough segments and threads, and first segments that are there
pub record Builds (b : List ℕ) (m : Model) : Type 0 where
  pub model : m ≡ (judged_file b).model
  pub segments : m.n ≤ 64
  pub threads : m.t ≤ 32
  pub firsts : (k : ℕ) → k < m.t → (start_at m k).first < m.n
