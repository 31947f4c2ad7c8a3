-- Demand 3, for lists of requests and of calls, of every model that keeps the file rules, with marks that hold the needed ones and words that begin with
-- its distances, on records of which the first T are fresh: the plain run's facts and the kit's laws hold of it, and the argument
-- applies. So of every accepted file.
-- Assumes nothing.
use Prim.Native.Nat.{ℕ, ◌*◌, ◌≤◌}
use mathlib.Core.Path.{◌≡◌, refl, ap, sym, ◌∙◌}
use mathlib.Core.Bool.{Bool}
use mathlib.Core.List.{List, ◌++◌}
use native.Mathlib.Omega.{arith}
use lib.ListN.{length, drop, take-append-drop}
use lib.Seq.{take_all}
use Rattle.model.specs.declared.Model.{Model}
use Rattle.model.specs.declared.Thread.{Thread}
use Rattle.model.specs.Rules.{model_fault}
use Rattle.reader.specs.File.{read_file}
use Rattle.reader_laws.proofs.Accepted.{accepted-kept}
use Rattle.tables.specs.Conflict.{marks_of}
use Rattle.tables.specs.Word.{words_of}
use Rattle.tables_laws.proofs.WordLaws.{words_of-length}
use Rattle.plain.specs.Start.{fresh_threads, start_of}
use Rattle.plain.specs.Step.{place_at}
use Rattle.plain_laws.proofs.StartLaws.{shape}
use Rattle.early.specs.declared.Call.{Call}
use Rattle.early.specs.Call.{held_count}
use Rattle.order.specs.Claim.{FreshBelow, TableBelow, Claim, OrderIndependence, CallClaim, CallsIndependence}
use Rattle.order.proofs.KitLaws.{Begins, Needed}
use Rattle.order.proofs.PlainInstance.{plain-facts}
use Rattle.order.proofs.KitInstance.{marks_of-needed, kit-laws}
use Rattle.order.proofs.CallTheorem.{call-claim}
use Rattle.order.proofs.Theorem.{claim}

pub claim-with : (m : Model) → model_fault m ≡ 0 → (marks : List (List Bool)) → Needed m marks → (ws : List ℕ) → Begins (words_of m) ws
    → (ts : List Thread) → FreshBelow m ts → (ks : List ℕ) → Claim m marks ws ts ks
claim-with m fit marks needed ws begins ts fresh ks = claim m (plain-facts m fit) (kit-laws m fit ws begins marks needed) fresh ks

pub call-claim-with : (m : Model) → model_fault m ≡ 0 → (marks : List (List Bool)) → Needed m marks → (ws : List ℕ) → Begins (words_of m) ws
    → (ts : List Thread) → FreshBelow m ts → (held : List ℕ) → held_count * m.t ≤ length held → (cs : List Call) → CallClaim m marks ws ts held cs
call-claim-with m fit marks needed ws begins ts fresh held enough cs =
    call-claim m (plain-facts m fit) (kit-laws m fit ws begins marks needed) fresh held enough cs

-- words of which the first N × N are the table's begin with it
pub table-begins : (m : Model) (ws : List ℕ) → TableBelow m ws → Begins (words_of m) ws
table-begins m ws table =
    let n = m.n * m.n in
    (drop n ws, sym (take-append-drop n ws) ∙ ap (λ (l : List ℕ). l ++ drop n ws) table)

pub order-independence : OrderIndependence
order-independence bytes e ws table ts fresh ks =
    let m = (read_file bytes).model in
    let fit = accepted-kept bytes e in
    claim-with m fit (marks_of m) (marks_of-needed m fit) ws (table-begins m ws table) ts fresh ks

pub calls-independence : CallsIndependence
calls-independence bytes e ws table ts fresh held enough cs =
    let m = (read_file bytes).model in
    let fit = accepted-kept bytes e in
    call-claim-with m fit (marks_of m) (marks_of-needed m fit) ws (table-begins m ws table) ts fresh held enough cs

-- the reader's own words and the 32 fresh records are such
pub words_of-below : (m : Model) → TableBelow m (words_of m)
words_of-below m = take_all (m.n * m.n) (words_of m) (omega (arith, words_of-length m))

pub fresh_threads-below : (m : Model) → FreshBelow m (fresh_threads m)
unfolding place_at start_of
fresh_threads-below m = record { enough = (shape m 0).enough; fresh = λ k h. refl }

-- so of a list on values, of a held model
pub claim-fresh : (m : Model) → model_fault m ≡ 0 → (ks : List ℕ) → Claim m (marks_of m) (words_of m) (fresh_threads m) ks
claim-fresh m fit ks =
    claim-with m fit (marks_of m) (marks_of-needed m fit) (words_of m) (table-begins m (words_of m) (words_of-below m)) (fresh_threads m) (fresh_threads-below m) ks

pub call-claim-fresh : (m : Model) → model_fault m ≡ 0 → (held : List ℕ) → held_count * m.t ≤ length held → (cs : List Call)
    → CallClaim m (marks_of m) (words_of m) (fresh_threads m) held cs
call-claim-fresh m fit held enough cs =
    call-claim-with m fit (marks_of m) (marks_of-needed m fit) (words_of m) (table-begins m (words_of m) (words_of-below m)) (fresh_threads m) (fresh_threads-below m) held enough cs
