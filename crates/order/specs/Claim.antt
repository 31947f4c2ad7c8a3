-- Demand 3, as one claim about a whole list of requests; and, with document 02, slip 7, about a whole list of calls: grants, finishes and requests.
use Rattle.std.specs.Prelude.{ℕ, ◌*◌, ◌<◌, ◌≤◌, ◌≡◌, Bool, true, false, List, length, take}
use Rattle.clock.specs.declared.Cycle.{Cycle}
use Rattle.model.specs.declared.Model.{Model}
use Rattle.model.specs.declared.Thread.{Thread}
use Rattle.model.specs.Refusal.{accepted}
use Rattle.model.specs.Limits.{is_up_to_horizon}
use Rattle.model.specs.Record.{thread_at, cycle_of, is_running}
use Rattle.reader.specs.File.{read_file}
use Rattle.tables.specs.Conflict.{marks_of}
use Rattle.tables.specs.Word.{words_of}
use Rattle.plain.specs.Start.{fresh_threads}
use Rattle.plain.specs.Wake.{some_ready}
use Rattle.plain.specs.Step.{place_at}
use Rattle.plain.specs.Run.{is_done}
use Rattle.plain.specs.History.{history_at}
use Rattle.early.specs.declared.Answer.TheVariants.{Granted}
use Rattle.early.specs.declared.Call.{Call}
use Rattle.early.specs.Answer.{number_of}
use Rattle.early.specs.Request.{Requested, request_of, fresh_site, Listed, requests_of}
use Rattle.early.specs.Call.{held_count, Called, call_of, Served, calls_of}

-- "The fresh state, thread records included, is the plain run's start": of records that are lent, "at least as many as the threads"
pub record FreshBelow (m : Model) (ts : List Thread) : Type 0 where
  pub enough : m.t ≤ length ts
  pub fresh : (k : ℕ) → k < m.t → thread_at ts k ≡ thread_at (fresh_threads m) k

-- "N × N words for N segments": the reader's, with any words past them
abbrev pub TableBelow : Model → List ℕ → Type 0
TableBelow m ws = take (m.n * m.n) ws ≡ words_of m

-- "The first gets the fresh state, each later one the state and thread records that the last one left": with these marks, words and records
abbrev pub after_list_with : Model → List (List Bool) → List ℕ → List Thread → List ℕ → Listed
after_list_with m marks ws ts ks = requests_of m marks ws fresh_site ts ks

-- with the tables that the reader made, on 32 records
unfoldable pub after_list : Model → List ℕ → Listed
after_list m ks = after_list_with m (marks_of m) (words_of m) (fresh_threads m) ks

-- the request of thread k, made next
abbrev pub request_next : Model → List (List Bool) → List ℕ → List Thread → List ℕ → ℕ → Requested
request_next m marks ws ts ks k =
    let a = after_list_with m marks ws ts ks in
    request_of m marks ws a.site a.threads k

-- "every variable, every thread's history and every thread's closing state equal those of the plain run": at step i
pub record AgreesAt (m : Model) (a : Listed) (i : ℕ) : Type 0 where
  pub variables : a.site.variables.at ≡ (place_at m i).variables
  pub history : (k : ℕ) → k < m.t → a.history k ≡ history_at m k i
  pub closing : (k : ℕ) → k < m.t → thread_at a.threads k ≡ thread_at (place_at m i).threads k

pub record Claim (m : Model) (marks : List (List Bool)) (ws : List ℕ) (ts : List Thread) (ks : List ℕ) : Type 0 where
  -- "where no thread is ready before the horizon", read "not later than H": equal to "the plain run carried on until it is done"
  pub at_end : some_ready m (after_list_with m marks ws ts ks).threads ≡ false → (i : ℕ) × (is_done m (place_at m i) ≡ true) × AgreesAt m (after_list_with m marks ws ts ks) i
  -- "where one is ready before it, some thread's request, made next, is granted"
  pub goes_on : some_ready m (after_list_with m marks ws ts ks).threads ≡ true → (k : ℕ) × (s : ℕ) × (c : Cycle) × ((request_next m marks ws ts ks k).answer ≡ Granted s c)

-- "Take any list of requests on an accepted model, for whichever threads and in whatever order, refused ones included.": with the reader's tables,
-- on any records of which the first T are fresh
abbrev pub OrderIndependence : Type 0
OrderIndependence =
    (bytes : List ℕ) → (read_file bytes).number ≡ accepted →
    let m = (read_file bytes).model in
    (ws : List ℕ) → TableBelow m ws → (ts : List Thread) → FreshBelow m ts → (ks : List ℕ) → Claim m (marks_of m) ws ts ks

-- A list of calls from the fresh state, with these marks, words and records; `held` is where values are held, and may hold anything at first
abbrev pub after_calls_with : Model → List (List Bool) → List ℕ → List Thread → List ℕ → List Call → Served
after_calls_with m marks ws ts held cs = calls_of m marks ws fresh_site ts held cs

-- with the tables that the reader made, on 32 records
unfoldable pub after_calls : Model → List ℕ → List Call → Served
after_calls m held cs = after_calls_with m (marks_of m) (words_of m) (fresh_threads m) held cs

-- a call, made next
abbrev pub call_next : Model → List (List Bool) → List ℕ → List Thread → List ℕ → List Call → Call → Called
call_next m marks ws ts held cs c =
    let a = after_calls_with m marks ws ts held cs in
    call_of m marks ws a.listed.site a.listed.threads a.held c

-- `some_ready` counts a running thread as ready, and none is running past the horizon (`soon`): so that it is false where there is "nothing running and
-- nothing ready up to the horizon", and true "while a thread is running or ready up to it".
pub record CallClaim (m : Model) (marks : List (List Bool)) (ws : List ℕ) (ts : List Thread) (held : List ℕ) (cs : List Call) : Type 0 where
  -- what "ends with nothing running and nothing ready up to the horizon must match the plain run as in demand 3"
  pub at_end : some_ready m (after_calls_with m marks ws ts held cs).listed.threads ≡ false
      → (i : ℕ) × (is_done m (place_at m i) ≡ true) × AgreesAt m (after_calls_with m marks ws ts held cs).listed i
  -- "while a thread is running or ready up to it, some next call is not refused"
  pub goes_on : some_ready m (after_calls_with m marks ws ts held cs).listed.threads ≡ true
      → (c : Call) × (number_of (call_next m marks ws ts held cs c).left.answer ≡ accepted)
  pub soon : (k : ℕ) → k < m.t → is_running (thread_at (after_calls_with m marks ws ts held cs).listed.threads k).state ≡ true
      → is_up_to_horizon m (cycle_of (thread_at (after_calls_with m marks ws ts held cs).listed.threads k).state) ≡ true

-- "Any mix of grants and finishes that starts from the fresh state", and combined requests among them, refused ones included: with the reader's tables,
-- on any records of which the first T are fresh, and with a set of held values for each of them
abbrev pub CallsIndependence : Type 0
CallsIndependence =
    (bytes : List ℕ) → (read_file bytes).number ≡ accepted →
    let m = (read_file bytes).model in
    (ws : List ℕ) → TableBelow m ws → (ts : List Thread) → FreshBelow m ts → (held : List ℕ) → held_count * m.t ≤ length held → (cs : List Call)
    → CallClaim m (marks_of m) ws ts held cs
