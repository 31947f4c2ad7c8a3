-- Document 02, slip 7: "Split the request into two that answer as it does: a grant fixes the values that the segment reads, kept with the
-- state, and a finish stores the variables it writes, logs its notifications and closes it."
use Rattle.std.specs.Prelude.{ℕ, ◌-◌, ◌*◌, min, Bool, cond, not, ◌||◌, List, [], ◌∷◌, ◌++◌, ltb, eqb, length, get_or, set, take, drop, replicate}
use Rattle.std.proofs.lemmas.List.Edits.{sets}
use Rattle.base.specs.Index.{tabulate}
use Rattle.model.specs.declared.Model.{Model}
use Rattle.model.specs.declared.State.TheVariants.{Running}
use Rattle.model.specs.declared.Thread.{Thread}
use Rattle.model.specs.Refusal.{accepted, wrong_thread, unfit, out_of_turn, short_table}
use Rattle.model.specs.Record.{thread_at, cycle_of, is_running}
use Rattle.model.specs.Effect.{Effect, effect_of}
use Rattle.model.specs.Footprint.{writes_in}
use Rattle.tables.specs.Word.{words_of}
use Rattle.tables.specs.Outcome.{row_words}
use Rattle.plain.specs.Wake.{floor_of}
use Rattle.plain.specs.History.{ran}
use Rattle.early.specs.declared.Site.{Site}
use Rattle.early.specs.declared.Answer.TheVariants.{Granted}
use Rattle.early.specs.declared.Call.{Call}
use Rattle.early.specs.declared.Call.TheVariants.{Both, Grant, Finish}
use Rattle.early.specs.Deliver.{settled, settled_items}
use Rattle.early.specs.Grant.{log_by, closed_by}
use Rattle.early.specs.Fit.{is_unfit_state, is_unfit}
use Rattle.early.specs.Request.{number_in, Requested, refused_with, granted_by, answered_by, request_fit, Listed}

-- The values "kept with the state": for each thread 64 numbers, one set after the other
abbrev pub held_count : ℕ
held_count = 64

abbrev pub held_at : List ℕ → ℕ → List ℕ
held_at held k = take held_count (drop (held_count * k) held)

abbrev pub with_held : List ℕ → ℕ → List ℕ → List ℕ
with_held held k v = sets held (held_count * k) v

-- 11, "lent slice too short": fewer than a set for each thread
unfoldable pub is_unfit_held : Model → List ℕ → Bool
is_unfit_held m held = ltb (length held) (held_count * m.t)

-- what a call leaves: state, records and answer as of a request, and the values that are held
pub record Called : Type 0 where
  pub left : Requested
  pub held : List ℕ

abbrev pub called_with : ℕ → Site → List Thread → List ℕ → Called
called_with n site ts held = record { left = refused_with n site ts; held = held }

-- decided by a number, and done where that is 0
abbrev pub called_by : ℕ → Site → List Thread → List ℕ → Called → Called
called_by n site ts held done =
    record { left = answered_by n site ts done.left; held = cond (eqb n accepted) done.held held }

-- A grant of thread k: "Until its finish a thread is running"; variables and log stay, and the segment counts in its history
unfoldable pub running_from : Site → List Thread → ℕ → Requested
running_from site ts k =
    let s = (thread_at ts k).segment in
    let c = cycle_of (thread_at ts k).state in
    record {
      answer = Granted s c;
      site = site;
      threads = set ts k (record { segment = s; state = Running c });
      items = λ j. cond (eqb j k) (ran s c ∷ []) [];
    }

-- "a finish stores the variables it writes": over the variables v, those of w that the segment s of thread k writes
unfoldable pub stored_over : Model → ℕ → ℕ → List ℕ → List ℕ → List ℕ
stored_over m k s v w = tabulate (length v) 0 (λ i. cond (writes_in m k s i) (get_or w i 0) (get_or v i 0))

-- what the segment of thread k does, on the values that are held for it
unfoldable pub effect_held : Model → Site → List Thread → List ℕ → ℕ → Effect
effect_held m site ts held k =
    let s = (thread_at ts k).segment in
    let x = effect_of m k s (cycle_of (thread_at ts k).state) (held_at held k) in
    record { variables = stored_over m k s site.variables.at x.variables; notified = x.notified; thread = x.thread }

-- A finish of thread k: "Deliveries and drops follow a finish."
unfoldable pub finished_from : Model → List ℕ → Site → List Thread → List ℕ → ℕ → Requested
finished_from m ws site ts held k =
    let c = cycle_of (thread_at ts k).state in
    let x = effect_held m site ts held k in
    granted_by (floor_of m) (settled m ws) (λ j. settled_items m ws (log_by site c x) (closed_by ts k x) j) site ts k c x

-- "19 when .. one not running is finished, checked after 10; no later number refuses a finish"
unfoldable pub finish_number : ℕ → List Thread → ℕ → ℕ
finish_number t ts k = cond (not (ltb k t)) wrong_thread (cond (is_running (thread_at ts k).state) accepted out_of_turn)

-- a call on a fit state; "The combined request stays, as a grant and its finish at once", and holds nothing
unfoldable pub call_fit : Model → List (List Bool) → List ℕ → Site → List Thread → List ℕ → Call → Called
call_fit m marks ws site ts held (Both k) = record { left = request_fit m marks ws site ts k; held = held }
call_fit m marks ws site ts held (Grant k) =
    called_by (number_in m marks ws site ts k) site ts held
    (record { left = running_from site ts k; held = with_held held k site.variables.at })
call_fit m marks ws site ts held (Finish k) =
    called_by (finish_number m.t ts k) site ts held
    (record { left = finished_from m ws site ts held k; held = with_held held k (replicate held_count 0) })

-- with a table of words
unfoldable pub call_of : Model → List (List Bool) → List ℕ → Site → List Thread → List ℕ → Call → Called
call_of m marks ws site ts held call =
    cond (is_unfit m ws site ts || is_unfit_held m held) (called_with unfit site ts held) (call_fit m marks ws site ts held call)

-- by rows, with so many words lent
unfoldable pub call_by_rows : Model → List (List Bool) → ℕ → Site → List Thread → List ℕ → Call → Called
call_by_rows m marks lent site ts held call =
    cond (is_unfit_state m site ts || is_unfit_held m held) (called_with unfit site ts held)
    (cond (ltb lent row_words) (called_with short_table site ts held) (call_fit m marks (words_of m) site ts held call))

-- what a list of calls leaves, as of requests, and the values that are held
pub record Served : Type 0 where
  pub listed : Listed
  pub held : List ℕ

-- each call gets what the last one left
unfoldable pub served_by : (Site → List Thread → List ℕ → Call → Called) → Site → List Thread → List ℕ → List Call → Served
served_by ask site ts held [] = record { listed = record { answers = []; site = site; threads = ts; history = λ j. [] }; held = held }
served_by ask site ts held (c ∷ cs) =
    let a = ask site ts held c in
    let r = served_by ask a.left.site a.left.threads a.held cs in
    record {
      listed = record {
        answers = a.left.answer ∷ r.listed.answers;
        site = r.listed.site;
        threads = r.listed.threads;
        history = λ j. a.left.items j ++ r.listed.history j;
      };
      held = r.held;
    }

abbrev pub calls_of : Model → List (List Bool) → List ℕ → Site → List Thread → List ℕ → List Call → Served
calls_of m marks ws site ts held cs = served_by (call_of m marks ws) site ts held cs

abbrev pub calls_by_rows : Model → List (List Bool) → ℕ → Site → List Thread → List ℕ → List Call → Served
calls_by_rows m marks lent site ts held cs = served_by (call_by_rows m marks lent) site ts held cs

-- A call as a word: the thread, with 256 more for a grant and 512 more for a finish; from 768 on, of thread 255, which no model has
unfoldable pub call_at : ℕ → Call
call_at w = cond (ltb w 256) (Both w) (cond (ltb w 512) (Grant (w - 256)) (Finish (min (w - 512) 255)))
