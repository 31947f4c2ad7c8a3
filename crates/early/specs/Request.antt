-- Document 01, "Early issue" and "Numbers of refusal": a request, and a list of requests. "Requests: 11, 10, 12, 13, 14, 15."; document 02,
-- slip 7: 19 is "checked after 10".
use Rattle.std.specs.Prelude.{ℕ, ◌≡◌, Bool, cond, not, ◌&&◌, ◌||◌, List, [], ◌∷◌, ◌++◌, ltb, eqb}
use Rattle.clock.specs.declared.Cycle.{Cycle}
use Rattle.clock.specs.declared.Bound.{Bound}
use Rattle.clock.specs.declared.Bound.TheVariants.{Never, At}
use Rattle.clock.specs.Advance.{is_bound_before}
use Rattle.model.specs.declared.Model.{Model}
use Rattle.model.specs.declared.Thread.{Thread}
use Rattle.model.specs.Refusal.{accepted, wrong_thread, unfit, out_of_turn, not_ready, past_horizon, hazard_stands, log_full}
use Rattle.model.specs.Limits.{end_time, is_before_time}
use Rattle.model.specs.Record.{thread_at, ready_cycle, cycle_of, is_running}
use Rattle.model.specs.Effect.{Effect}
use Rattle.model.specs.Footprint.{listed_in}
use Rattle.plain.specs.Start.{fresh_variables}
use Rattle.plain.specs.Wake.{floor_of}
use Rattle.plain.specs.History.{Item}
use Rattle.early.specs.declared.Notification.{Notification}
use Rattle.early.specs.declared.Site.{Site}
use Rattle.early.specs.declared.Answer.{Answer}
use Rattle.early.specs.declared.Answer.TheVariants.{Granted, Refused}
use Rattle.early.specs.Answer.{number_of, values_of}
use Rattle.early.specs.Log.{places, log_of, site_of, places_with, counted_log, counted_places}
use Rattle.early.specs.Hazard.{hazard}
use Rattle.early.specs.Fit.{is_unfit}
use Rattle.early.specs.Deliver.{settled}
use Rattle.early.specs.Grant.{log_by, closed_by, site_by, effect_at, items_after}

-- 15, "cycle later than the floor and log plus new pairs above 96; or above 128 for any thread", by the floor and the places counted
abbrev pub early_places : ℕ
early_places = 96

abbrev pub is_full_by : Bound → ℕ → Cycle → Bool
is_full_by floor n c = (is_bound_before floor (At c) && ltb early_places n) || ltb places n

unfoldable pub is_full : Model → Site → List Thread → ℕ → Cycle → Bool
is_full m site ts k c = is_full_by (floor_of m ts) (counted_places m site ts k (thread_at ts k).segment c) c

-- The number on a fit state, 0 for a grant: by T, the end time, whether a hazard stands at a cycle, the floor, the events that the
-- segment lists, and the log with what is counted. First of a ready thread before the end time, then of one that is ready at a bound's
-- cycle or not ready.
unfoldable pub number_ready : (Cycle → Bool) → Bound → List ℕ → List Notification → Cycle → ℕ
number_ready is_hazard floor es l c = cond (is_hazard c) hazard_stands (cond (is_full_by floor (places_with l c es) c) log_full accepted)

unfoldable pub number_at : ℕ → (Cycle → Bool) → Bound → List ℕ → List Notification → Bound → ℕ
number_at end is_hazard floor es l Never = not_ready
number_at end is_hazard floor es l (At c) = cond (not (is_before_time end c)) past_horizon (number_ready is_hazard floor es l c)

unfoldable pub number_for : ℕ → ℕ → (Cycle → Bool) → Bound → List ℕ → List Notification → List Thread → ℕ → ℕ
number_for t end is_hazard floor es l ts k =
    let s = (thread_at ts k).state in
    cond (not (ltb k t)) wrong_thread (cond (is_running s) out_of_turn (number_at end is_hazard floor es l (ready_cycle s)))

-- the number of a request in a model
unfoldable pub number_in : Model → List (List Bool) → List ℕ → Site → List Thread → ℕ → ℕ
number_in m marks ws site ts k =
    let l = log_of site in
    number_for m.t (end_time m) (hazard m marks ws l ts k) (floor_of m ts) (listed_in m k (thread_at ts k).segment) (counted_log m ts l) ts k

-- what a request leaves, with what it adds to each thread's history
pub record Requested : Type 0 where
  pub answer : Answer
  pub site : Site
  pub threads : List Thread
  pub items : ℕ → List Item

-- "A refused request returns the number with state and thread records as handed in."
abbrev pub refused_with : ℕ → Site → List Thread → Requested
refused_with n site ts = record { answer = Refused n; site = site; threads = ts; items = λ j. [] }

-- a grant to thread k at c, by the effect of its segment, the floor of records, what a log delivers, and the history that it adds
abbrev pub granted_by : (List Thread → Bound) → (List Notification → List Thread → List Thread) → (ℕ → List Item) → Site → List Thread → ℕ → Cycle → Effect → Requested
granted_by floor delivered items site ts k c x =
    let l = log_by site c x in
    let us = delivered l (closed_by ts k x) in
    record { answer = Granted (thread_at ts k).segment c; site = site_by (floor us) x l; threads = us; items = items }

unfoldable pub granted_to : Model → List ℕ → Site → List Thread → ℕ → Cycle → Requested
granted_to m ws site ts k c =
    granted_by (floor_of m) (settled m ws) (items_after m ws site ts k c) site ts k c (effect_at m site ts k c)

-- what is decided by a number, and run where that is 0
unfoldable pub answered_by : ℕ → Site → List Thread → Requested → Requested
answered_by n site ts grant = cond (eqb n accepted) grant (refused_with n site ts)

-- a request on a fit state: a ready thread is granted at the cycle of its record
unfoldable pub request_fit : Model → List (List Bool) → List ℕ → Site → List Thread → ℕ → Requested
request_fit m marks ws site ts k =
    answered_by (number_in m marks ws site ts k) site ts (granted_to m ws site ts k (cycle_of (thread_at ts k).state))

unfoldable pub request_of : Model → List (List Bool) → List ℕ → Site → List Thread → ℕ → Requested
request_of m marks ws site ts k =
    cond (is_unfit m ws site ts) (refused_with unfit site ts) (request_fit m marks ws site ts k)

-- The promises of the answer, by "this paper's number and values for each of its cases": the first number that applies, 0 for a grant, and
-- "the segment run with its cycle".
unfoldable pub answer_number : Model → List (List Bool) → List ℕ → Site → List Thread → ℕ → ℕ
answer_number m marks ws site ts k = cond (is_unfit m ws site ts) unfit (number_in m marks ws site ts k)

unfoldable pub answer_values : Model → List (List Bool) → List ℕ → Site → List Thread → ℕ → List ℕ
answer_values m marks ws site ts k =
    let t = thread_at ts k in
    cond (eqb (answer_number m marks ws site ts k) accepted) (values_of (Granted t.segment (cycle_of t.state))) []

pub record Answers (m : Model) (marks : List (List Bool)) (ws : List ℕ) (site : Site) (ts : List Thread) (k : ℕ) (a : Answer) : Type 0 where
  pub number : number_of a ≡ answer_number m marks ws site ts k
  pub values : values_of a ≡ answer_values m marks ws site ts k

-- "The fresh state, thread records included, is the plain run's start with an empty log"
unfoldable pub fresh_site : Site
fresh_site = site_of fresh_variables []

-- what a list of requests leaves, with its answers and each thread's history
pub record Listed : Type 0 where
  pub answers : List Answer
  pub site : Site
  pub threads : List Thread
  pub history : ℕ → List Item

-- each request gets "the state and thread records that the last one left", by what one request leaves of them
unfoldable pub listed_by : (Site → List Thread → ℕ → Requested) → Site → List Thread → List ℕ → Listed
listed_by ask site ts [] = record { answers = []; site = site; threads = ts; history = λ j. [] }
listed_by ask site ts (k ∷ ks) =
    let a = ask site ts k in
    let r = listed_by ask a.site a.threads ks in
    record { answers = a.answer ∷ r.answers; site = r.site; threads = r.threads; history = λ j. a.items j ++ r.history j }

abbrev pub requests_of : Model → List (List Bool) → List ℕ → Site → List Thread → List ℕ → Listed
requests_of m marks ws site ts ks = listed_by (request_of m marks ws) site ts ks
