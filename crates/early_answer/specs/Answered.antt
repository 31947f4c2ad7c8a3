-- A call on a fit state as the code asks it of `early`: by the counts of the model, its end time, the segment to run, and limits.
use Rattle.std.specs.Prelude.{ℕ, ◌*◌, ◌<◌, ◌≤◌, ◌≡◌, Bool, true, false, cond, List, [], length, get_or, take, replicate}
use Rattle.base.specs.Index.{tabulate}
use Rattle.clock.specs.declared.Cycle.{Cycle}
use Rattle.clock.specs.Cycle.{stamp_at}
use Rattle.model.specs.declared.Segment.{Segment}
use Rattle.model.specs.declared.Thread.{Thread}
use Rattle.model.specs.declared.Ran.{Ran}
use Rattle.model.specs.Values.{body_of}
use Rattle.model.specs.Statement.{notified_by}
use Rattle.model.specs.Record.{thread_at, cycle_of, is_running}
use Rattle.model.specs.Effect.{Effect, effect_in, held_effect}
use Rattle.model.specs.Footprint.{writes_of}
use Rattle.plain.specs.Wake.{floor_below}
use Rattle.early.specs.declared.Notification.{Notification}
use Rattle.early.specs.declared.Site.{Site}
use Rattle.early.specs.declared.Call.{Call}
use Rattle.early.specs.declared.Call.TheVariants.{Both, Grant, Finish}
use Rattle.early.specs.Log.{places, log_of, places_with}
use Rattle.early.specs.Deliver.{settled_by}
use Rattle.early.specs.Request.{number_for, Requested, granted_by}
use Rattle.early.specs.Call.{held_count, held_at, with_held, Called, called_by, running_from, finish_number}
use Rattle.early_limits.specs.Ahead.{hazard_at, segments_of}
use Rattle.early_deliver.specs.Awake.{ahead_of, sooner_on}

-- which thread a call is of, and which call it is
abbrev pub thread_of : Call → ℕ
thread_of (Both k) = k
thread_of (Grant k) = k
thread_of (Finish k) = k

abbrev pub is_grant : Call → Bool
is_grant (Both k) = false
is_grant (Grant k) = true
is_grant (Finish k) = false

abbrev pub is_finish : Call → Bool
is_finish (Both k) = false
is_finish (Grant k) = false
is_finish (Finish k) = true

-- whether a hazard stands for thread k at a cycle, on limits, by which threads conflict in their segments
unfoldable pub hazard_on : ℕ → ℕ → (ℕ → ℕ → ℕ → ℕ → Bool) → List ℕ → List ℕ → List Notification → List Thread → ℕ → Cycle → Bool
hazard_on n t conflicts ws reach l ts k c = hazard_at conflicts ws n t (segments_of t ts) (ahead_of reach t l ts) (stamp_at c k)

-- the number of a request or a grant: 15 counts in the log with what is counted, all else goes by the log
unfoldable pub number_on : ℕ → ℕ → ℕ → List ℕ → (ℕ → ℕ → ℕ → ℕ → Bool) → List ℕ → List ℕ → List Notification → List Notification → List Thread → ℕ → ℕ
number_on end n t es conflicts ws reach counted l ts k = number_for t end (hazard_on n t conflicts ws reach l ts k) (floor_below t ts) es counted ts k

-- the number of a call
unfoldable pub call_number_on : ℕ → ℕ → ℕ → List ℕ → (ℕ → ℕ → ℕ → ℕ → Bool) → List ℕ → List ℕ → List Notification → List Notification → List Thread → Call → ℕ
call_number_on end n t es conflicts ws reach counted l ts call =
    cond (is_finish call) (finish_number t ts (thread_of call)) (number_on end n t es conflicts ws reach counted l ts (thread_of call))

-- an effect as the code holds it
abbrev pub effect_from : Ran → Effect
effect_from ran = record { variables = ran.variables.at; notified = take ran.notified.n ran.notified.at; thread = ran.thread }

-- a grant with deliveries on limits; the code keeps no history
unfoldable pub grant_on : List ℕ → ℕ → Site → List Thread → ℕ → Cycle → Effect → Requested
grant_on reach t site ts k c x = granted_by (floor_below t) (λ l us. settled_by (sooner_on reach t l) l t us) (λ j. []) site ts k c x

-- "stores the variables it writes": over v, those of w that segment g writes
unfoldable pub stored_in : Segment → List ℕ → List ℕ → List ℕ
stored_in g v w = tabulate (length v) 0 (λ i. cond (writes_of g i) (get_or w i 0) (get_or v i 0))

-- what segment g, numbered s, does at c: a finish reads the values u that are held and stores over v, a request reads v and leaves what it has made
unfoldable pub effect_on : Bool → Segment → ℕ → Cycle → List ℕ → List ℕ → Effect
effect_on finishes g s c v u =
    let x = effect_from (held_effect (effect_in g s c (cond finishes u v))) in
    record { variables = cond finishes (stored_in g v x.variables) x.variables; notified = x.notified; thread = x.thread }

-- segment g run by thread k at the cycle of its record
unfoldable pub run_on : Bool → List ℕ → ℕ → Segment → Site → List Thread → List ℕ → ℕ → Requested
run_on finishes reach t g site ts held k =
    let c = cycle_of (thread_at ts k).state in
    grant_on reach t site ts k c (effect_on finishes g (thread_at ts k).segment c site.variables.at (held_at held k))

-- a set that is emptied at a finish
unfoldable pub emptied_by : Bool → List ℕ → ℕ → List ℕ
emptied_by finishes held k = cond finishes (with_held held k (replicate held_count 0)) held

-- what a call does where its number is 0
unfoldable pub done_on : List ℕ → ℕ → Segment → Site → List Thread → List ℕ → Call → Called
done_on reach t g site ts held call =
    let k = thread_of call in
    cond (is_grant call)
    (record { left = running_from site ts k; held = with_held held k site.variables.at })
    (record { left = run_on (is_finish call) reach t g site ts held k; held = emptied_by (is_finish call) held k })

unfoldable pub called_on : ℕ → ℕ → ℕ → Segment → (ℕ → ℕ → ℕ → ℕ → Bool) → List ℕ → List ℕ → Site → Site → List Thread → List ℕ → Call → Called
called_on end n t g conflicts ws reach counted site ts held call =
    called_by (call_number_on end n t (notified_by (body_of g)) conflicts ws reach (log_of counted) (log_of site) ts call) site ts held
    (done_on reach t g site ts held call)

-- what a call needs of the values that are held: a set for each thread, where it holds or has held any
pub record EnoughHeld (t : ℕ) (held : List ℕ) (call : Call) : Type 0 where
  pub granted : is_grant call ≡ true → held_count * t ≤ length held
  pub finished : is_finish call ≡ true → held_count * t ≤ length held

-- What it needs of the places: that the log takes no more than are counted, and that a running thread has the places of what its segment g lists.
pub record HasRoom (t : ℕ) (g : Segment) (counted site : Site) (ts : List Thread) (call : Call) : Type 0 where
  pub counts : (c : Cycle) (es : List ℕ) → places_with (log_of site) c es ≤ places_with (log_of counted) c es
  pub running : is_finish call ≡ true → thread_of call < t → is_running (thread_at ts (thread_of call)).state ≡ true
      → places_with (log_of site) (cycle_of (thread_at ts (thread_of call)).state) (notified_by (body_of g)) ≤ places
