-- Document 01, "Early issue": deliveries after a grant.
-- What they ask of the look ahead is a test that they are given, so that they are the same on bounds and on limits.
use Rattle.std.specs.Prelude.{ℕ, zero, suc, Bool, cond, List, [], ◌++◌, eqb, set}
use Rattle.clock.specs.declared.Wait.TheVariants as wait
use Rattle.clock.specs.declared.Bound.{Bound}
use Rattle.clock.specs.declared.Bound.TheVariants.{Never, At}
use Rattle.clock.specs.Wait.{wait_ends}
use Rattle.clock.specs.Advance.{is_bound_before}
use Rattle.model.specs.declared.Model.{Model}
use Rattle.model.specs.declared.State.{State}
use Rattle.model.specs.declared.Thread.{Thread}
use Rattle.model.specs.Record.{thread_at, Awaited, nothing, awaits, awaited_by, state_after}
use Rattle.plain.specs.History.{Item, heard_item}
use Rattle.early.specs.declared.Notification.{Notification}
use Rattle.early.specs.Log.{least_heard}
use Rattle.early.specs.Forecast.{forecast_of}

-- whether the forecast of an event, on these records, is smaller than a bound
abbrev pub Sooner : Type 0
Sooner = List Thread → ℕ → Bound → Bool

unfoldable pub forecast_sooner : Model → List ℕ → List Notification → Sooner
forecast_sooner m ws l ts e x = is_bound_before (forecast_of m ws l ts e) x

-- the notification that is heard now, or never: "A delivery is looked for only if the thread waits: it hears the least
-- logged notification not before its wait, if the forecast of the event is not smaller."
unfoldable pub heard_by : (ℕ → Bound → Bool) → List Notification → Awaited → Bound
heard_by is_sooner l nothing = Never
heard_by is_sooner l (awaits e since) =
    let x = least_heard l e since in
    cond (is_sooner e x) Never x

-- "It then becomes ready or overrun as in the plain run"
unfoldable pub after_hearing : Bound → State → State
after_hearing Never s = s
after_hearing (At c) s = state_after (wait_ends wait.Event c)

-- "and the event counts as heard in both"
unfoldable pub heard_items : Bound → Awaited → List Item
heard_items Never a = []
heard_items (At c) a = heard_item c a

-- one look at thread k, and what it adds to the history of thread j
unfoldable pub looked_by : Sooner → List Notification → List Thread → ℕ → List Thread
looked_by sooner l ts k =
    let t = thread_at ts k in
    set ts k (record { segment = t.segment; state = after_hearing (heard_by (sooner ts) l (awaited_by t.state)) t.state })

unfoldable pub look_items_by : Sooner → List Notification → List Thread → ℕ → ℕ → List Item
look_items_by sooner l ts k j =
    let a = awaited_by (thread_at ts k).state in
    cond (eqb j k) (heard_items (heard_by (sooner ts) l a) a) []

-- "every thread is looked at": the threads below n, lowest number first
unfoldable pub swept_by : Sooner → List Notification → List Thread → ℕ → List Thread
swept_by sooner l ts zero = ts
swept_by sooner l ts (suc n) = looked_by sooner l (swept_by sooner l ts n) n

unfoldable pub swept_items_by : Sooner → List Notification → List Thread → ℕ → ℕ → List Item
swept_items_by sooner l ts zero j = []
swept_items_by sooner l ts (suc n) j = swept_items_by sooner l ts n j ++ look_items_by sooner l (swept_by sooner l ts n) n j

-- n sweeps over the threads below t
unfoldable pub sweeps_by : Sooner → List Notification → ℕ → ℕ → List Thread → List Thread
sweeps_by sooner l t zero ts = ts
sweeps_by sooner l t (suc n) ts = sweeps_by sooner l t n (swept_by sooner l ts t)

unfoldable pub sweep_items_by : Sooner → List Notification → ℕ → ℕ → List Thread → ℕ → List Item
sweep_items_by sooner l t zero ts j = []
sweep_items_by sooner l t (suc n) ts j = swept_items_by sooner l ts t j ++ sweep_items_by sooner l t n (swept_by sooner l ts t) j

-- "again and again until none hears anything": each sweep but the last has a thread stop waiting, so that T are enough
abbrev pub settled_by : Sooner → List Notification → ℕ → List Thread → List Thread
settled_by sooner l t ts = sweeps_by sooner l t t ts

abbrev pub settled_items_by : Sooner → List Notification → ℕ → List Thread → ℕ → List Item
settled_items_by sooner l t ts j = sweep_items_by sooner l t t ts j

-- the same by the forecast itself: what is heard, a look, a sweep, and all of them
abbrev pub heard_now : Model → List ℕ → List Notification → List Thread → Awaited → Bound
heard_now m ws l ts a = heard_by (forecast_sooner m ws l ts) l a

abbrev pub looked_at : Model → List ℕ → List Notification → List Thread → ℕ → List Thread
looked_at m ws l ts k = looked_by (forecast_sooner m ws l) l ts k

abbrev pub look_items : Model → List ℕ → List Notification → List Thread → ℕ → ℕ → List Item
look_items m ws l ts k j = look_items_by (forecast_sooner m ws l) l ts k j

abbrev pub swept : Model → List ℕ → List Notification → List Thread → ℕ → List Thread
swept m ws l ts n = swept_by (forecast_sooner m ws l) l ts n

abbrev pub settled : Model → List ℕ → List Notification → List Thread → List Thread
settled m ws l ts = settled_by (forecast_sooner m ws l) l m.t ts

abbrev pub settled_items : Model → List ℕ → List Notification → List Thread → ℕ → List Item
settled_items m ws l ts j = settled_items_by (forecast_sooner m ws l) l m.t ts j
