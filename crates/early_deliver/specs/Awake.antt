-- Document 01, "Early issue": what deliveries ask of the look ahead, on limits; the laws of this crate say that on a fit state it is what the forecast says.
use Rattle.std.specs.Prelude.{ℕ, Bool, cond, List, ltb, set}
use Rattle.base.specs.Index.{tabulate}
use Rattle.clock.specs.declared.Cycle.{Cycle}
use Rattle.clock.specs.declared.Wait.TheVariants as wait
use Rattle.clock.specs.declared.Bound.{Bound}
use Rattle.clock.specs.declared.Bound.TheVariants.{Never, At}
use Rattle.clock.specs.Wait.{wait_ends}
use Rattle.model.specs.declared.State.{State}
use Rattle.model.specs.declared.Thread.{Thread}
use Rattle.model.specs.Record as view
use Rattle.model.specs.Record.{thread_at, View, view_of, state_after}
use Rattle.tables.specs.Word.{all_ones}
use Rattle.early.specs.declared.Notification.{Notification}
use Rattle.early.specs.Log.{least_heard}
use Rattle.early.specs.Deliver.{Sooner}
use Rattle.early_log.specs.declared.Rows.{Rows}
use Rattle.early_log.specs.Spread.{log_in}
use Rattle.early_deliver.specs.declared.Outlook.{Outlook}
use Rattle.early_limits.specs.Limit.{limit_of_cycle, sum_of}
use Rattle.early_limits.specs.Ahead.{forecast_at, earliest_limits, segments_of, crew_of}

-- the log that rows hold
abbrev pub log_on : Rows → List Notification
log_on r = log_in r.events r.times r.deltas r.n

-- a bound as a limit
abbrev pub bound_limit : Bound → ℕ
bound_limit Never = all_ones
bound_limit (At c) = limit_of_cycle c

-- where a thread's chains begin
abbrev pub first_limit_of : List Notification → View → ℕ
first_limit_of l view.idle = all_ones
first_limit_of l (view.ready c) = limit_of_cycle c
first_limit_of l (view.waits e since) = sum_of (bound_limit (least_heard l e since)) 1

abbrev pub first_limit : List Notification → State → ℕ
first_limit l s = first_limit_of l (view_of s)

unfoldable pub first_limits : ℕ → List Notification → List Thread → List ℕ
first_limits t l ts = tabulate 32 0 (λ k. cond (ltb k t) (first_limit l (thread_at ts k).state) all_ones)

-- earliest of every thread
unfoldable pub ahead_of : List ℕ → ℕ → List Notification → List Thread → List ℕ
ahead_of reach t l ts = earliest_limits reach (crew_of t ts) t (first_limits t l ts)

-- whether the forecast of event e, on the limits xs, is smaller than a bound
unfoldable pub sooner_at : List ℕ → ℕ → List ℕ → List ℕ → ℕ → Bound → Bool
sooner_at reach t segments xs e x = ltb (forecast_at reach segments xs t e) (bound_limit x)

-- the same on records: what the deliveries of `early` ask of the look ahead
unfoldable pub sooner_on : List ℕ → ℕ → List Notification → Sooner
sooner_on reach t l ts = sooner_at reach t (segments_of t ts) (ahead_of reach t l ts)

-- what the code holds of the records ts
unfoldable pub outlook_of : List ℕ → ℕ → List Notification → List Thread → Bool → Outlook
outlook_of reach t l ts heard = record { threads = record { at = ts }; segments = segments_of t ts; limits = record { at = ahead_of reach t l ts }; heard = heard }

-- "It then becomes ready or overrun as in the plain run": the records after thread k has heard at c
abbrev pub with_woken : List Thread → ℕ → Cycle → List Thread
with_woken ts k c = set ts k (record { segment = (thread_at ts k).segment; state = state_after (wait_ends wait.Event c) })
