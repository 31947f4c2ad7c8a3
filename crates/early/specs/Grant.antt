-- Document 01, "Early issue": "After a grant: the segment runs whole, its notifications are logged, and its closer is
-- applied at its cycle. Then every thread is looked at .. Then notifications before the floor .. are dropped".
use Rattle.std.specs.Prelude.{ℕ, cond, List, [], ◌∷◌, ◌++◌, eqb, set}
use Rattle.clock.specs.declared.Cycle.{Cycle}
use Rattle.clock.specs.declared.Bound.{Bound}
use Rattle.model.specs.declared.Model.{Model}
use Rattle.model.specs.declared.Thread.{Thread}
use Rattle.model.specs.Record.{thread_at}
use Rattle.model.specs.Effect.{Effect, effect_of}
use Rattle.plain.specs.Wake.{floor_of}
use Rattle.plain.specs.History.{Item, ran}
use Rattle.early.specs.declared.Notification.{Notification}
use Rattle.early.specs.declared.Site.{Site}
use Rattle.early.specs.Log.{log_of, site_of, with_pairs, drop_before}
use Rattle.early.specs.Deliver.{settled, settled_items}

-- "its notifications are logged": the log after an effect at cycle c
abbrev pub log_by : Site → Cycle → Effect → List Notification
log_by site c x = with_pairs (log_of site) c x.notified

-- "its closer is applied at its cycle"
abbrev pub closed_by : List Thread → ℕ → Effect → List Thread
closed_by ts k x = set ts k x.thread

-- "notifications before the floor .. are dropped": the state after all, by the log before
abbrev pub site_by : Bound → Effect → List Notification → Site
site_by floor x l = site_of x.variables (drop_before floor l)

-- The same of a model: what thread k does in its segment at cycle c
unfoldable pub effect_at : Model → Site → List Thread → ℕ → Cycle → Effect
effect_at m site ts k c = effect_of m k (thread_at ts k).segment c site.variables.at

-- the log and the records after it has run and closed, before anything is delivered
unfoldable pub log_after : Model → Site → List Thread → ℕ → Cycle → List Notification
log_after m site ts k c = log_by site c (effect_at m site ts k c)

unfoldable pub closed_threads : Model → Site → List Thread → ℕ → Cycle → List Thread
closed_threads m site ts k c = closed_by ts k (effect_at m site ts k c)

unfoldable pub threads_after : Model → List ℕ → Site → List Thread → ℕ → Cycle → List Thread
threads_after m ws site ts k c = settled m ws (log_after m site ts k c) (closed_threads m site ts k c)

unfoldable pub site_after : Model → List ℕ → Site → List Thread → ℕ → Cycle → Site
site_after m ws site ts k c = site_by (floor_of m (threads_after m ws site ts k c)) (effect_at m site ts k c) (log_after m site ts k c)

-- what a grant adds to the history of thread j: "the segments are those granted to it and the events those delivered to it"
unfoldable pub items_after : Model → List ℕ → Site → List Thread → ℕ → Cycle → ℕ → List Item
items_after m ws site ts k c j =
    cond (eqb j k) (ran (thread_at ts k).segment c ∷ []) [] ++ settled_items m ws (log_after m site ts k c) (closed_threads m site ts k c) j
