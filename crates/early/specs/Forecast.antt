-- Document 01, "Early issue": "Forecast of an event: the least, over live threads and segments notifying it, of earliest plus distance."
use Rattle.std.specs.Prelude.{ℕ, List, get_or}
use Rattle.clock.specs.declared.Bound.{Bound}
use Rattle.clock.specs.declared.Bound.TheVariants.{Never}
use Rattle.clock.specs.Advance.{least_below}
use Rattle.model.specs.declared.Model.{Model}
use Rattle.model.specs.declared.Thread.{Thread}
use Rattle.early.specs.declared.Notification.{Notification}
use Rattle.early.specs.Earliest.{soonest_notify, earliest_of}

unfoldable pub forecast_of : Model → List ℕ → List Notification → List Thread → ℕ → Bound
forecast_of m ws l ts e =
    let xs = earliest_of m ws l ts in
    least_below m.t (λ k. soonest_notify m ws ts k (get_or xs k Never) e)
