-- Document 01, "Early issue": a log that is spread out as three rows of numbers, one each for events, times and deltas.
use Rattle.std.specs.Prelude.{ℕ, min, List, get_or}
use Rattle.base.specs.Index.{tabulate}
use Rattle.clock.specs.Cycle.{cycle_at}
use Rattle.early.specs.declared.Notification.{Notification}
use Rattle.early.specs.Log.{places, pair_of}

-- the notification at place i of the rows
abbrev pub pair_in : List ℕ → List ℕ → List ℕ → ℕ → Notification
pair_in events times deltas i = pair_of (get_or events i 0) (cycle_at (get_or times i 0) (get_or deltas i 0))

-- the log of their first n places
unfoldable pub log_in : List ℕ → List ℕ → List ℕ → ℕ → List Notification
log_in events times deltas n = tabulate (min n places) 0 (pair_in events times deltas)
