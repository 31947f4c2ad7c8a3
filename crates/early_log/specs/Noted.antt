-- Document 01, "Early issue": the log with the pairs of a segment's events, as 128 places hold it.
use Rattle.std.specs.Prelude.{ℕ, List, take}
use Rattle.clock.specs.declared.Cycle.{Cycle}
use Rattle.clock.specs.Cycle.{cycle_at}
use Rattle.early.specs.declared.Notification.{Notification}
use Rattle.early.specs.declared.Site.{Site}
use Rattle.early.specs.Log.{places, pair_of, log_of, site_of, with_pairs}

-- "after a grant the places past its count are 0"
abbrev pub no_pair : Notification
no_pair = pair_of 0 (cycle_at 0 0)

-- "New pairs go to its end in statement order": the first 128 of the log with its new pairs
unfoldable pub noted_of : Site → Cycle → List ℕ → Site
noted_of site c es = site_of site.variables.at (take places (with_pairs (log_of site) c es))
