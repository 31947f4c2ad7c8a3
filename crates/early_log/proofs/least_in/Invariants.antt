-- `early_log::least_in` meets its contract. The invariant: the least of the places from i on.
use Prim.Native.Nat.{◌≤◌}
use mathlib.Core.Path.{◌≡◌}
use lib.ListN.{length, drop}
use Rattle.early.specs.Log.{least_heard}
use Rattle.early_log.specs.Spread.{log_in}
use Rattle.early_log.proofs.least_in.Given as goal

abbrev pub invariant-loop-i : goal.invariant-loop-i
invariant-loop-i l =
    let log = log_in l.rows.events l.rows.times l.rows.deltas l.rows.n in
    (l.i ≤ length log) × (l.best ≡ least_heard (drop l.i log) l.e l.since)
