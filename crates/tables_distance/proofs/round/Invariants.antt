-- `tables_distance::round` meets its contract: each row relaxed, or left where there is no way to k.
use mathlib.Core.Path.{◌≡◌}
use Rattle.tables_distance.specs.Store.{round_to}
use Rattle.tables_distance.proofs.round.Given as goal

abbrev pub invariant-loop-i : goal.invariant-loop-i
invariant-loop-i l = l.words ≡ round_to l.n l.k l.initial.words l.i
