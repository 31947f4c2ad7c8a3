-- `tables_distance::all_rounds` meets its contract: a round for each place.
use mathlib.Core.Path.{◌≡◌}
use Rattle.tables_distance.specs.Store.{rounds_to}
use Rattle.tables_distance.proofs.all_rounds.Given as goal

abbrev pub invariant-loop-k : goal.invariant-loop-k
invariant-loop-k l = l.words ≡ rounds_to l.n l.initial.words l.k
