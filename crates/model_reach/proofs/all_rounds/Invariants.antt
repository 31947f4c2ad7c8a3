-- `model_reach::all_rounds` meets its contract: a round for each segment.
use mathlib.Core.Path.{◌≡◌}
use lib.ListN.{length}
use Rattle.model_reach.specs.Store.{rounds_to}
use Rattle.model_reach.proofs.all_rounds.Given as goal

abbrev pub invariant-loop-k : goal.invariant-loop-k
invariant-loop-k l = l.rows ≡ rounds_to l.initial.rows (length l.initial.rows) l.k
