-- `model_reach::lacks_to` meets its contract: a word for each thread.
use mathlib.Core.Path.{◌≡◌}
use lib.ListN.{length}
use Rattle.model_reach.specs.Store.{lacks_to}
use Rattle.model_reach.proofs.lacks_to.Given as goal

abbrev pub invariant-loop-k : goal.invariant-loop-k
invariant-loop-k l = l.out ≡ lacks_to l.starts l.names l.rows (length l.names) l.k
