-- `model_reach::round` meets its contract: each row is joined where it has k.
use mathlib.Core.Path.{◌≡◌}
use lib.ListN.{get_or}
use Rattle.model_reach.specs.Store.{round_to}
use Rattle.model_reach.proofs.round.Given as goal

abbrev pub invariant-loop-row : goal.invariant-loop-row
invariant-loop-row l = (l.over ≡ get_or l.initial.rows l.k 0) × (l.rows ≡ round_to l.initial.rows l.k l.row-index)
