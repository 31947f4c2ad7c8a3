-- `tables_distance::direct_row` meets its contract: a store for each column.
use mathlib.Core.Path.{◌≡◌}
use Rattle.tables_distance.specs.Store.{direct_to}
use Rattle.tables_distance.proofs.direct_row.Given as goal

abbrev pub invariant-loop-s : goal.invariant-loop-s
invariant-loop-s l = l.row ≡ direct_to l.g l.r 0 l.initial.row l.s
