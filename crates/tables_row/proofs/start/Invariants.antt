-- `tables_row::start` meets its contract: a store for each place.
use mathlib.Core.Path.{◌≡◌}
use Rattle.tables_row.specs.Lower.{start_to}
use Rattle.tables_row.proofs.start.Given as goal

abbrev pub invariant-loop-s : goal.invariant-loop-s
invariant-loop-s l = l.row ≡ start_to l.r l.initial.row l.s
