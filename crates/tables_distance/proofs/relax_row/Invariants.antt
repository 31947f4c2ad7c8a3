-- `tables_distance::relax_row` meets its contract: a store, or none, for each column.
use mathlib.Core.Path.{◌≡◌}
use Rattle.tables_distance.specs.Store.{relaxed_to}
use Rattle.tables_distance.proofs.relax_row.Given as goal

abbrev pub invariant-loop-j : goal.invariant-loop-j
invariant-loop-j l = l.words ≡ relaxed_to l.a l.p l.q l.initial.words l.j
