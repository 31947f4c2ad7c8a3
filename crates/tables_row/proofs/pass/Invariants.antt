-- `tables_row::pass` meets its contract: the step of each place.
use mathlib.Core.Path.{◌≡◌}
use mathlib.Core.Bool.{false}
use lib.ListN.{length}
use Rattle.tables_row.specs.Lower.{Lowers, RestsTo}
use Rattle.tables_row.proofs.pass.Given as goal

abbrev pub invariant-loop-s : goal.invariant-loop-s
invariant-loop-s l = Lowers l.steps (length l.initial.row) l.changed l.initial.row l.row × (l.changed ≡ false → RestsTo l.steps (length l.initial.row) l.initial.row l.s)
