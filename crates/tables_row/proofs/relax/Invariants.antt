-- `tables_row::relax` meets its contract: each pass but the last lowers the sum of the row.
use mathlib.Core.Path.{◌≡◌}
use mathlib.Core.Bool.{false}
use lib.ListN.{length}
use Rattle.tables_row.specs.Lower.{Falls, RestsTo}
use Rattle.tables_row.proofs.LowerLaws.{to_go}
use Rattle.tables_row.proofs.relax.Given as goal

abbrev pub invariant-loop-changed : goal.invariant-loop-changed
invariant-loop-changed l =
    let k = length l.initial.row in
    Falls l.steps k l.initial.row l.row × (l.changed ≡ false → RestsTo l.steps k l.row k)

abbrev pub decreases-loop-changed : goal.decreases-loop-changed
decreases-loop-changed l = to_go (length l.initial.row) l.changed l.row
