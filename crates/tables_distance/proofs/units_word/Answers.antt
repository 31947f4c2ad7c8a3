-- `tables_distance::units_word` meets its contract: one delta, or a time, up to the cut.
use native.Mathlib.Omega.{arith}
use Rattle.tables_distance.proofs.StoreLaws.{units_word-none, units_word-more}
use Rattle.tables_distance.proofs.units_word.Goals as goal

pub returns-then-units-eq0 : goal.returns-then-units-eq0
returns-then-units-eq0 c = units_word-none _ (omega arith)

pub returns : goal.returns
returns c = rw (c.min.ensures, c.from-units.ensures) (units_word-more _ (omega arith))
