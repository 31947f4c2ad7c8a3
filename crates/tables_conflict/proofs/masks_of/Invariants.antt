-- `tables_conflict::masks_of` meets its contract: the statements, one after the other, and the test variable.
use mathlib.Core.Path.{◌≡◌}
use Rattle.tables_conflict.specs.Mask.{masks_to}
use Rattle.tables_conflict.proofs.masks_of.Given as goal

abbrev pub invariant-loop-x : goal.invariant-loop-x
invariant-loop-x l = l.a ≡ masks_to l.fn.g.statements l.x-index
