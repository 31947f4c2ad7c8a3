-- `model_reach::ports_of` meets its contract: the statements, one after the other, and the test variable.
use mathlib.Core.Path.{◌≡◌}
use lib.ListN.{take}
use Rattle.model_reach.specs.Store.{ports_in}
use Rattle.model_reach.proofs.ports_of.Given as goal

abbrev pub invariant-loop-x : goal.invariant-loop-x
invariant-loop-x l = l.w ≡ ports_in 0 (take l.x-index l.x-items)
