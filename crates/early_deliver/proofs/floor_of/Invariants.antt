-- `early_deliver::floor_of` meets its contract. The invariant: the least cycle of the first threads.
use mathlib.Core.Path.{◌≡◌}
use Rattle.plain.specs.Wake.{floor_below}
use Rattle.early_deliver.proofs.floor_of.Given as goal

abbrev pub invariant-loop-x : goal.invariant-loop-x
invariant-loop-x l = l.least ≡ floor_below l.x-index l.fn.threads.at
