-- `early_ports::names_of` meets its contract: the statements, one after the other, and the test variable.
use mathlib.Core.Path.{◌≡◌}
use lib.ListN.{take}
use Rattle.early_ports.specs.Names.{names_in}
use Rattle.early_ports.proofs.names_of.Given as goal

abbrev pub invariant-loop-x : goal.invariant-loop-x
invariant-loop-x l = l.w ≡ names_in l.from l.written 0 (take l.x-index l.fn.g.statements)
