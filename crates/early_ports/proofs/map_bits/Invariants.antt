-- `early_ports::map_bits` meets its contract: no port, or port by port.
use mathlib.Core.Path.{◌≡◌}
use Rattle.early_ports.specs.Cross.{map_bits}
use Rattle.early_ports.proofs.map_bits.Given as goal

abbrev pub invariant-loop-p : goal.invariant-loop-p
invariant-loop-p l = l.out ≡ map_bits l.fn.ports l.w l.p
