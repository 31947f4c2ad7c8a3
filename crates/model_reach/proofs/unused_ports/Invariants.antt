-- `model_reach::unused_ports` meets its contract: a bit for each port.
use mathlib.Core.Path.{◌≡◌}
use lib.Dec.{eqb}
use Rattle.masks.specs.Mask.{mask_of}
use Rattle.model.specs.Port.{unused, port_of}
use Rattle.model_reach.proofs.unused_ports.Given as goal

abbrev pub invariant-loop-p : goal.invariant-loop-p
invariant-loop-p l = l.out ≡ mask_of (λ q. eqb (port_of l.ports q) unused) l.p
