-- `early_ports::crosses` meets its contract.
use mathlib.Core.Path.{refl}
use Rattle.early_ports.specs.Cross.{crosses}
use Rattle.early_ports.proofs.crosses.Goals as goal

pub returns : goal.returns
unfolding crosses
returns c = refl
