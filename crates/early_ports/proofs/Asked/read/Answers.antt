-- `early_ports::Asked::read` meets its contract.
use mathlib.Core.Path.{refl}
use Rattle.early_ports.specs.Names.{read_from}
use Rattle.early_ports.proofs.Asked.read.Goals as goal

pub returns-then-self : goal.returns-then-self
unfolding read_from
returns-then-self c = rw c.if-self.true refl

pub returns-else-self : goal.returns-else-self
unfolding read_from
returns-else-self c = rw c.if-self.false c.bit.ensures
