-- `early_ports::Asked::bit` meets its contract: a number below the first is none.
use native.Mathlib.Omega.{arith}
use Rattle.early_ports.proofs.NameLaws.{bit_from-none, bit_from-some}
use Rattle.early_ports.proofs.Asked.bit.Goals as goal

pub returns-then-x-self : goal.returns-then-x-self
returns-then-x-self c = bit_from-none _ _ (omega arith)

pub returns-else-x-self : goal.returns-else-x-self
returns-else-x-self c = bit_from-some _ _ _ (omega arith) c.with.ensures
