-- `model_reach::port_bit` meets its contract: a number below 128 is no port.
use native.Mathlib.Omega.{arith}
use Rattle.model_reach.proofs.StoreLaws.{port_bit-none, port_bit-some}
use Rattle.model_reach.proofs.port_bit.Goals as goal

pub returns-then-x-lt128 : goal.returns-then-x-lt128
returns-then-x-lt128 c = port_bit-none _ (omega arith)

pub returns-else-x-lt128 : goal.returns-else-x-lt128
returns-else-x-lt128 c = port_bit-some _ _ (omega arith) c.with.ensures
