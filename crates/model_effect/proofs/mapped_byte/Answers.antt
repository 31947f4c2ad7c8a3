-- `model_effect::mapped_byte` meets its contract: itself below the ports and above them, else its port.
use Rattle.std.proofs.Common.{sym, arith}
use Rattle.model_effect.proofs.PortLaws.{mapped-below, mapped-above, mapped-port}
use Rattle.model_effect.proofs.mapped_byte.Goals as goal

pub returns-in-128-to-135 : goal.returns-in-128-to-135
returns-in-128-to-135 c = rw c.from.ensures (sym (mapped-port _ _ (omega arith) (omega arith)))

pub returns-in_default : goal.returns-in_default
returns-in_default c = sym (mapped-below _ _ (omega arith))

pub returns-in_default-2 : goal.returns-in_default-2
returns-in_default-2 c = sym (mapped-above _ _ (omega arith))
