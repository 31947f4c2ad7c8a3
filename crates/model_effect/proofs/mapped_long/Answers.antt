-- `model_effect::mapped_long` meets its contract: what a byte can't hold is no port.
use Rattle.std.proofs.Common.{sym, arith}
use Rattle.model_effect.proofs.PortLaws.{mapped-above}
use Rattle.model_effect.proofs.mapped_long.Goals as goal

pub returns-in-Err : goal.returns-in-Err
returns-in-Err c = sym (mapped-above _ _ (omega (arith, c.in-Err.ensures)))
