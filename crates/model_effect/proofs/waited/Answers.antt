-- `model_effect::waited` meets its contract.
use Rattle.std.proofs.Common.{refl}
use Rattle.model_effect.proofs.waited.Goals as goal

pub returns-in-Ready : goal.returns-in-Ready
returns-in-Ready c = rw (← c.wait_ends.ensures, c.in-Ready.is) refl

pub returns-in-Overrun : goal.returns-in-Overrun
returns-in-Overrun c = rw (← c.wait_ends.ensures, c.in-Overrun.is) refl
