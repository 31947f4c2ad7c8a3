-- `model_rules::lack_fault` meets its contract.
use mathlib.Core.Path.{refl}
use Rattle.model_rules.proofs.lack_fault.Goals as goal

pub returns : goal.returns
returns c n t f =
    c.lack_in.ensures _ refl refl (record { holds = c.lacks.ensures; segments = n; threads = t; first = f })
