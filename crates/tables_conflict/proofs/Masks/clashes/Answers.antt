-- `tables_conflict::Masks::clashes` meets its contract.
use mathlib.Core.Path.{refl}
use Rattle.tables_conflict.specs.Mask.{clash}
use Rattle.tables_conflict.proofs.Masks.clashes.Goals as goal

pub returns : goal.returns
unfolding clash
returns c = refl
