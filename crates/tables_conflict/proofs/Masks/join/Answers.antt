-- `tables_conflict::Masks::join` meets its contract.
use mathlib.Core.Path.{refl}
use Rattle.tables_conflict.specs.Mask.{join_masks}
use Rattle.tables_conflict.proofs.Masks.join.Goals as goal

pub returns : goal.returns
unfolding join_masks
returns c = refl
