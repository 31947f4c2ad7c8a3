-- `early_answer::hold` meets its contract.
use native.Mathlib.Omega.{arith}
use Rattle.model_effect.proofs.LengthLaws.{variables_length}
use Rattle.early_answer.proofs.HeldLaws.{held_whole}
use Rattle.early_answer.proofs.hold.Goals as goal

pub returns : goal.returns
returns c =
    let x = c.args in
    held_whole x.held.now x.v.at _ _ x.k _ (omega (arith, c.from-from.ensures)) (omega arith) (variables_length x.v _ c.well_formed.1.1.0) c.copy_from_slice.ensures.after c.requires
