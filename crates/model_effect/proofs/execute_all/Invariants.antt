-- `model_effect::execute_all` meets its contract. The invariant: the first statements, below the index, are done.
use Rattle.std.proofs.Common.{◌≡◌, take}
use Rattle.model.specs.Statement.{execute}
use Rattle.model_effect.proofs.execute_all.Given as goal

abbrev pub invariant-loop-x : goal.invariant-loop-x
invariant-loop-x l = l.w.at ≡ execute (take l.x-index l.x-items) l.initial.w.at
