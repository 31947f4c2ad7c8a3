-- `early_answer::empty` meets its contract.
use mathlib.Core.Path.{◌∙◌}
use Rattle.early_answer.proofs.HeldLaws.{emptied-none, emptied-set}
use Rattle.early_answer.proofs.empty.Goals as goal

pub hold-requires : goal.hold-requires
hold-requires c = c.requires c.if-finishes.true

pub returns-then-finishes : goal.returns-then-finishes
returns-then-finishes c = let x = c.args in c.hold.ensures ∙ emptied-set x.finishes x.held.now x.k c.if-finishes.true

pub returns-else-finishes : goal.returns-else-finishes
returns-else-finishes c = let x = c.args in emptied-none x.finishes x.held.now x.k c.if-finishes.false
