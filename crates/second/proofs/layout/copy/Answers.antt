-- `second::layout::copy` meets its contract.
use Rattle.std.proofs.Common.{refl, add-one}
use Rattle.second.specs.Layout.{copied_to}
use Rattle.second.proofs.layout.copy.Goals as goal

pub loop-i-init : goal.loop-i-init
unfolding copied_to
loop-i-init c = refl

pub loop-i-preserved : goal.loop-i-preserved
unfolding copied_to
loop-i-preserved c = rw (add-one, ← c.loop-i.invariant, ← c.at.ensures) c.put.ensures
