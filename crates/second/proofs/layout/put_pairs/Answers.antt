-- `second::layout::put_pairs` meets its contract.
use Rattle.std.proofs.Common.{refl, add-one}
use Rattle.second.specs.Layout.{pairs_to}
use Rattle.second.proofs.layout.put_pairs.Goals as goal

pub loop-i-init : goal.loop-i-init
unfolding pairs_to
loop-i-init c = refl

pub loop-i-preserved : goal.loop-i-preserved
unfolding pairs_to
loop-i-preserved c = rw (add-one, ← c.loop-i.invariant, ← c.at.ensures) c.put_pair.ensures
