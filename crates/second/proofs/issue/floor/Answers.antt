-- `second::issue::floor` meets its contract.
use Rattle.std.proofs.Common.{refl, add-one}
use Rattle.second.specs.Desk.{floor_to}
use Rattle.second.proofs.issue.floor.Goals as goal

pub loop-k-init : goal.loop-k-init
unfolding floor_to
loop-k-init c = refl

pub loop-k-preserved : goal.loop-k-preserved
unfolding floor_to
loop-k-preserved c = rw (add-one, ← c.loop-k.invariant, ← c.record_at.ensures) c.sooner-least.ensures
