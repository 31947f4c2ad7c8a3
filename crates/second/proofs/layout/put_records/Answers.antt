-- `second::layout::put_records` meets its contract.
use Rattle.std.proofs.Common.{refl, add-one}
use Rattle.second.specs.Layout.{records_to}
use Rattle.second.proofs.layout.put_records.Goals as goal

pub loop-k-init : goal.loop-k-init
unfolding records_to
loop-k-init c = refl

pub loop-k-preserved : goal.loop-k-preserved
unfolding records_to
loop-k-preserved c = rw (add-one, ← c.loop-k.invariant, ← c.at.ensures) c.put_record.ensures
