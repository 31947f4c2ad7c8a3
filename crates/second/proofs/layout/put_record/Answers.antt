-- `second::layout::put_record` meets its contract.
use Rattle.second.specs.Layout.{record_in}
use Rattle.second.proofs.layout.put_record.Goals as goal

pub returns : goal.returns
unfolding record_in
returns c =
    let k = c in
    rw (← k.segment_of.ensures.0, ← c.kind_of.ensures, ← k.event_of.ensures, ← k.key_of-key.ensures.0) c.put_five.ensures
