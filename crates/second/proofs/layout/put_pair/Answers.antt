-- `second::layout::put_pair` meets its contract.
use Rattle.second.specs.Layout.{pair_in}
use Rattle.second.proofs.layout.put_pair.Goals as goal

pub returns : goal.returns
unfolding pair_in
returns c = rw (← c.event_of.ensures, ← c.key_of-key.ensures) c.put_three.ensures
