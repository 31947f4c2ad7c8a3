-- `early_lent::request_first` meets its contract.
use Rattle.early_lent.specs.Answered.{request_first}
use Rattle.early_lent.proofs.request_first.Goals as goal

pub returns : goal.returns
unfolding request_first
returns c = rw (← c.min.ensures) c.lend.ensures
