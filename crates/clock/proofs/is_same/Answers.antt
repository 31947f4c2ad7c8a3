-- `clock::is_same` meets its contract: equal in both fields.
use Rattle.std.proofs.Common.{rules}
use Rattle.clock.specs.Cycle.{is_same}
use Rattle.clock.proofs.is_same.Goals as goal

pub returns : goal.returns
unfolding is_same
returns c = search rules
