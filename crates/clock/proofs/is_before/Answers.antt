-- `clock::is_before` meets its contract: the derived order compares the times, and the deltas of equal times.
use Rattle.std.proofs.Common.{rules, tests}
use Rattle.clock.specs.Cycle.{is_before}
use Rattle.clock.proofs.is_before.Goals as goal

pub returns : goal.returns
unfolding is_before
returns c = rw c.lt.ensures (search (rules, tests))
