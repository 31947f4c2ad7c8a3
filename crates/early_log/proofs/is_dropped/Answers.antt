-- `early_log::is_dropped` meets its contract: all where there is no floor, else what is before it.
use Rattle.clock.specs.Cycle.{is_before}
use Rattle.early.specs.Log.{is_dropped}
use borrow.Author.Rules.{rules}
use borrow.Author.Tests.{tests}
use Rattle.early_log.proofs.is_dropped.Goals as goal

-- no floor
pub returns-in_default : goal.returns-in_default
unfolding is_dropped
returns-in_default c = search rules

pub returns : goal.returns
unfolding is_dropped is_before
returns c = search (rules, tests)
