-- `clock::passage_of` meets its contract: a notification for an event, a zero wait for no units, else a timed wait.
use Rattle.std.proofs.Common.{sym, arith}
use Rattle.clock.proofs.PassageLaws.{passage-event, passage-none, passage-units}
use Rattle.clock.proofs.passage_of.Goals as goal

pub returns-in-Event : goal.returns-in-Event
returns-in-Event c = rw c.in-Event.is (sym passage-event)

pub returns-then-k-eq0 : goal.returns-then-k-eq0
returns-then-k-eq0 c = rw c.in-Time.is (sym (passage-none _ (omega arith)))

pub returns-else-k-eq0 : goal.returns-else-k-eq0
returns-else-k-eq0 c = rw c.in-Time.is (sym (passage-units _ (omega arith)))
