-- `clock::next_delta` meets its contract: ready below the last delta, else overrun.
use Rattle.std.proofs.Common.{arith}
use Rattle.clock.proofs.WaitLaws.{event-ready, event-overrun}
use Rattle.clock.proofs.next_delta.Goals as goal

-- below 1,023
pub returns-then-c-lt1023 : goal.returns-then-c-lt1023
returns-then-c-lt1023 c = event-ready _ (omega arith)

-- at 1,023 or above
pub returns-else-c-lt1023 : goal.returns-else-c-lt1023
returns-else-c-lt1023 c = event-overrun _ (omega arith)
