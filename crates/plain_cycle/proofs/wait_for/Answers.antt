-- `plain_cycle::wait_for` meets its contract.
use Rattle.plain_state.proofs.DueLaws.{waited_by-other, waited_by-event}
use Rattle.plain_cycle.proofs.wait_for.Goals as goal

pub returns-then-end-eq2 : goal.returns-then-end-eq2
returns-then-end-eq2 c = let a = c.args in waited_by-event a.end a.turn a.ranges.now _ c.if-end-eq2.true c.widen.ensures

pub returns-else-end-eq2 : goal.returns-else-end-eq2
returns-else-end-eq2 c = let a = c.args in waited_by-other a.end a.turn a.ranges.now c.if-end-eq2.false
