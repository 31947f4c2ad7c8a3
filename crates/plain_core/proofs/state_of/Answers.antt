-- `plain_core::state_of` meets its contract.
use Rattle.plain_state.proofs.ExitLaws.{state_from-ready, state_from-waiting, state_from-ended, state_from-overrun}
use Rattle.plain_core.proofs.state_of.Goals as goal

pub returns-then-w-lt-WAITING : goal.returns-then-w-lt-WAITING
returns-then-w-lt-WAITING c = state_from-ready c.args.w c.if-w-lt-WAITING.true

pub returns-then-w-lt-ENDED : goal.returns-then-w-lt-ENDED
returns-then-w-lt-ENDED c = state_from-waiting c.args.w c.if-w-lt-WAITING.false c.if-w-lt-ENDED.true

pub returns-then-w-lt-OVERRUN : goal.returns-then-w-lt-OVERRUN
returns-then-w-lt-OVERRUN c = state_from-ended c.args.w c.if-w-lt-WAITING.false c.if-w-lt-ENDED.false c.if-w-lt-OVERRUN.true

pub returns-else-w-lt-OVERRUN : goal.returns-else-w-lt-OVERRUN
returns-else-w-lt-OVERRUN c = state_from-overrun c.args.w c.if-w-lt-WAITING.false c.if-w-lt-ENDED.false c.if-w-lt-OVERRUN.false
