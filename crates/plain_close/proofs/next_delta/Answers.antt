-- `plain_close::next_delta` meets its contract.
use Rattle.plain_state.proofs.ExitLaws.{next_word-ready, next_word-overrun}
use Rattle.plain_close.proofs.next_delta.Goals as goal

pub returns-then-key-lt1023 : goal.returns-then-key-lt1023
returns-then-key-lt1023 c = next_word-ready c.args.key c.if-key-lt1023.true

pub returns-else-key-lt1023 : goal.returns-else-key-lt1023
returns-else-key-lt1023 c = next_word-overrun c.args.key c.if-key-lt1023.false
