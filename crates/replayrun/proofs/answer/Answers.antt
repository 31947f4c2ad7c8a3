-- `replayrun::answer` meets its contract.
use Rattle.buffers.proofs.WriteLaws.{counts-text}
use Rattle.replayrun.proofs.answer.Goals as goal

pub returns : goal.returns
returns c = record { writes = c.replay_text.ensures.writes; prefix_len = counts-text c.replay_text.ensures.writes c.replay_text.auto.out }
