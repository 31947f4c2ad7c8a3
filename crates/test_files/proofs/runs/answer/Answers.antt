-- `test_files::runs::answer` meets its contract.
use Rattle.buffers.proofs.WriteLaws.{counts-text}
use Rattle.test_files.proofs.runs.answer.Goals as goal

pub returns : goal.returns
returns c = counts-text c.replay_text.ensures.writes c.replay_text.auto.out
