-- `plainrun::answer` meets its contract.
use Rattle.buffers.proofs.WriteLaws.{counts-text}
use Rattle.plainrun.proofs.answer.Goals as goal

pub returns : goal.returns
returns c = record { writes = c.plain_sheet.ensures.writes; prefix_len = counts-text c.plain_sheet.ensures.writes c.plain_sheet.auto.out }
