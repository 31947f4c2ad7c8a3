-- `test_files::models::write_again` meets its contract.
use Rattle.buffers.proofs.WriteLaws.{counts-text}
use Rattle.test_files.proofs.models.write_again.Goals as goal

pub returns : goal.returns
returns c = record { writes = c.rewrite_text.ensures.text; prefix_len = counts-text c.rewrite_text.ensures.text c.rewrite_text.auto.out }
