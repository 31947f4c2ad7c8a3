-- `plain_pack::is_port` meets its contract.
use Rattle.std.proofs.Common.{◌∙◌}
use Rattle.std.proofs.lemmas.Bool.{lt-leb}
use Rattle.plain_words.proofs.MapLaws.{is_port-below, is_port-from}
use Rattle.plain_pack.proofs.is_port.Goals as goal

pub returns-then-x-ge128 : goal.returns-then-x-ge128
returns-then-x-ge128 c = is_port-from _ c.if-x-ge128.true

pub returns-else-x-ge128 : goal.returns-else-x-ge128
returns-else-x-ge128 c = lt-leb 128 c.args.x c.if-x-ge128.false ∙ is_port-below _ c.if-x-ge128.false
