-- `writer_file::start_size` meets its contract.
use mathlib.Core.Path.{sym, ◌∙◌}
use Rattle.writer_file.proofs.PortLaws.{size-used, size-unused}
use Rattle.writer_file.proofs.start_size.Goals as goal

pub returns-then-uses_ports : goal.returns-then-uses_ports
returns-then-uses_ports c = size-used _ (sym c.uses_ports.ensures ∙ c.if-uses_ports.true)

pub returns-else-uses_ports : goal.returns-else-uses_ports
returns-else-uses_ports c = size-unused _ (sym c.uses_ports.ensures ∙ c.if-uses_ports.false)
