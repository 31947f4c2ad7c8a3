-- `writer_file::put_ports` meets its contract. A frame, then the body: eight bytes; or nothing.
use mathlib.Core.Path.{sym, ◌∙◌}
use Rattle.writer_file.proofs.PortLaws.{puts-ports, puts-no-ports}
use Rattle.writer_file.proofs.put_ports.Goals as goal

pub returns-then-uses_ports : goal.returns-then-uses_ports
returns-then-uses_ports c =
    puts-ports _ (sym c.uses_ports.ensures ∙ c.if-uses_ports.true) c.put_frame-a.ensures c.put_eight.ensures

pub returns : goal.returns
returns c =
    puts-no-ports _ (sym c.uses_ports.ensures ∙ c.if-uses_ports.false) c.min.ensures
