-- `reader_record::ports_record_fault` meets its contract.
use mathlib.Core.Path.{sym, ◌∙◌}
use Rattle.reader_record.proofs.PortsLaws.{ports_bytes_fault-none, ports_bytes_fault-used}
use Rattle.reader_record.proofs.ports_record_fault.Goals as goal

pub returns-then-not-uses_ports : goal.returns-then-not-uses_ports
returns-then-not-uses_ports c = ports_bytes_fault-none _ _ _ c.ports_at-ports.ensures (sym c.uses_ports.ensures ∙ c.if-not-uses_ports.true)

pub returns : goal.returns
returns c = ports_bytes_fault-used _ _ _ c.ports_at-ports.ensures _ (sym c.uses_ports.ensures ∙ c.if-not-uses_ports.false) c.ports_fault.ensures
