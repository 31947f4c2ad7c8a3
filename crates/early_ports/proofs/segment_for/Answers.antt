-- `early_ports::segment_for` meets its contract.
use mathlib.Core.Path.{refl, sym, ◌∙◌}
use Rattle.early_ports.specs.Cross.{segment_with}
use Rattle.early_ports.proofs.segment_for.Goals as goal

pub returns-then-uses_ports : goal.returns-then-uses_ports
unfolding segment_with
returns-then-uses_ports c = rw (sym c.uses_ports.ensures ∙ c.if-uses_ports.true) c.mapped_segment.ensures

pub returns-else-uses_ports : goal.returns-else-uses_ports
unfolding segment_with
returns-else-uses_ports c = rw (sym c.uses_ports.ensures ∙ c.if-uses_ports.false) refl
