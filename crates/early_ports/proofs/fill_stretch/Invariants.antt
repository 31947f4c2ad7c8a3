-- `early_ports::fill_stretch` meets its contract: a word for each segment.
use mathlib.Core.Path.{◌≡◌}
use Rattle.early_ports.specs.Names.{stretch}
use Rattle.early_ports.proofs.fill_stretch.Given as goal

abbrev pub invariant-loop-s : goal.invariant-loop-s
invariant-loop-s l = l.names ≡ stretch l.fn.m l.s l.initial.names l.q
