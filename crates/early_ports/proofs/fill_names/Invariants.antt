-- `early_ports::fill_names` meets its contract: too short, no port used, or stretch by stretch.
use mathlib.Core.Path.{◌≡◌}
use Rattle.early_ports.specs.Names.{stretches}
use Rattle.early_ports.proofs.fill_names.Given as goal

abbrev pub invariant-loop-q : goal.invariant-loop-q
invariant-loop-q l = l.names ≡ stretches l.m l.n l.initial.names l.q
