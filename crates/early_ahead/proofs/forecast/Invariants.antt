-- `early_ahead::forecast` meets its contract: the least over the threads.
use mathlib.Core.Path.{◌≡◌}
use Rattle.early_ahead.proofs.AheadLaws.{forecast_to}
use Rattle.early_ahead.proofs.forecast.Given as goal

abbrev pub invariant-loop-j : goal.invariant-loop-j
invariant-loop-j l = l.least ≡ forecast_to l.reach l.segments l.xs.at l.e l.j
