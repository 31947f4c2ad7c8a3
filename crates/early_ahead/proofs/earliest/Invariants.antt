-- `early_ahead::earliest` meets its contract: round after round.
use mathlib.Core.Path.{◌≡◌}
use Rattle.early_limits.specs.Ahead.{after_rounds}
use Rattle.early_ahead.proofs.earliest.Given as goal

abbrev pub invariant-loop : goal.invariant-loop
invariant-loop l = l.x.at ≡ after_rounds l.reach l.crew l.t l.counter l.initial.x.at
