-- `model_effect::listed` meets its contract. The invariant: what the first statements, below the index, notify stands at the front.
use Rattle.std.proofs.Common.{◌≡◌, take}
use Rattle.model.specs.Effect.{held_events}
use Rattle.model.specs.Statement.{notified_by}
use Rattle.model_effect.proofs.listed.Given as goal

abbrev pub invariant-loop-x : goal.invariant-loop-x
invariant-loop-x l = l.es ≡ held_events (notified_by (take l.x-index l.x-items))
