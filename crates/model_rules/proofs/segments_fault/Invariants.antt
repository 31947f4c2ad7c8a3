-- The invariant: the segments so far have no fault.
use mathlib.Core.Path.{◌≡◌}
use Rattle.base.specs.Index.{first_below}
use Rattle.model.specs.Values.{segment_at}
use Rattle.model.specs.Rules.{segment_fault}
use Rattle.model_rules.proofs.segments_fault.Given as goal

abbrev pub invariant-loop-g : goal.invariant-loop-g
invariant-loop-g l = first_below l.g-index (λ i. segment_fault l.m.v l.m.e (segment_at l.m i)) ≡ 0
