-- The invariant: the ports of the threads so far have no fault.
use mathlib.Core.Path.{◌≡◌}
use Rattle.base.specs.Index.{first_below}
use Rattle.model.specs.Values.{ports_at}
use Rattle.model.specs.Rules.{ports_fault}
use Rattle.model_rules.proofs.starts_fault.Given as goal

abbrev pub invariant-loop-x : goal.invariant-loop-x
invariant-loop-x l = first_below l.x-index (λ k. ports_fault l.m.v (ports_at l.m k)) ≡ 0
