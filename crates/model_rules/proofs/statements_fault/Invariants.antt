-- The invariant: the statements so far have no fault.
use mathlib.Core.Path.{◌≡◌}
use Rattle.base.specs.Index.{first_below}
use Rattle.model_rules.proofs.FaultLaws.{statement_fault}
use Rattle.model_rules.proofs.statements_fault.Given as goal

abbrev pub invariant-loop-x : goal.invariant-loop-x
invariant-loop-x l = first_below l.x-index (statement_fault l.v l.e l.g) ≡ 0
