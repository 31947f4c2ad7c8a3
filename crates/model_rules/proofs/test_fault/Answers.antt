-- `model_rules::test_fault` meets its contract.
use native.Mathlib.Omega.{arith}
use Rattle.model.specs.Rules.{test_fault}
use Rattle.model_rules.proofs.test_fault.Goals as goal

pub returns-then-x-eq255 : goal.returns-then-x-eq255
unfolding test_fault
returns-then-x-eq255 c = grind arith

pub returns : goal.returns
unfolding test_fault
returns c = grind arith
