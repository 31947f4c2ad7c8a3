-- `model_rules::choice_fault` meets its contract.
use native.Mathlib.Omega.{arith}
use Rattle.model.specs.Rules.{choice_fault}
use Rattle.model_rules.proofs.choice_fault.Goals as goal

pub returns-then-x-ne0 : goal.returns-then-x-ne0
unfolding choice_fault
returns-then-x-ne0 c = grind arith

pub returns : goal.returns
unfolding choice_fault
returns c = grind arith
