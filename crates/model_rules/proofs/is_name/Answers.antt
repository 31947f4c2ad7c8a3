use Rattle.model.specs.Port.{is_port}
use Rattle.model.specs.Rules.{is_name}
use native.Mathlib.Omega.{arith}
use Rattle.model_rules.proofs.is_name.Goals as goal

pub returns-then-x-from : goal.returns-then-x-from
unfolding is_name is_port
returns-then-x-from c = grind arith

pub returns-then-x-ge128 : goal.returns-then-x-ge128
unfolding is_name is_port
returns-then-x-ge128 c = grind arith

pub returns-else-x-ge128 : goal.returns-else-x-ge128
unfolding is_name is_port
returns-else-x-ge128 c = grind arith
