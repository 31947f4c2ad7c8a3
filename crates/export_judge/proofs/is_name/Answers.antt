-- `export_judge::is_name` meets its contract.
use native.Mathlib.Omega.{arith}
use Rattle.model.specs.Port.{is_port}
use Rattle.model.specs.Rules.{is_name}
use Rattle.export_judge.proofs.is_name.Goals as goal

pub returns-then-x-v : goal.returns-then-x-v
unfolding is_name is_port
returns-then-x-v c = grind arith

pub returns-then-x-ge128 : goal.returns-then-x-ge128
unfolding is_name is_port
returns-then-x-ge128 c = grind arith

pub returns-else-x-ge128 : goal.returns-else-x-ge128
unfolding is_name is_port
returns-else-x-ge128 c = grind arith
