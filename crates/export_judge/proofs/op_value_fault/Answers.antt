-- `export_judge::op_value_fault` meets its contract, by the operation.
use native.Mathlib.Omega.{arith}
use Rattle.model.specs.Rules.{op_fault}
use Rattle.export_judge.proofs.op_value_fault.Goals as goal

pub returns : goal.returns
unfolding op_fault
returns c = grind arith
