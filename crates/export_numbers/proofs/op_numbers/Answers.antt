-- `export_numbers::op_numbers` meets its contract, operation by operation.
use native.Mathlib.Omega.{arith}
use Rattle.export_model.specs.Numbers.{op_numbers}
use Rattle.export_numbers.proofs.op_numbers.Goals as goal

pub returns-in-Set : goal.returns-in-Set
unfolding op_numbers
returns-in-Set c = grind arith

pub returns-in-Add : goal.returns-in-Add
unfolding op_numbers
returns-in-Add c = grind arith

pub returns-in-Copy : goal.returns-in-Copy
unfolding op_numbers
returns-in-Copy c = grind arith

pub returns-in-AddVariable : goal.returns-in-AddVariable
unfolding op_numbers
returns-in-AddVariable c = grind arith

pub returns-in-SubVariable : goal.returns-in-SubVariable
unfolding op_numbers
returns-in-SubVariable c = grind arith

pub returns-in-Notify : goal.returns-in-Notify
unfolding op_numbers
returns-in-Notify c = grind arith
