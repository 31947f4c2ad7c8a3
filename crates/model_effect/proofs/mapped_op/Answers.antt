-- `model_effect::mapped_op` meets its contract, operation by operation.
use Rattle.model_effect.proofs.mapped_op.Goals as goal

pub returns-in-Set : goal.returns-in-Set
returns-in-Set c = rw (c.in-Set.is, c.mapped_byte.ensures)

pub returns-in-Add : goal.returns-in-Add
returns-in-Add c = rw (c.in-Add.is, c.mapped_byte-in-Add.ensures)

pub returns-in-Copy : goal.returns-in-Copy
returns-in-Copy c = rw (c.in-Copy.is, c.mapped_byte-in-Copy.ensures, c.mapped_long.ensures)

pub returns-in-AddVariable : goal.returns-in-AddVariable
returns-in-AddVariable c = rw (c.in-AddVariable.is, c.mapped_byte-in-AddVariable.ensures, c.mapped_long-in-AddVariable.ensures)

pub returns-in-SubVariable : goal.returns-in-SubVariable
returns-in-SubVariable c = rw (c.in-SubVariable.is, c.mapped_byte-in-SubVariable.ensures, c.mapped_long-in-SubVariable.ensures)

pub returns-in-Notify : goal.returns-in-Notify
returns-in-Notify c = rw c.in-Notify.is
