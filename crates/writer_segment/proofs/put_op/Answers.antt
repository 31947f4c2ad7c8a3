-- `writer_segment::put_op` meets its contract. Operation by operation.
use Rattle.writer.specs.Bytes.{op_bytes}
use Rattle.writer_segment.proofs.put_op.Goals as goal

pub returns-in-Set : goal.returns-in-Set
unfolding op_bytes
returns-in-Set c = rw c.in-Set.is c.put_statement.ensures

pub returns-in-Add : goal.returns-in-Add
unfolding op_bytes
returns-in-Add c = rw c.in-Add.is c.put_statement-in-Add.ensures

pub returns-in-Copy : goal.returns-in-Copy
unfolding op_bytes
returns-in-Copy c = rw c.in-Copy.is c.put_statement-in-Copy.ensures

pub returns-in-AddVariable : goal.returns-in-AddVariable
unfolding op_bytes
returns-in-AddVariable c = rw c.in-AddVariable.is c.put_statement-in-AddVariable.ensures

pub returns-in-SubVariable : goal.returns-in-SubVariable
unfolding op_bytes
returns-in-SubVariable c = rw c.in-SubVariable.is c.put_statement-in-SubVariable.ensures

pub returns-in-Notify : goal.returns-in-Notify
unfolding op_bytes
returns-in-Notify c = rw c.in-Notify.is c.put_statement-in-Notify.ensures
