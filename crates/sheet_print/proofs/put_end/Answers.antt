-- `sheet_print::put_end` meets its contract. The line of n, then the spent line or nothing.
use native.Mathlib.Omega.{arith}
use Rattle.buffers.specs.Line.{rest_of}
use Rattle.buffers.proofs.PutLaws.{puts_none, puts_then}
use Rattle.sheet.specs.Sheet.{n_line, spent_line}
use Rattle.sheet_print.proofs.put_end.Goals as goal

pub returns-then-spent : goal.returns-then-spent
unfolding n_line spent_line rest_of
returns-then-spent c = (rw c.if-spent.true (puts_then (puts_then c.put_byte-a.ensures c.put_last-b.ensures.0) c.put_word.ensures), omega arith)

pub returns-else-spent : goal.returns-else-spent
unfolding n_line spent_line rest_of
returns-else-spent c = (rw c.if-spent.false (puts_then (puts_then c.put_byte-a.ensures c.put_last-b.ensures.0) (puts_none _ _ _ (omega arith))), omega arith)
