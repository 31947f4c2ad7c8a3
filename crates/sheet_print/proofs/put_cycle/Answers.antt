-- `sheet_print::put_cycle` meets its contract. Time, delta.
use native.Mathlib.Omega.{arith}
use Rattle.buffers.specs.Line.{rest_of}
use Rattle.buffers.proofs.PutLaws.{puts_then}
use Rattle.sheet.specs.Sheet.{cycle_words}
use Rattle.sheet_print.proofs.put_cycle.Goals as goal

pub returns : goal.returns
unfolding cycle_words rest_of
returns c = (puts_then c.put_number-a.ensures.0 (rw c.from.ensures at c.put_last.ensures.0), omega arith)
