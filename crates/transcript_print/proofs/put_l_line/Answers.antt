-- `transcript_print::put_l_line` meets its contract. Word by word.
use native.Mathlib.Omega.{arith}
use Rattle.buffers.specs.Line.{rest_of}
use Rattle.buffers.proofs.PutLaws.{puts_then}
use Rattle.transcript.specs.Transcript.{l_line}
use Rattle.transcript_print.proofs.put_l_line.Goals as goal

pub returns : goal.returns
unfolding l_line rest_of
returns c = (puts_then c.put_byte-a.ensures (puts_then (rw c.from.ensures at c.put_number-b.ensures.0) c.put_cycle.ensures.0), omega arith)
