-- `transcript_print::put_call_line` meets its contract. Word by word.
use native.Mathlib.Omega.{arith}
use Rattle.buffers.specs.Line.{rest_of}
use Rattle.buffers.proofs.PutLaws.{puts_then}
use Rattle.transcript.specs.Transcript.{call_line, call_line_at}
use Rattle.transcript_print.proofs.put_call_line.Goals as goal

pub returns : goal.returns
unfolding call_line_at call_line rest_of
returns c = (puts_then (rw c.letter_of.ensures at c.put_byte-a.ensures) (puts_then c.put_label-b.ensures.0 c.put_answer.ensures.0), omega arith)
