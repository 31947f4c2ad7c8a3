-- `transcript_print::put_closing` meets its contract. Part by part.
use native.Mathlib.Omega.{arith}
use Rattle.buffers.proofs.PutLaws.{puts_then}
use Rattle.transcript.specs.Transcript.{closing_of}
use Rattle.transcript_print.proofs.put_closing.Goals as goal

pub returns : goal.returns
unfolding closing_of
returns c = (puts_then c.put_v_lines-a.ensures.0 (puts_then c.put_t_lines-b.ensures.0 c.put_l_lines.ensures.0), omega arith)
