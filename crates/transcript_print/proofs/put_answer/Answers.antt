-- `transcript_print::put_answer` meets its contract. Word by word: what is done, or a refusal.
use native.Mathlib.Omega.{arith}
use borrow.Author.Tests.{eq-eqb, ne_eqb}
use Rattle.buffers.specs.Line.{rest_of}
use Rattle.buffers.proofs.PutLaws.{puts_then}
use Rattle.transcript.specs.Transcript.{printed_answer}
use Rattle.transcript_print.proofs.put_answer.Goals as goal

pub returns-then-number-eq0 : goal.returns-then-number-eq0
unfolding printed_answer rest_of
returns-then-number-eq0 c = (
  rw (eq-eqb _ 0 c.if-number-eq0.true)
      (puts_then c.put_done-a.ensures.0 (puts_then c.put_number-b.ensures.0 (puts_then c.put_number-c.ensures.0 c.put_last.ensures.0))),
  omega arith,
)

pub returns-else-number-eq0 : goal.returns-else-number-eq0
unfolding printed_answer rest_of
returns-else-number-eq0 c = (rw (ne_eqb _ 0 c.if-number-eq0.false) (puts_then c.put_word-a.ensures c.put_last-else-number-eq0.ensures.0), omega arith)
