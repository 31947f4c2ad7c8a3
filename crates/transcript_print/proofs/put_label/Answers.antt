-- `transcript_print::put_label` meets its contract. No number, or a number.
use native.Mathlib.Omega.{arith}
use borrow.Author.Tests.{eq-eqb, ne_eqb}
use Rattle.transcript.specs.Transcript.{label_word}
use Rattle.transcript_print.proofs.put_label.Goals as goal

pub returns-then-label-eq-NO_NUMBER : goal.returns-then-label-eq-NO_NUMBER
unfolding label_word
returns-then-label-eq-NO_NUMBER c = (rw (eq-eqb _ 18446744073709551615 c.if-label-eq-NO_NUMBER.true) c.put_word.ensures, omega arith)

pub returns-else-label-eq-NO_NUMBER : goal.returns-else-label-eq-NO_NUMBER
unfolding label_word
returns-else-label-eq-NO_NUMBER c = (rw (ne_eqb _ 18446744073709551615 c.if-label-eq-NO_NUMBER.false) c.put_number.ensures.0, omega arith)
