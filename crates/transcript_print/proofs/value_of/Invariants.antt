-- `transcript_print::value_of` meets its contract. The invariant: the rest of the argument, with the number so far, says what the whole says.
use Rattle.transcript_print.proofs.LabelLaws.{Left}
use Rattle.transcript_print.proofs.value_of.Given as goal

abbrev pub invariant-loop-b : goal.invariant-loop-b
invariant-loop-b l = Left l.arg l.b-index l.x
