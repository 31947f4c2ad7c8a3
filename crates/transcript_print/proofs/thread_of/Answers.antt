-- `transcript_print::thread_of` meets its contract.
use native.Mathlib.Omega.{arith}
use Rattle.transcript_print.proofs.LabelLaws.{thread_of-small, thread_of-large}
use Rattle.transcript_print.proofs.thread_of.Goals as goal

pub returns-then-label-lt255 : goal.returns-then-label-lt255
returns-then-label-lt255 c = thread_of-small _ (omega arith)

pub returns-else-label-lt255 : goal.returns-else-label-lt255
returns-else-label-lt255 c = thread_of-large _ (omega arith)
