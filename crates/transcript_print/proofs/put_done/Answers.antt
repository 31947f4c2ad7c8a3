-- `transcript_print::put_done` meets its contract. Granted, or finished.
use native.Mathlib.Omega.{arith}
use borrow.Author.Tests.{lt-ltb, le-ltb}
use Rattle.transcript.specs.Transcript.{done_word}
use Rattle.transcript_print.proofs.put_done.Goals as goal

pub returns-then-word-lt512 : goal.returns-then-word-lt512
unfolding done_word
returns-then-word-lt512 c = (rw (lt-ltb _ 512 c.if-word-lt512.true) c.put_word.ensures, omega arith)

pub returns-else-word-lt512 : goal.returns-else-word-lt512
unfolding done_word
returns-else-word-lt512 c = (rw (le-ltb _ 512 c.if-word-lt512.false) c.put_word-else-word-lt512.ensures, omega arith)
