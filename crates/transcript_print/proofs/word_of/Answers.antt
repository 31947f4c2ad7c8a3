-- `transcript_print::word_of` meets its contract, letter by letter.
use native.Mathlib.Omega.{arith}
use Rattle.transcript_print.proofs.LabelLaws.{word-grant, word-finish, word-request}
use Rattle.transcript_print.proofs.word_of.Goals as goal

pub returns-in-103 : goal.returns-in-103
returns-in-103 c = let a = c.args in rw (c.from-k.ensures, c.thread_of.ensures) (word-grant a.kind a.label c.in-103.is)

pub returns-in-102 : goal.returns-in-102
returns-in-102 c = let a = c.args in rw (c.from-k.ensures, c.thread_of.ensures) (word-finish a.kind a.label (λ e. omega arith) c.in-102.is)

pub returns-in_default : goal.returns-in_default
returns-in_default c = let a = c.args in rw (c.from-k.ensures, c.thread_of.ensures) (word-request a.kind a.label (λ e. omega arith) (λ e. omega arith))
