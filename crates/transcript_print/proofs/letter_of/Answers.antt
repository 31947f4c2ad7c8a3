-- `transcript_print::letter_of` meets its contract.
use mathlib.Core.Path.{refl}
use native.Mathlib.Omega.{arith}
use borrow.Author.Tests.{lt-ltb, le-ltb}
use Rattle.transcript.specs.Transcript.{letter_of}
use Rattle.transcript_print.proofs.letter_of.Goals as goal

pub returns-in-0-to-255 : goal.returns-in-0-to-255
unfolding letter_of
returns-in-0-to-255 c = rw (lt-ltb c.args.word 256 (omega arith)) refl

pub returns-in-256-to-511 : goal.returns-in-256-to-511
unfolding letter_of
returns-in-256-to-511 c = let a = c.args in rw (le-ltb a.word 256 (omega arith), lt-ltb a.word 512 (omega arith)) refl

pub returns-in_default : goal.returns-in_default
unfolding letter_of
returns-in_default c = let a = c.args in rw (le-ltb a.word 256 (omega arith), le-ltb a.word 512 (omega arith)) refl
