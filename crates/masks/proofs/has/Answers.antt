-- `masks::has` meets its contract: a word has 64 bits.
use mathlib.Core.Path.{sym, ◌∙◌}
use native.Mathlib.Omega.{arith}
use borrow.Author.Tests.{le-ltb}
use Rattle.masks.proofs.MaskLaws.{bit_at-past, bit_at-has}
use Rattle.masks.proofs.has.Goals as goal

pub returns-then-i-lt64 : goal.returns-then-i-lt64
returns-then-i-lt64 c = bit_at-has _ _

pub returns-else-i-lt64 : goal.returns-else-i-lt64
returns-else-i-lt64 c = le-ltb _ _ (omega arith) ∙ sym (bit_at-past 64 _ _ (omega arith) (omega arith))
