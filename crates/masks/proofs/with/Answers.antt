-- `masks::with` meets its contract: none from 64 on.
use native.Mathlib.Omega.{arith}
use Rattle.masks.proofs.MaskLaws.{with_bit-past, with_bit-below}
use Rattle.masks.proofs.with.Goals as goal

pub returns-then-i-lt64 : goal.returns-then-i-lt64
returns-then-i-lt64 c = with_bit-below _ _ (omega arith)

pub returns-else-i-lt64 : goal.returns-else-i-lt64
returns-else-i-lt64 c = with_bit-past _ _ (omega arith)
