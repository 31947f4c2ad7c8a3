-- `tables_conflict::bit` meets its contract: none from 64 on.
use native.Mathlib.Omega.{arith}
use Rattle.tables_conflict.proofs.MaskLaws.{bit_of-none, bit_of-some}
use Rattle.tables_conflict.proofs.bit.Goals as goal

pub returns-then-x-ge64 : goal.returns-then-x-ge64
returns-then-x-ge64 c = bit_of-none _ (omega arith)

pub returns : goal.returns
returns c = bit_of-some _ (omega arith)
