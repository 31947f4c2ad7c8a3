-- `early_ahead::limit_of` meets its contract: never, a cycle.
use native.Mathlib.Omega.{arith}
use Rattle.early_ahead.proofs.LimitLaws.{limit_of_cycle-never, limit_of_cycle-at}
use Rattle.early_ahead.proofs.limit_of.Goals as goal

pub returns-then-t-ge70368744177664 : goal.returns-then-t-ge70368744177664
returns-then-t-ge70368744177664 c = limit_of_cycle-never _ (omega arith)

pub returns : goal.returns
returns c = limit_of_cycle-at _ _ (omega arith) c.from.ensures
