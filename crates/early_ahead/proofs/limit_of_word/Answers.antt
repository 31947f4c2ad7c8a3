-- `early_ahead::limit_of_word` meets its contract: never, a distance.
use native.Mathlib.Omega.{arith}
use Rattle.early_ahead.proofs.LimitLaws.{limit_of_word-never, limit_of_word-at}
use Rattle.early_ahead.proofs.limit_of_word.Goals as goal

pub returns-then-t-ge-CUT_TIME : goal.returns-then-t-ge-CUT_TIME
returns-then-t-ge-CUT_TIME c = limit_of_word-never _ (omega arith)

pub returns : goal.returns
returns c = limit_of_word-at _ (omega arith)
