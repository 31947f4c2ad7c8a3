-- `tables_distance::sum_word` meets its contract: never, within one time, over time.
use native.Mathlib.Omega.{arith}
use Rattle.tables_distance.proofs.StoreLaws.{sum_word-far, sum_word-none, sum_word-more}
use Rattle.tables_distance.proofs.sum_word.Goals as goal

pub returns-then-b-ge-CUT_WORD : goal.returns-then-b-ge-CUT_WORD
returns-then-b-ge-CUT_WORD c = sum_word-far _ _ (omega arith)

pub returns-then-b-lt1024 : goal.returns-then-b-lt1024
returns-then-b-lt1024 c = sum_word-none _ _ (omega arith)

pub returns : goal.returns
returns c = sum_word-more _ _ (omega arith) (omega arith)
