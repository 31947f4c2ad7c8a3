-- `early_ahead::sum_of` meets its contract: never, within one time, over time.
use native.Mathlib.Omega.{arith}
use Rattle.early_ahead.proofs.LimitLaws.{sum_of-late, sum_of-far, sum_of-deltas, sum_of-time}
use Rattle.early_ahead.proofs.sum_of.Goals.{then-a-ge-TOP-via-then-a-ge-TOP, then-a-ge-TOP-via-else-a-ge-TOP+then-d-ge-TOP}
use Rattle.early_ahead.proofs.sum_of.Goals as goal

pub returns-then-a-ge-TOP : goal.returns-then-a-ge-TOP
returns-then-a-ge-TOP c = elim c.then-a-ge-TOP.branch [
  | then-a-ge-TOP-via-then-a-ge-TOP w ↦ sum_of-late _ _ (omega arith)
  | then-a-ge-TOP-via-else-a-ge-TOP+then-d-ge-TOP w ↦ sum_of-far _ _ (omega arith) (omega arith)
]

pub returns-then-d-lt-UNIT : goal.returns-then-d-lt-UNIT
returns-then-d-lt-UNIT c = sum_of-deltas _ _ (omega arith) (omega arith)

pub returns : goal.returns
returns c = sum_of-time _ _ (omega arith) (omega arith) (omega arith)
