-- `early_deliver::Board::first_limits` meets its contract. The invariant: the first k limits are filled.
use mathlib.Core.Path.{◌≡◌}
use Rattle.early_deliver.specs.Awake.{log_on, first_limits}
use Rattle.early_deliver.proofs.Board.first_limits.Given as goal

abbrev pub invariant-loop-k : goal.invariant-loop-k
invariant-loop-k l = l.at ≡ first_limits l.k (log_on l.self.rows.now) l.fn.threads.at
