-- `early_deliver::Board::sweep` meets its contract. The invariant: the outlook is that of the records after k looks, which are the first ones where nobody has heard.
use mathlib.Core.Path.{◌≡◌}
use mathlib.Core.Bool.{false}
use Rattle.early.specs.Deliver.{swept_by}
use Rattle.early_deliver.specs.Awake.{log_on, sooner_on, outlook_of}
use Rattle.early_deliver.proofs.Board.sweep.Given as goal

abbrev pub invariant-loop-k : goal.invariant-loop-k
invariant-loop-k l =
    let log = log_on l.self.rows.now in
    (l.seen ≡ outlook_of l.self.reach.now l.self.t log (swept_by (sooner_on l.self.reach.now l.self.t log) log l.initial.seen.threads.at l.k) l.seen.heard) × (l.seen.heard ≡ false → l.seen.threads.at ≡ l.initial.seen.threads.at)
