-- `early_deliver::Board::settled` meets its contract. The invariant: the sweeps that are left lead to the same records. A sweep in which nobody hears is the last.
use Prim.Native.Nat.{◌-◌}
use mathlib.Core.Path.{◌≡◌}
use Rattle.early.specs.Deliver.{sweeps_by}
use Rattle.early_deliver.specs.Awake.{log_on, sooner_on, outlook_of}
use Rattle.early_deliver.proofs.Board.settled.Given as goal

abbrev pub invariant-loop : goal.invariant-loop
invariant-loop l =
    let log = log_on l.self.rows.now in
    let sooner = sooner_on l.self.reach.now l.self.t log in
    (l.o ≡ outlook_of l.self.reach.now l.self.t log l.o.threads.at l.o.heard) × (sweeps_by sooner log l.self.t (l.self.t - l.counter) l.o.threads.at ≡ sweeps_by sooner log l.self.t l.self.t l.initial.o.threads.at)
