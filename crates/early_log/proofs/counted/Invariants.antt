-- `early_log::counted` meets its contract. The invariant: what is counted for the first threads is noted, and there were places for it.
use Prim.Native.Nat.{◌≤◌}
use mathlib.Core.Path.{◌≡◌}
use lib.ListN.{length}
use Rattle.early.specs.Log.{log_of, with_running}
use Rattle.early_log.proofs.counted.Given as goal

abbrev pub invariant-loop-x : goal.invariant-loop-x
invariant-loop-x l = (log_of l.s ≡ with_running l.m l.fn.threads.at (log_of l.initial.s) l.x-index) × (length (log_of l.s) ≤ 128)
