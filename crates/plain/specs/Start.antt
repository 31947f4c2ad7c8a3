-- Document 01, "Plain run": where a run stands, and where it starts.
use Rattle.std.specs.Prelude.{ℕ, ◌-◌, List, [], ◌++◌, replicate}
use Rattle.base.specs.Index.{tabulate}
use Rattle.clock.specs.declared.Cycle.{Cycle}
use Rattle.clock.specs.Cycle.{cycle_at}
use Rattle.model.specs.declared.Start.{Start}
use Rattle.model.specs.declared.Model.{Model}
use Rattle.model.specs.declared.State.TheVariants.{Ready}
use Rattle.model.specs.declared.Thread.{Thread}
use Rattle.model.specs.Values.{start_at}
use Rattle.model.specs.Record.{no_thread}

-- The cycle that runs now, the thread that is looked at next, the events notified in this cycle so far,
-- and how many segments have run.
pub record Place : Type 0 where
  pub variables : List ℕ
  pub threads : List Thread
  pub now : Cycle
  pub turn : ℕ
  pub notified : List ℕ
  pub n : ℕ

-- "All threads start ready at (0, 0)."
unfoldable pub started : Start → Thread
started s = record { segment = s.first; state = Ready (cycle_at 0 0) }

-- the records of a model's threads; zero past them
unfoldable pub fresh_threads : Model → List Thread
fresh_threads m = tabulate m.t 0 (λ k. started (start_at m k)) ++ replicate (32 - m.t) no_thread

-- "Variables start at 0."
abbrev pub fresh_variables : List ℕ
fresh_variables = replicate 64 0

unfoldable pub start_of : Model → Place
start_of m = record { variables = fresh_variables; threads = fresh_threads m; now = cycle_at 0 0; turn = 0; notified = []; n = 0 }
