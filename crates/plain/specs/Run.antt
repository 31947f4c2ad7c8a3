-- Document 01, "Plain run": the run with a budget.
use Rattle.std.specs.Prelude.{ℕ, zero, suc, ◌+◌, ◌*◌, Bool, false, cond, not, ◌&&◌, ◌||◌, ltb, leb, eqb, length, replicate}
use Rattle.model.specs.declared.Model.{Model}
use Rattle.model.specs.Refusal.{accepted, unfit}
use Rattle.model.specs.Limits.{end_time}
use Rattle.model.specs.Record.{no_thread}
use Rattle.model.specs.Rules.{model_fault}
use Rattle.plain.specs.declared.PlainRun.{PlainRun}
use Rattle.plain.specs.Start.{Place, start_of, fresh_variables}
use Rattle.plain.specs.Wake.{some_ready}
use Rattle.plain.specs.Step.{is_due, stepped}

-- "The run is done when no thread is ready" and "not later than H", the cycle and its wakes completed
unfoldable pub is_done : Model → Place → Bool
is_done m p = (leb m.t p.turn && eqb (length p.notified) 0) && not (some_ready m p.threads)

-- the next segment to run has no place in the budget: "it runs at most that many segments"
unfoldable pub is_out : Model → ℕ → Place → Bool
is_out m budget p = (ltb p.turn m.t && is_due p) && leb budget p.n

-- at most so many steps, until the run is done or the budget is out; "the wakes of a completed cycle included"
unfoldable pub run_for : Model → ℕ → ℕ → Place → Place
run_for m budget zero p = p
run_for m budget (suc steps) p =
    let on = run_for m budget steps (stepped m p) in
    cond (is_done m p || is_out m budget p) p on

-- steps after which every run is done: T + 1 for each of 1,024 deltas of each time up to the horizon
abbrev pub last_step : Model → ℕ
last_step m = 1024 * end_time m * (m.t + 1)

-- what is reported of a place: "spent" if it is not done
unfoldable pub reported : Model → Place → PlainRun
reported m p =
    record { number = accepted; variables = record { at = p.variables }; threads = record { at = p.threads }; n = p.n; spent = some_ready m p.threads }

abbrev pub no_run : ℕ → PlainRun
no_run number =
    record { number = number; variables = record { at = fresh_variables }; threads = record { at = replicate 32 no_thread }; n = 0; spent = false }

-- "The plain run and the tables refuse a held model with 11 if the file rules would refuse it"
unfoldable pub plain_run : Model → ℕ → PlainRun
plain_run m budget =
    let run = reported m (run_for m budget (last_step m) (start_of m)) in
    cond (eqb (model_fault m) accepted) run (no_run unfit)
