-- Document 01, "Plain run": the end of a cycle.
use Rattle.std.specs.Prelude.{ℕ, Bool, false, cond, not, ◌&&◌, List, map}
use Rattle.base.specs.Index.{any_below}
use Rattle.clock.specs.declared.Cycle.{Cycle}
use Rattle.clock.specs.declared.Wait.TheVariants as wait
use Rattle.clock.specs.declared.Bound.{Bound}
use Rattle.clock.specs.Cycle.{is_before}
use Rattle.clock.specs.Wait.{wait_ends}
use Rattle.clock.specs.Advance.{least_below}
use Rattle.model.specs.declared.Model.{Model}
use Rattle.model.specs.declared.State.{State}
use Rattle.model.specs.declared.Thread.{Thread}
use Rattle.model.specs.Limits.{is_bound_up_to_horizon}
use Rattle.model.specs.Record.{thread_at, ready_cycle, live_cycle, Awaited, nothing, awaits, awaited_by, state_after}
use Rattle.model.specs.Footprint.{has}

-- "each thread waiting on an event notified in it, its wait begun in that cycle or before"
unfoldable pub is_woken : List ℕ → Cycle → Awaited → Bool
is_woken es c nothing = false
is_woken es c (awaits e since) = has es e && not (is_before c since)

-- "becomes ready at the next delta", or is overrun
unfoldable pub woken_state : List ℕ → Cycle → State → State
woken_state es c s = cond (is_woken es c (awaited_by s)) (state_after (wait_ends wait.Event c)) s

unfoldable pub woken_thread : List ℕ → Cycle → Thread → Thread
woken_thread es c t = record { segment = t.segment; state = woken_state es c t.state }

-- "At the cycle's end": every thread, where the events es were notified in cycle c
unfoldable pub woken : List ℕ → Cycle → List Thread → List Thread
woken es c ts = map (woken_thread es c) ts

-- "The next cycle is the least among ready threads": those below t. In document 01's "Early issue" this is the floor.
unfoldable pub floor_below : ℕ → List Thread → Bound
floor_below t ts = least_below t (λ k. live_cycle (thread_at ts k).state)

abbrev pub floor_of : Model → List Thread → Bound
floor_of m ts = floor_below m.t ts

-- whether some thread is ready, "not later than H"
unfoldable pub some_ready : Model → List Thread → Bool
some_ready m ts = any_below m.t (λ k. is_bound_up_to_horizon m (ready_cycle (thread_at ts k).state))
