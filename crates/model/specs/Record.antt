-- Document 01, "Early issue": thread records. A state is read through its view and these observers alone.
-- Terms: thread record; live.
use Rattle.std.specs.Prelude.{ℕ, Bool, true, false, List, get_or}
use Rattle.clock.specs.declared.Cycle.{Cycle}
use Rattle.clock.specs.declared.Step.{Step}
use Rattle.clock.specs.declared.Step.TheVariants as step
use Rattle.clock.specs.declared.Bound.{Bound}
use Rattle.clock.specs.declared.Bound.TheVariants.{Never, At}
use Rattle.clock.specs.Cycle.{cycle_at}
use Rattle.model.specs.declared.State.{State}
use Rattle.model.specs.declared.State.TheVariants.{Ended, Overrun, Ready, Waiting, Running}
use Rattle.model.specs.declared.Thread.{Thread}

abbrev pub no_thread : Thread
no_thread = record { segment = 0; state = Ended (cycle_at 0 0) }

unfoldable pub thread_at : List Thread → ℕ → Thread
thread_at ts k = get_or ts k no_thread

-- What a state is to the rest of a site: not live, ready at a cycle, or waiting on an event since a cycle. Document 02, slip 7: a running
-- thread "counts as live at its cycle for hazards, earliest, forecasts and the floor", as a ready one does.
pub data View : Type 0 where
  idle : View
  ready : Cycle → View
  waits : ℕ → Cycle → View

abbrev pub view_of : State → View
view_of (Ended c) = idle
view_of (Overrun c) = idle
view_of (Ready c) = ready c
view_of (Waiting e c) = waits e c
view_of (Running c) = ready c

-- granted and not yet finished
abbrev pub is_running : State → Bool
is_running (Ended c) = false
is_running (Overrun c) = false
is_running (Ready c) = false
is_running (Waiting e c) = false
is_running (Running c) = true

-- "Ready and waiting threads are live."
abbrev pub is_live_view : View → Bool
is_live_view idle = false
is_live_view (ready c) = true
is_live_view (waits e c) = true

abbrev pub is_live : State → Bool
is_live s = is_live_view (view_of s)

-- its cycle, if it is ready or running
abbrev pub ready_cycle_of : View → Bound
ready_cycle_of idle = Never
ready_cycle_of (ready c) = At c
ready_cycle_of (waits e c) = Never

abbrev pub ready_cycle : State → Bound
ready_cycle s = ready_cycle_of (view_of s)

-- the cycle that a live thread counts at in earliest and in the floor: its own, if it is ready or running
abbrev pub live_cycle : State → Bound
live_cycle s = ready_cycle s

-- what it waits on, and since when
pub data Awaited : Type 0 where
  nothing : Awaited
  awaits : ℕ → Cycle → Awaited

abbrev pub awaited_of : View → Awaited
awaited_of idle = nothing
awaited_of (ready c) = nothing
awaited_of (waits e c) = awaits e c

abbrev pub awaited_by : State → Awaited
awaited_by s = awaited_of (view_of s)

-- the cycle that a state carries, whichever it is
abbrev pub cycle_of : State → Cycle
cycle_of (Ended c) = c
cycle_of (Overrun c) = c
cycle_of (Ready c) = c
cycle_of (Waiting e c) = c
cycle_of (Running c) = c

-- the state at the end of a wait
abbrev pub state_after : Step → State
state_after (step.Ready c) = Ready c
state_after (step.Overrun c) = Overrun c
