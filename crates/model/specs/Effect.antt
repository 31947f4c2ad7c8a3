-- Document 01, "Model file": what a thread does in a segment: the variables after its statements, what it notifies, and how it closes.
-- The plain run and a request both ask this one function of thread and segment.
use Rattle.std.specs.Prelude.{ℕ, ◌+◌, ◌-◌, ◌%◌, ◌^◌, cond, List, ◌++◌, ltb, eqb, get_or, set, length, replicate}
use Rattle.clock.specs.declared.Cycle.{Cycle}
use Rattle.clock.specs.declared.Wait.TheVariants as wait
use Rattle.clock.specs.Cycle.{cycle_at}
use Rattle.clock.specs.Wait.{wait_ends}
use Rattle.model.specs.declared.Op.{Op}
use Rattle.model.specs.declared.Op.TheVariants.{Set, Add, Copy, AddVariable, SubVariable, Notify}
use Rattle.model.specs.declared.Next.{Next}
use Rattle.model.specs.declared.Closer.{Closer}
use Rattle.model.specs.declared.Closer.TheVariants.{End, Time, Event}
use Rattle.model.specs.declared.Segment.{Segment}
use Rattle.model.specs.declared.Model.{Model}
use Rattle.model.specs.declared.State.{State}
use Rattle.model.specs.declared.State.TheVariants.{Ended, Overrun, Ready, Waiting, Running}
use Rattle.model.specs.declared.Thread.{Thread}
use Rattle.model.specs.declared.Events.{Events}
use Rattle.model.specs.declared.Ran.{Ran}
use Rattle.model.specs.Values.{segment_for, body_of}
use Rattle.model.specs.Statement.{execute, notified_by}
use Rattle.model.specs.Record.{state_after}

-- "Byte 8 is a test variable, or 255 for none."
abbrev pub no_test : ℕ
no_test = 255

-- "The next segment is A if the variable is below the limit after the statements, else B."
unfoldable pub next_of : Next → List ℕ → ℕ
next_of x v = cond (eqb x.test no_test) x.a (cond (ltb (get_or v x.test 0) x.limit) x.a x.b)

-- segment s closed at cycle c, on the variables after its statements. "The segment is the next to run; in an ended thread, the last run."
unfoldable pub closed_at : ℕ → Closer → Cycle → List ℕ → Thread
closed_at s End c v = record { segment = s; state = Ended c }
closed_at s (Time k x) c v = record { segment = next_of x v; state = state_after (wait_ends (wait.Time k) c) }
closed_at s (Event e x) c v = record { segment = next_of x v; state = Waiting e c }

pub record Effect : Type 0 where
  pub variables : List ℕ
  pub notified : List ℕ
  pub thread : Thread

-- segment g, numbered s, run whole at cycle c on variables v
unfoldable pub effect_in : Segment → ℕ → Cycle → List ℕ → Effect
effect_in g s c v =
    let w = execute (body_of g) v in
    record { variables = w; notified = notified_by (body_of g); thread = closed_at s g.closer c w }

-- what thread k does in segment s
unfoldable pub effect_of : Model → ℕ → ℕ → Cycle → List ℕ → Effect
effect_of m k s c v = effect_in (segment_for m k s) s c v

-- an effect as its words hold it: times modulo 2 ^ 64, the events at the front of 32 places
abbrev pub held_state : State → State
held_state (Ended c) = Ended c
held_state (Overrun c) = Overrun c
held_state (Ready c) = Ready (cycle_at (c.time.0 % 2 ^ 64) c.delta.0)
held_state (Waiting e c) = Waiting e c
held_state (Running c) = Running c

unfoldable pub held_thread : Thread → Thread
held_thread t = record { segment = t.segment; state = held_state t.state }

unfoldable pub held_events : List ℕ → Events
held_events es = record { n = length es; at = es ++ replicate (32 - length es) 0 }

-- the places with one event more, where the operation notifies
abbrev pub with_op : Events → Op → Events
with_op es (Set a b) = es
with_op es (Add a b) = es
with_op es (Copy a b) = es
with_op es (AddVariable a b) = es
with_op es (SubVariable a b) = es
with_op es (Notify w) = record { n = es.n + 1; at = set es.at es.n w }

unfoldable pub held_effect : Effect → Ran
held_effect x = record { variables = record { at = x.variables }; notified = held_events x.notified; thread = held_thread x.thread }
