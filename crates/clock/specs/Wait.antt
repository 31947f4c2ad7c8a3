-- Document 01, "Clock" and "Plain run", by the cases of document 02: where a wait ends. Nothing else says how a cycle is
-- stepped; `Advance` has the same three cases for a bound, whose delta is not cut.
-- Term: overrun.
use Rattle.std.specs.Prelude.{ℕ, ◌+◌, ◌%◌, ◌^◌, cond, nat_lt}
use Rattle.clock.specs.declared.Cycle.{Cycle}
use Rattle.clock.specs.declared.Wait.{Wait}
use Rattle.clock.specs.declared.Passage.{Passage}
use Rattle.clock.specs.declared.Passage.TheVariants.{DeltaNotification, ZeroWait, TimedWait}
use Rattle.clock.specs.declared.Step.{Step}
use Rattle.clock.specs.declared.Step.TheVariants.{Ready, Overrun}
use Rattle.clock.specs.Cycle.{cycle_at}
use Rattle.clock.specs.Passage.{passage_of}

-- "Delta runs from 0 to 1,023."
abbrev pub last_delta : ℕ
last_delta = 1023

-- "A thread whose next delta would be 1,024 is overrun, and keeps the cycle with delta 1,023."
unfoldable pub next_delta : Cycle → Step
next_delta c = cond (nat_lt c.delta.0 last_delta) (Ready (cycle_at c.time.0 (c.delta.0 + 1))) (Overrun c)

-- "A wait of k units ends at (time + k, 0) if k is 1 or more, and at (time, delta + 1) if k is 0"; a thread that hears a
-- notification "becomes ready at the next delta".
unfoldable pub step_over : Passage → Cycle → Step
step_over DeltaNotification c = next_delta c
step_over ZeroWait c = next_delta c
step_over (TimedWait k) c = Ready (cycle_at (c.time.0 + k.0) 0)

-- A wait for time ends so many units after the cycle in which it began; a wait for an event at the
-- next delta after the cycle in which the event was notified.
unfoldable pub wait_ends : Wait → Cycle → Step
wait_ends w c = step_over (passage_of w) c

-- a step as its words hold it: the time modulo 2 ^ 64
unfoldable pub held_step : Step → Step
held_step (Ready c) = Ready (cycle_at (c.time.0 % 2 ^ 64) c.delta.0)
held_step (Overrun c) = Overrun c
