-- Document 02, "The clock by cases": "delta notification, zero wait, timed wait". IEEE 1666-2011, 4.2.1, has the first two
-- in the delta notification phase and the third in the timed notification phase.
use Rattle.std.specs.Prelude.{cond, ◌==◌}
use Rattle.clock.specs.declared.Wait.{Wait}
use Rattle.clock.specs.declared.Wait.TheVariants.{Event, Time}
use Rattle.clock.specs.declared.Passage.{Passage}
use Rattle.clock.specs.declared.Passage.TheVariants.{DeltaNotification, ZeroWait, TimedWait}

-- the passage over a wait: for an event by its notification, for no units as a zero wait, for 1 or more as a timed one
unfoldable pub passage_of : Wait → Passage
passage_of Event = DeltaNotification
passage_of (Time k) = cond (k.0 == 0) ZeroWait (TimedWait k)
