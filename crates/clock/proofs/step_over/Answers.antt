-- `clock::step_over` meets its contract, by the case of the passage.
use Rattle.std.proofs.Common.{◌∙◌, arith}
use mathlib.Core.Logic.{⊎_elim}
use Rattle.clock.proofs.WaitLaws.{over-notification, over_zero}
use Rattle.clock.proofs.step_over.Goals as goal

-- the next delta after a notification, and after a zero wait
pub returns-in-DeltaNotification : goal.returns-in-DeltaNotification
returns-in-DeltaNotification c =
    c.next_delta.ensures ∙
    ⊎_elim (λ e. rw e (over-notification _ (omega arith))) (λ e. rw e (over_zero _ (omega arith))) c.in-DeltaNotification.is

-- a timed wait
pub returns-in-TimedWait : goal.returns-in-TimedWait
returns-in-TimedWait c = rw c.in-TimedWait.is c.after_units.ensures
