-- `model_effect::closed_at` meets its contract, closer by closer.
use Rattle.std.proofs.Common.{rules}
use Rattle.model_effect.proofs.EffectLaws.{closed-end, closed-time, closed-event}
use Rattle.model_effect.proofs.closed_at.Goals as goal

pub returns-in-End : goal.returns-in-End
returns-in-End c = closed-end _ _ _ _ (search rules)

pub returns-in-Time : goal.returns-in-Time
returns-in-Time c = rw (c.waited.ensures, c.next_of.ensures) (closed-time _ _ _ _ _ _ c.in-Time.is)

pub returns-in-Event : goal.returns-in-Event
returns-in-Event c = rw c.next_of-in-Event.ensures (closed-event _ _ _ _ _ _ c.in-Event.is)
