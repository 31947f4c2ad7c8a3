-- `model_effect::mapped_closer` meets its contract, by the kind of closer.
use Rattle.model_effect.proofs.mapped_closer.Goals as goal

pub returns-in-End : goal.returns-in-End
returns-in-End c = rw c.in-End.is

pub returns-in-Time : goal.returns-in-Time
returns-in-Time c = rw (c.in-Time.is, c.mapped_next.ensures)

pub returns-in-Event : goal.returns-in-Event
returns-in-Event c = rw (c.in-Event.is, c.mapped_next-in-Event.ensures)
