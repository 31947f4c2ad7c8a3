-- `tables_distance::steps_of` meets its contract, by the kind of closer.
use Rattle.clock.specs.declared.Wait.TheVariants as wait
use Rattle.clock.proofs.PassageLaws.{passage-event}
use Rattle.tables_distance.proofs.StoreLaws.{word-delta-notification, steps_of-end, steps_of-time, steps_of-event}
use Rattle.tables_distance.proofs.steps_of.Goals as goal

pub returns-in-End : goal.returns-in-End
returns-in-End c = steps_of-end _ c.in-End.is

pub returns-in-Time : goal.returns-in-Time
returns-in-Time c = steps_of-time _ _ _ _ c.in-Time.is c.units_word.ensures

pub returns-in-Event : goal.returns-in-Event
returns-in-Event c = steps_of-event _ _ _ _ c.in-Event.is (word-delta-notification wait.Event passage-event)
