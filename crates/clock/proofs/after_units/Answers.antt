-- `clock::after_units` meets its contract: so many units on, at delta 0.
use Rattle.clock.proofs.WaitLaws.{over-units}
use Rattle.clock.proofs.after_units.Goals as goal

pub returns : goal.returns
returns c = rw c.from.ensures (over-units _ _)
