-- `export_step::has_room` meets its contract.
use native.Mathlib.Omega.{arith}
use Rattle.export_step.specs.Step.{has_room}
use Rattle.export_step.proofs.has_room.Goals as goal

pub returns-then-log-ge385 : goal.returns-then-log-ge385
unfolding has_room
returns-then-log-ge385 c = grind arith

pub returns-else-log-ge385 : goal.returns-else-log-ge385
unfolding has_room
returns-else-log-ge385 c = grind arith
