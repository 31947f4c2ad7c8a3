-- `export_numbers::closer_numbers` meets its contract, closer by closer.
use native.Mathlib.Omega.{arith}
use Rattle.export_model.specs.Numbers.{closer_numbers, next_numbers}
use Rattle.export_numbers.proofs.closer_numbers.Goals as goal

pub returns-in-End : goal.returns-in-End
unfolding closer_numbers
returns-in-End c = grind arith

pub returns-in-Time : goal.returns-in-Time
unfolding closer_numbers next_numbers
returns-in-Time c = grind arith

pub returns-in-Event : goal.returns-in-Event
unfolding closer_numbers next_numbers
returns-in-Event c = grind arith
