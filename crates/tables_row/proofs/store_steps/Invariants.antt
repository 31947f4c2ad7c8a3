-- `tables_row::store_steps` meets its contract: a store for each place.
use mathlib.Core.Path.{◌≡◌}
use Rattle.tables_row.proofs.StepLaws.{steps_to}
use Rattle.tables_row.proofs.store_steps.Given as goal

abbrev pub invariant-loop-s : goal.invariant-loop-s
invariant-loop-s l = l.steps ≡ steps_to l.fn.m l.initial.steps l.s
