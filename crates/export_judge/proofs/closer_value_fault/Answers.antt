-- `export_judge::closer_value_fault` meets its contract, kind by kind.
use native.Mathlib.Omega.{arith}
use Rattle.base.specs.Index.{or_else}
use Rattle.model.specs.Rules.{closer_fault}
use Rattle.export_judge.proofs.closer_value_fault.Goals as goal

pub returns-in-1 : goal.returns-in-1
unfolding closer_fault or_else
returns-in-1 c = grind arith

pub returns-in-2 : goal.returns-in-2
unfolding closer_fault or_else
returns-in-2 c = grind arith

pub returns-in_default : goal.returns-in_default
unfolding closer_fault
returns-in_default c = grind arith
