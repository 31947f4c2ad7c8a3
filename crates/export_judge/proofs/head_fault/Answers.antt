-- `export_judge::head_fault` meets its contract.
use native.Mathlib.Omega.{arith}
use Rattle.model.specs.Rules.{head_fault}
use Rattle.export_judge.proofs.head_fault.Goals as goal

pub returns : goal.returns
unfolding head_fault
returns c = grind arith
