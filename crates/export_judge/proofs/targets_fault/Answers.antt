-- `export_judge::targets_fault` meets its contract: the segments, then the threads.
use native.Mathlib.Omega.{arith}
use Rattle.export_model.specs.Judged.{target_numbers_fault}
use Rattle.export_judge.proofs.targets_fault.Goals as goal

pub returns : goal.returns
unfolding target_numbers_fault
returns c = grind arith
