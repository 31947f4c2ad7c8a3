-- `export_numbers::start_numbers` meets its contract.
use native.Mathlib.Omega.{arith}
use Rattle.base.specs.Index.{tabulate}
use Rattle.export_model.specs.Numbers.{start_numbers}
use Rattle.export_numbers.proofs.start_numbers.Goals as goal

pub returns : goal.returns
unfolding start_numbers tabulate
returns c = grind arith
