-- `export_judge::starts_fault` meets its contract. The invariant: the first k threads have no fault.
use mathlib.Core.Path.{◌≡◌}
use Rattle.base.specs.Index.{first_below}
use Rattle.export_model.specs.Judged.{start_numbers_fault}
use Rattle.export_judge.proofs.starts_fault.Given as goal

abbrev pub invariant-loop-k : goal.invariant-loop-k
invariant-loop-k l = first_below l.k (λ j. start_numbers_fault l.xs j) ≡ 0
