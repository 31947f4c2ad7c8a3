-- `export_judge::statements_fault` meets its contract. The invariant: the first j statements have no fault.
use mathlib.Core.Path.{◌≡◌}
use Rattle.base.specs.Index.{first_below}
use Rattle.export_model.specs.Numbers.{statement_place}
use Rattle.export_model.specs.Judged.{op_numbers_fault}
use Rattle.export_judge.proofs.statements_fault.Given as goal

abbrev pub invariant-loop-j : goal.invariant-loop-j
invariant-loop-j l = first_below l.j (λ k. op_numbers_fault l.xs (statement_place l.i k)) ≡ 0
