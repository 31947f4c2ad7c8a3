-- `export_judge::counts_fault` meets its contract: 2, then the threads.
use native.Mathlib.Omega.{arith}
use Rattle.std.proofs.lemmas.Result.{err_from_is_err_and}
use Rattle.refusal.proofs.NumberLaws.{number_of-not_0}
use Rattle.base.specs.Index.{or_else}
use Rattle.export_model.specs.Judged.{count_numbers_fault}
use Rattle.export_judge.proofs.counts_fault.Goals as goal

pub returns-in_err-unless : goal.returns-in_err-unless
unfolding or_else count_numbers_fault
returns-in_err-unless c =
    let p = err_from_is_err_and c.from_residual.result c.from_residual.ensures.1 in
    let not_0 = number_of-not_0 c.in_err-unless.field-0.0 in
    rw (p.1, p.2) (grind arith)

pub returns : goal.returns
unfolding or_else count_numbers_fault
returns c = grind arith
