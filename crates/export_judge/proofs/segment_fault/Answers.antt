-- `export_judge::segment_fault` meets its contract: 3, 4, the closer, the statements.
use native.Mathlib.Omega.{arith}
use Rattle.std.proofs.lemmas.Result.{err_from_is_err_and}
use Rattle.refusal.proofs.NumberLaws.{number_of-not_0}
use Rattle.base.specs.Index.{or_else}
use Rattle.export_model.specs.Judged.{segment_numbers_fault}
use Rattle.export_judge.proofs.segment_fault.Goals as goal

pub returns-in_err-unless : goal.returns-in_err-unless
unfolding or_else segment_numbers_fault
returns-in_err-unless c =
    let p = err_from_is_err_and c.from_residual.result c.from_residual.ensures.1 in
    let not_0 = number_of-not_0 c.in_err-unless.field-0.0 in
    rw (p.1, p.2) (grind arith)

pub returns-in_err-unless-2 : goal.returns-in_err-unless-2
unfolding or_else segment_numbers_fault
returns-in_err-unless-2 c =
    let p = err_from_is_err_and c.from_residual-in_err-unless-2.result c.from_residual-in_err-unless-2.ensures.1 in
    let not_0 = number_of-not_0 c.in_err-unless-2.field-0.0 in
    rw (p.1, p.2) (grind arith)

pub returns-in_err-closer_fault : goal.returns-in_err-closer_fault
unfolding or_else segment_numbers_fault
returns-in_err-closer_fault c =
    let p = err_from_is_err_and c.from_residual-in_err-closer_fault.result c.from_residual-in_err-closer_fault.ensures.1 in
    let not_0 = number_of-not_0 c.in_err-closer_fault.field-0.0 in
    rw (p.1, p.2) (grind arith)

pub returns : goal.returns
unfolding or_else segment_numbers_fault
returns c = grind arith
