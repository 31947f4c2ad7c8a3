-- `export_judge::parts_fault` meets its contract: the head, the segments, the counts, the targets.
use native.Mathlib.Omega.{arith}
use Rattle.std.proofs.lemmas.Result.{err_from_is_err_and}
use Rattle.refusal.proofs.NumberLaws.{number_of-not_0}
use Rattle.base.specs.Index.{or_else}
use Rattle.export_model.specs.Judged.{parts_fault}
use Rattle.export_judge.proofs.parts_fault.Goals as goal

pub returns-in_err-head_fault : goal.returns-in_err-head_fault
unfolding or_else parts_fault
returns-in_err-head_fault c =
    let p = err_from_is_err_and c.from_residual.result c.from_residual.ensures.1 in
    let not_0 = number_of-not_0 c.in_err-head_fault.field-0.0 in
    rw (p.1, p.2) (grind arith)

pub returns-in_err-segments_fault : goal.returns-in_err-segments_fault
unfolding or_else parts_fault
returns-in_err-segments_fault c =
    let p = err_from_is_err_and c.from_residual-in_err-segments_fault.result c.from_residual-in_err-segments_fault.ensures.1 in
    let not_0 = number_of-not_0 c.in_err-segments_fault.field-0.0 in
    rw (p.1, p.2) (grind arith)

pub returns-in_err-counts_fault : goal.returns-in_err-counts_fault
unfolding or_else parts_fault
returns-in_err-counts_fault c =
    let p = err_from_is_err_and c.from_residual-in_err-counts_fault.result c.from_residual-in_err-counts_fault.ensures.1 in
    let not_0 = number_of-not_0 c.in_err-counts_fault.field-0.0 in
    rw (p.1, p.2) (grind arith)

pub returns : goal.returns
unfolding or_else parts_fault
returns c = grind arith
