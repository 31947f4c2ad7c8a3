-- `early_request::call_by_rows` meets its contract. 11, or the answer on a fit state.
use mathlib.Core.Path.{sym, ap, ◌∙◌}
use lib.ListN.{length}
use Rattle.early.specs.Call.{Called}
use Rattle.early_laws.proofs.ByRowsLaws.{free-same}
use Rattle.early_laws.proofs.CallLaws.{call_by_rows-unfit}
use Rattle.early_answer.specs.After.{after_of}
use Rattle.early_request.proofs.FitAnswerLaws.{enough-fit, neither}
use Rattle.early_request.proofs.RowsLaws.{rows_fit-call}
use Rattle.early_request.proofs.call_by_rows.Goals as goal

pub returns-then-is_unfit_call_by_rows : goal.returns-then-is_unfit_call_by_rows
returns-then-is_unfit_call_by_rows c =
    let x = c.args in
    let e = call_by_rows-unfit x.m x.marks (length x.row.now) x.site x.threads.at x.held.now x.call (sym c.is_unfit_call_by_rows.ensures ∙ c.if-is_unfit_call_by_rows.true) in
    record { free = free-same x.row.now; held = sym (ap (λ (r : Called). r.held) e); left = c.refused.ensures ∙ sym (ap (λ (r : Called). after_of r.left) e) }

pub rows_fit-requires : goal.rows_fit-requires
rows_fit-requires c =
    let x = c.args in
    let (state, enough) = neither _ _ (sym c.is_unfit_call_by_rows.ensures ∙ c.if-is_unfit_call_by_rows.false) in
    (state, enough-fit x.m x.held.now x.call enough)

pub returns : goal.returns
returns c =
    let x = c.args in
    let a = c.rows_fit in
    let e = rows_fit-call x.m x.marks (length x.row.now) x.site x.threads.at x.held.now x.call (sym c.is_unfit_call_by_rows.ensures ∙ c.if-is_unfit_call_by_rows.false) in
    record { free = a.ensures.free; held = a.ensures.held ∙ ap (λ (r : Called). r.held) e; left = a.ensures.left ∙ ap (λ (r : Called). after_of r.left) e }
