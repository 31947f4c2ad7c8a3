-- `early_request::request_by_rows` meets its contract. 11, or the answer on a fit state.
use mathlib.Core.Path.{sym, ap, ◌∙◌}
use lib.ListN.{length}
use Rattle.early_laws.proofs.ByRowsLaws.{free-same, by_rows-unfit}
use Rattle.early_answer.specs.After.{after_of}
use Rattle.early_request.proofs.FitAnswerLaws.{enough-both}
use Rattle.early_request.proofs.RowsLaws.{rows_fit-request}
use Rattle.early_request.proofs.request_by_rows.Goals as goal

pub returns-then-is_unfit_state : goal.returns-then-is_unfit_state
returns-then-is_unfit_state c =
    let x = c.args in
    let e = sym c.is_unfit_state.ensures ∙ c.if-is_unfit_state.true in
    record { free = free-same x.row.now; left = c.refused.ensures ∙ sym (ap after_of (by_rows-unfit x.m x.site x.threads.at x.marks (length x.row.now) x.k.0 e)) }

pub rows_fit-requires : goal.rows_fit-requires
rows_fit-requires c = let x = c.args in (sym c.is_unfit_state.ensures ∙ c.if-is_unfit_state.false, enough-both x.m.t _ x.k.0)

pub returns : goal.returns
returns c =
    let x = c.args in
    let a = c.rows_fit in
    let e = sym c.is_unfit_state.ensures ∙ c.if-is_unfit_state.false in
    record { free = a.ensures.free; left = a.ensures.left ∙ ap after_of (rows_fit-request x.m x.marks (length x.row.now) x.site x.threads.at _ x.k.0 e) }
