-- `early_request::rows_fit` meets its contract. 16, or the answer by the steps of the model.
use mathlib.Core.Path.{sym, ap, ◌∙◌}
use native.Mathlib.Omega.{arith}
use lib.ListN.{length, replicate, length-replicate}
use lib.Seq.{length-take-le}
use Rattle.tables_row.proofs.StepLaws.{steps_in-whole}
use Rattle.early.specs.Call.{Called}
use Rattle.early_laws.proofs.FitLaws.{state-fit}
use Rattle.early_laws.proofs.ByRowsLaws.{free-same, free-front, is_unfit-own}
use Rattle.early_answer.specs.After.{after_of}
use Rattle.early_answer.proofs.ShownLaws.{knows_steps}
use Rattle.early_request.proofs.RowsLaws.{rows_fit-short, rows_fit-enough}
use Rattle.early_request.proofs.rows_fit.Goals as goal

pub returns-then-lent-lt64 : goal.returns-then-lent-lt64
returns-then-lent-lt64 c =
    let x = c.args in
    let e = rows_fit-short x.m x.marks (length x.lent.now) x.site x.threads.at x.held.now x.call c.if-lent-lt64.true in
    record { free = free-same x.lent.now; held = ap (λ (r : Called). r.held) e; left = c.refused.ensures ∙ ap (λ (r : Called). after_of r.left) e }

pub slice_bounds-call_fit-end-3 : goal.slice_bounds-call_fit-end-3
slice_bounds-call_fit-end-3 c = sym (length-take-le 64 c.args.lent.now c.if-lent-lt64.false)

pub call_fit-requires : goal.call_fit-requires
call_fit-requires c =
    let start = c in
    let x = start.args in
    let (state, enough) = start.requires in (
      is_unfit-own x.m x.site x.threads.at ∙ state,
      knows_steps x.m _ _ (state-fit x.m x.site x.threads.at state).0 (c.fill_steps.ensures ∙ steps_in-whole x.m (replicate 64 0) (simp length-replicate)) (omega (arith, length-take-le 64 x.lent.now c.if-lent-lt64.false)),
      enough,
    )

pub returns : goal.returns
returns c =
    let x = c.args in
    let a = c.call_fit in
    let e = rows_fit-enough x.m x.marks (length x.lent.now) x.site x.threads.at x.held.now x.call c.if-lent-lt64.false in
    record { free = free-front x.lent.now a.new.room a.ensures.kept; held = a.ensures.held ∙ ap (λ (r : Called). r.held) e; left = a.ensures.left ∙ ap (λ (r : Called). after_of r.left) e }
