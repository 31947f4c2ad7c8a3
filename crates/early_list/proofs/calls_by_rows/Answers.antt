-- `early_list::calls_by_rows` meets its contract. A short buffer, an unfit state, too few words, or a fit one, by the steps of its model.
use mathlib.Core.Path.{sym, ◌∙◌}
use mathlib.Core.List.{map}
use native.Mathlib.Omega.{arith}
use lib.ListN.{length, replicate, length-replicate}
use lib.Seq.{length-take-le}
use Rattle.tables_row.proofs.StepLaws.{steps_in-whole}
use Rattle.early.specs.Call.{call_by_rows, call_at}
use Rattle.early_laws.proofs.FitLaws.{state-fit}
use Rattle.early_laws.proofs.ByRowsLaws.{free-same, free-front, is_unfit-own}
use Rattle.early_laws.proofs.CallLaws.{call_by_rows-unfit, call_by_rows-few, calls_by_rows-enough}
use Rattle.early_answer.proofs.ShownLaws.{knows_steps}
use Rattle.early_list.proofs.GoingLaws.{neither, calls-short, calls_same, calls-refused}
use Rattle.early_list.proofs.calls_by_rows.Goals as goal

pub returns-then-answers-calls : goal.returns-then-answers-calls
returns-then-answers-calls c =
    let x = c.args in
    let said = calls-short (call_by_rows x.m x.marks (length x.row.now)) x.site x.threads x.held.now x.calls.now x.answers.now _ c.undone.ensures (omega arith) in
    record { free = free-same x.row.now; left = said.0; held = said.1; written = said.2 }

pub returns-then-is_unfit_call_by_rows : goal.returns-then-is_unfit_call_by_rows
returns-then-is_unfit_call_by_rows c =
    let x = c.args in
    let e = sym c.is_unfit_call_by_rows.ensures ∙ c.if-is_unfit_call_by_rows.true in
    let said = calls-refused (call_by_rows x.m x.marks (length x.row.now)) x.site x.threads x.held.now x.calls.now x.answers.now (omega (arith, c.if-answers-calls.false)) 11
    (λ call. call_by_rows-unfit x.m x.marks (length x.row.now) x.site x.threads.at x.held.now call e) _ _ c.undone-then-is_unfit_call_by_rows.ensures c.refuse_all.ensures in
    record { free = free-same x.row.now; left = said.0; held = said.1; written = said.2 }

pub returns-then-row-lt64 : goal.returns-then-row-lt64
returns-then-row-lt64 c =
    let x = c.args in
    let e = sym c.is_unfit_call_by_rows.ensures ∙ c.if-is_unfit_call_by_rows.false in
    let said = calls-refused (call_by_rows x.m x.marks (length x.row.now)) x.site x.threads x.held.now x.calls.now x.answers.now (omega (arith, c.if-answers-calls.false)) 16
    (λ call. call_by_rows-few x.m x.marks (length x.row.now) x.site x.threads.at x.held.now call e c.if-row-lt64.true) _ _ c.undone-then-row-lt64.ensures c.refuse_all-then-row-lt64.ensures in
    record { free = free-same x.row.now; left = said.0; held = said.1; written = said.2 }

pub slice_bounds-answer_fit-end-3 : goal.slice_bounds-answer_fit-end-3
slice_bounds-answer_fit-end-3 c = sym (length-take-le 64 c.args.row.now c.if-row-lt64.false)

pub answer_fit-requires : goal.answer_fit-requires
answer_fit-requires c =
    let x = c.args in
    let fits = neither _ _ (sym c.is_unfit_call_by_rows.ensures ∙ c.if-is_unfit_call_by_rows.false) in (
      is_unfit-own x.m x.site x.threads.at ∙ fits.0,
      fits.1,
      (
        knows_steps x.m _ _ (state-fit x.m x.site x.threads.at fits.0).0 (c.fill_steps.ensures ∙ steps_in-whole x.m (replicate 64 0) (simp length-replicate)) (omega (arith, length-take-le 64 x.row.now c.if-row-lt64.false)),
        omega (arith, c.if-answers-calls.false),
      ),
    )

pub returns : goal.returns
returns c =
    let x = c.args in
    let a = c.answer_fit in
    let said = calls_same (call_by_rows x.m x.marks (length x.row.now)) x.site x.threads x.held.now x.calls.now x.answers.now (omega (arith, c.if-answers-calls.false)) _
    (calls_by_rows-enough x.m x.marks (length x.row.now) c.if-row-lt64.false (map call_at x.calls.now) x.site x.threads.at x.held.now) _ _ _ a.ensures.left a.ensures.held a.ensures.written in
    record { free = free-front x.row.now a.new.room a.ensures.kept; left = said.0; held = said.1; written = said.2 }
