-- `early_list::calls` meets its contract. A short buffer, an unfit state, a fit one.
use mathlib.Core.Path.{sym, ◌∙◌}
use native.Mathlib.Omega.{arith}
use Rattle.early.specs.Call.{call_of}
use Rattle.early_laws.proofs.CallLaws.{call_of-unfit}
use Rattle.early_answer.proofs.ShownLaws.{knows_words}
use Rattle.early_list.proofs.GoingLaws.{neither, calls-short, calls-made, calls-refused}
use Rattle.early_list.proofs.calls.Goals as goal

pub returns-then-answers-calls : goal.returns-then-answers-calls
returns-then-answers-calls c =
    let x = c.args in
    let said = calls-short (call_of x.m x.marks x.words.now) x.site x.threads x.held.now x.calls.now x.answers.now _ c.undone.ensures (omega arith) in
    record { left = said.0; held = said.1; written = said.2 }

pub returns-then-is_unfit_call : goal.returns-then-is_unfit_call
returns-then-is_unfit_call c =
    let x = c.args in
    let e = sym c.is_unfit_call.ensures ∙ c.if-is_unfit_call.true in
    let said = calls-refused (call_of x.m x.marks x.words.now) x.site x.threads x.held.now x.calls.now x.answers.now (omega (arith, c.if-answers-calls.false)) 11
    (λ call. call_of-unfit x.m x.marks x.words.now x.site x.threads.at x.held.now call e) _ _ c.undone-then-is_unfit_call.ensures c.refuse_all.ensures in
    record { left = said.0; held = said.1; written = said.2 }

pub answer_fit-requires : goal.answer_fit-requires
answer_fit-requires c =
    let x = c.args in
    let fits = neither _ _ (sym c.is_unfit_call.ensures ∙ c.if-is_unfit_call.false) in
    (fits.0, fits.1, (knows_words x.m.n x.words.now _, omega (arith, c.if-answers-calls.false)))

pub returns : goal.returns
returns c =
    let x = c.args in
    let a = c.answer_fit in
    let said = calls-made (call_of x.m x.marks x.words.now) x.site x.threads x.held.now x.calls.now x.answers.now (omega (arith, c.if-answers-calls.false)) _ _ _ a.ensures.left a.ensures.held a.ensures.written in
    record { left = said.0; held = said.1; written = said.2 }
