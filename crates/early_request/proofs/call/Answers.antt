-- `early_request::call` meets its contract. 11, or the answer on a fit state.
use mathlib.Core.Path.{ap, sym, ◌∙◌}
use Rattle.early.specs.Call.{Called}
use Rattle.early_laws.proofs.CallLaws.{call_of-unfit, call_of-fitting}
use Rattle.early_answer.specs.After.{after_of}
use Rattle.early_answer.proofs.ShownLaws.{knows_words}
use Rattle.early_request.proofs.FitAnswerLaws.{enough-fit, neither}
use Rattle.early_request.proofs.call.Goals as goal

pub returns-then-is_unfit_call : goal.returns-then-is_unfit_call
returns-then-is_unfit_call c =
    let x = c.args in
    let e = call_of-unfit x.m x.marks x.words.now x.site x.threads.at x.held.now x.call (sym c.is_unfit_call.ensures ∙ c.if-is_unfit_call.true) in
    record { held = sym (ap (λ (r : Called). r.held) e); left = c.refused.ensures ∙ sym (ap (λ (r : Called). after_of r.left) e) }

pub call_fit-requires : goal.call_fit-requires
call_fit-requires c =
    let x = c.args in
    let (state, enough) = neither _ _ (sym c.is_unfit_call.ensures ∙ c.if-is_unfit_call.false) in
    (state, knows_words x.m.n x.words.now _, enough-fit x.m x.held.now x.call enough)

pub returns : goal.returns
returns c =
    let x = c.args in
    let (state, enough) = neither _ _ (sym c.is_unfit_call.ensures ∙ c.if-is_unfit_call.false) in
    let e = call_of-fitting x.m x.marks x.words.now x.site x.threads.at x.held.now x.call (record { state = state; enough = enough }) in
    let a = c.call_fit in
    record { held = a.ensures.held ∙ sym (ap (λ (r : Called). r.held) e); left = a.ensures.left ∙ sym (ap (λ (r : Called). after_of r.left) e) }
