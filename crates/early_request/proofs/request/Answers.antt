-- `early_request::request` meets its contract. 11, or the answer on a fit state.
use mathlib.Core.Path.{sym, ◌∙◌}
use Rattle.early_answer.proofs.ShownLaws.{knows_words}
use Rattle.early_request.proofs.FitAnswerLaws.{enough-both, after-answers, request-unfit, request-both}
use Rattle.early_request.proofs.request.Goals as goal

pub returns-then-is_unfit : goal.returns-then-is_unfit
returns-then-is_unfit c =
    let x = c.args in
    let (left, told) = after-answers x.m x.marks x.words.now x.site x.threads.at x.k.0
    (c.refused.ensures ∙ request-unfit x.m x.marks x.words.now x.site x.threads.at x.k.0 (sym c.is_unfit.ensures ∙ c.if-is_unfit.true)) in
    record { left = left; answers = told }

pub call_fit-requires : goal.call_fit-requires
call_fit-requires c =
    let x = c.args in
    (sym c.is_unfit.ensures ∙ c.if-is_unfit.false, knows_words x.m.n x.words.now _, enough-both x.m.t _ x.k.0)

pub returns : goal.returns
returns c =
    let x = c.args in
    let (left, told) = after-answers x.m x.marks x.words.now x.site x.threads.at x.k.0
    (c.call_fit.ensures.left ∙ request-both x.m x.marks x.words.now x.site x.threads.at x.k.0 _ (sym c.is_unfit.ensures ∙ c.if-is_unfit.false)) in
    record { left = left; answers = told }
