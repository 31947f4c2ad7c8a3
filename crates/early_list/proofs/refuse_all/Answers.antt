-- `early_list::refuse_all` meets its contract. The invariant: the words that are left to write lead to the same buffer.
use Prim.Native.Nat.{◌*◌, ◌-◌}
use mathlib.Core.Path.{refl, ap, sym, ◌∙◌}
use native.Mathlib.Omega.{arith}
use lib.ListN.{length, get_or, replicate}
use lib.Seq.{length-sets}
use Rattle.early.specs.declared.Answer.TheVariants.{Refused}
use Rattle.early_list.specs.Answers.{answer_words}
use Rattle.early_list.proofs.AnswerWordLaws.{words-done, refuse-none, refuse-more}
use Rattle.early_list.proofs.refuse_all.Goals as goal

pub loop-i-init : goal.loop-i-init
loop-i-init c =
    let x = c.args in
    (refl, refuse-none x.calls.now (Refused x.number) x.answers.now)

pub loop-i-preserved : goal.loop-i-preserved
loop-i-preserved c =
    let here = c.loop-i in
    let x = c.args in
    let put = c.put_answer.ensures in
    let kept = ap length put ∙ length-sets here.answers (5 * here.i) (answer_words (get_or x.calls.now here.i 0) (Refused x.number)) in
    (kept ∙ here.invariant.0, refuse-more x.calls.now (Refused x.number) here.answers _ here.i (omega arith) put ∙ here.invariant.1)

pub shape_of-answers : goal.shape_of-answers
shape_of-answers c = c.loop-i.invariant.0

pub returns : goal.returns
returns c =
    let x = c.args in
    let here = c.loop-i in
    sym (words-done here.answers x.calls.now here.i (replicate (length x.calls.now - here.i) (Refused x.number)) (omega arith)) ∙ here.invariant.1
