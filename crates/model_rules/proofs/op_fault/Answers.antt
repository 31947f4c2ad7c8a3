-- `model_rules::op_fault` meets its contract, operation by operation.
use mathlib.Core.Path.{◌≡◌, refl, sym, ap, ◌∙◌}
use mathlib.Core.Bool.{Bool, ◌&&◌}
use mathlib.Core.Logic.{⊎_elim}
use native.Mathlib.Omega.{arith}
use Rattle.std.proofs.lemmas.Result.{err_from_is_err_and}
use Rattle.refusal.specs.Number.{number_of}
use Rattle.refusal.proofs.NumberLaws.{number_of-not_0}
use Rattle.model.specs.Rules.{unless, is_name, op_fault}
use Rattle.model_rules.proofs.FaultLaws.{fault-here, fault-later, unless-both}
use Rattle.model_rules.proofs.op_fault.Goals as goal

pub returns-in-Set : goal.returns-in-Set
unfolding op_fault
returns-in-Set c =
    c.unless-in-Set.ensures
    ∙ (ap (λ (t : Bool). unless t 7) (c.is_name-in-Set.ensures ∙ ap (is_name c.args.v) c.from-in-Set.ensures)
    ∙ ⊎_elim (λ w. rw w.1 refl) (λ w. rw w.1 refl) c.in-Set.is)

pub returns-in_err-unless-in-Copy : goal.returns-in_err-unless-in-Copy
unfolding op_fault
returns-in_err-unless-in-Copy c =
    let p = err_from_is_err_and c.from_residual.result c.from_residual.ensures.1 in
    let a = c.in-Copy.a in
    let b = c.in-Copy.b in
    let here : number_of c.in_err-unless-in-Copy.field-0.0 ≡ unless (is_name c.args.v a && is_name c.args.v b) 7 =
    fault-here (unless (is_name c.args.v a) 7) (unless (is_name c.args.v b) 7) _
    (c.in_err-unless-in-Copy.ensures ∙ ap (λ (t : Bool). unless t 7) (c.is_name.ensures ∙ ap (is_name c.args.v) c.from.ensures))
    (number_of-not_0 c.in_err-unless-in-Copy.field-0.0)
    ∙ unless-both _ _ 7 (λ z. omega arith) in
    rw (p.1, p.2)
    (here ∙ ⊎_elim (λ w. rw w refl) (⊎_elim (λ w. rw w refl) (λ w. rw w refl)) c.in-Copy.is)

pub returns-in_ok-unless-in-Copy : goal.returns-in_ok-unless-in-Copy
unfolding op_fault
returns-in_ok-unless-in-Copy c =
    fault-later (unless (is_name c.args.v c.in-Copy.a) 7) (unless (is_name c.args.v c.in-Copy.b) 7) _
    (ap (λ (t : Bool). unless t 7) (sym (c.is_name.ensures ∙ ap (is_name c.args.v) c.from.ensures)) ∙ sym c.in_ok-unless-in-Copy.ensures)
    (c.unless-in-Copy-2.ensures ∙ ap (λ (t : Bool). unless t 7) c.is_name-in-Copy.ensures)
    ∙ (unless-both _ _ 7 (λ z. omega arith)
    ∙ ⊎_elim (λ w. rw w refl) (⊎_elim (λ w. rw w refl) (λ w. rw w refl)) c.in-Copy.is)

pub returns-in-Notify : goal.returns-in-Notify
unfolding op_fault
returns-in-Notify c = rw c.in-Notify.is c.unless.ensures
