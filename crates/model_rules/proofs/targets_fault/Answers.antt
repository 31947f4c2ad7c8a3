-- `model_rules::targets_fault` meets its contract: the segments, then the threads.
use mathlib.Core.Path.{refl, sym, ap, ◌∙◌}
use mathlib.Core.Bool.{Bool, not}
use native.Mathlib.Omega.{arith}
use Rattle.std.proofs.lemmas.Result.{err_from_is_err_and}
use Rattle.refusal.proofs.NumberLaws.{number_of-not_0}
use Rattle.model.specs.Rules.{unless, any_segment_leaves, any_start_leaves, targets_fault}
use Rattle.model_rules.proofs.FaultLaws.{fault-here, fault-later, unless-either}
use Rattle.model_rules.proofs.targets_fault.Goals as goal

pub returns-in_err-unless : goal.returns-in_err-unless
unfolding targets_fault
returns-in_err-unless c =
    let p = err_from_is_err_and c.from_residual.result c.from_residual.ensures.1 in
    rw (p.1, p.2)
    (fault-here _ (unless (not (any_start_leaves c.args.m.now)) 8) _
    (c.in_err-unless.ensures ∙ ap (λ (t : Bool). unless (not t) 8) (c.any_segment_leaves.ensures c.args.m.now refl refl))
    (number_of-not_0 c.in_err-unless.field-0.0)
    ∙ unless-either (any_segment_leaves c.args.m.now) (any_start_leaves c.args.m.now) 8 (λ z. omega arith))

pub returns : goal.returns
unfolding targets_fault
returns c =
    fault-later _ _ _
    (ap (λ (t : Bool). unless (not t) 8) (sym (c.any_segment_leaves.ensures c.args.m.now refl refl)) ∙ sym c.in_ok-unless.ensures)
    (c.unless-2.ensures ∙ ap (λ (t : Bool). unless (not t) 8) c.any_start_leaves.ensures)
    ∙ unless-either (any_segment_leaves c.args.m.now) (any_start_leaves c.args.m.now) 8 (λ z. omega arith)
