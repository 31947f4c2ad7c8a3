-- `model_rules::closer_fault` meets its contract, closer by closer.
use Prim.Native.Nat.{ℕ}
use mathlib.Core.Path.{sym, ap, ◌∙◌}
use native.Mathlib.Omega.{arith}
use lib.Dec.{leb}
use Rattle.std.proofs.lemmas.Result.{err_from_is_err_and}
use Rattle.refusal.proofs.NumberLaws.{number_of-not_0}
use Rattle.model.specs.Rules.{unless, closer_fault}
use Rattle.model_rules.proofs.FaultLaws.{fault-here, fault-later}
use Rattle.model_rules.proofs.closer_fault.Goals as goal

pub returns-in-End : goal.returns-in-End
unfolding closer_fault
returns-in-End c = grind arith

pub returns-in_err-unless-in-Time : goal.returns-in_err-unless-in-Time
unfolding closer_fault
returns-in_err-unless-in-Time c =
    let p = err_from_is_err_and c.from_residual.result c.from_residual.ensures.1 in
    rw (p.1, p.2)
    (rw c.in-Time.is
    (fault-here _ _ _
    (c.in_err-unless-in-Time.ensures ∙ ap (λ (k : ℕ). unless (leb k 1000000000) 5) c.from.ensures)
    (number_of-not_0 c.in_err-unless-in-Time.field-0.0)))

pub returns-in_err-choice_fault-in-Time : goal.returns-in_err-choice_fault-in-Time
unfolding closer_fault
returns-in_err-choice_fault-in-Time c =
    let p = err_from_is_err_and c.from_residual-in_err-choice_fault-in-Time.result c.from_residual-in_err-choice_fault-in-Time.ensures.1 in
    rw (p.1, p.2)
    (rw c.in-Time.is
    (fault-later _ _ _
    (ap (λ (k : ℕ). unless (leb k 1000000000) 5) (sym c.from.ensures) ∙ sym c.in_ok-unless-in-Time.ensures)
    (fault-here _ _ _ c.in_err-choice_fault-in-Time.ensures (number_of-not_0 c.in_err-choice_fault-in-Time.field-0.0))))

pub returns-in_ok-choice_fault-in-Time : goal.returns-in_ok-choice_fault-in-Time
unfolding closer_fault
returns-in_ok-choice_fault-in-Time c =
    rw c.in-Time.is
    (fault-later _ _ _
    (ap (λ (k : ℕ). unless (leb k 1000000000) 5) (sym c.from.ensures) ∙ sym c.in_ok-unless-in-Time.ensures)
    (fault-later _ _ _ (sym c.in_ok-choice_fault-in-Time.ensures) c.test_fault.ensures))

pub returns-in_err-choice_fault-in-Event : goal.returns-in_err-choice_fault-in-Event
unfolding closer_fault
returns-in_err-choice_fault-in-Event c =
    let p = err_from_is_err_and c.from_residual-in_err-choice_fault-in-Event.result c.from_residual-in_err-choice_fault-in-Event.ensures.1 in
    rw (p.1, p.2)
    (rw c.in-Event.is
    (fault-here _ _ _ c.in_err-choice_fault-in-Event.ensures (number_of-not_0 c.in_err-choice_fault-in-Event.field-0.0)))

pub returns-in_err-unless-in-Event : goal.returns-in_err-unless-in-Event
unfolding closer_fault
returns-in_err-unless-in-Event c =
    let p = err_from_is_err_and c.from_residual-in_err-unless-in-Event.result c.from_residual-in_err-unless-in-Event.ensures.1 in
    rw (p.1, p.2)
    (rw c.in-Event.is
    (fault-later _ _ _ (sym c.in_ok-choice_fault-in-Event.ensures)
    (fault-here _ _ _ c.in_err-unless-in-Event.ensures (number_of-not_0 c.in_err-unless-in-Event.field-0.0))))

pub returns-in_ok-unless-in-Event : goal.returns-in_ok-unless-in-Event
unfolding closer_fault
returns-in_ok-unless-in-Event c =
    rw c.in-Event.is
    (fault-later _ _ _ (sym c.in_ok-choice_fault-in-Event.ensures)
    (fault-later _ _ _ (sym c.in_ok-unless-in-Event.ensures) c.test_fault-in-Event.ensures))
