-- `model_rules::counts_fault` meets its contract: no segment, no thread, then the threads.
use mathlib.Core.Path.{sym}
use Rattle.std.proofs.lemmas.Result.{err_from_is_err_and}
use Rattle.refusal.proofs.NumberLaws.{number_of-not_0}
use Rattle.model.specs.Rules.{counts_fault}
use Rattle.model_rules.proofs.FaultLaws.{fault-here, fault-later}
use Rattle.model_rules.proofs.counts_fault.Goals as goal

pub returns-in_err-unless : goal.returns-in_err-unless
unfolding counts_fault
returns-in_err-unless c =
    let p = err_from_is_err_and c.from_residual.result c.from_residual.ensures.1 in
    rw (p.1, p.2)
    (fault-here _ _ _ c.in_err-unless.ensures (number_of-not_0 c.in_err-unless.field-0.0))

pub returns-in_err-unless-2 : goal.returns-in_err-unless-2
unfolding counts_fault
returns-in_err-unless-2 c =
    let p = err_from_is_err_and c.from_residual-in_err-unless-2.result c.from_residual-in_err-unless-2.ensures.1 in
    rw (p.1, p.2)
    (fault-later _ _ _ (sym c.in_ok-unless.ensures) (fault-here _ _ _ c.in_err-unless-2.ensures (number_of-not_0 c.in_err-unless-2.field-0.0)))

pub returns : goal.returns
unfolding counts_fault
returns c = fault-later _ _ _ (sym c.in_ok-unless.ensures) (fault-later _ _ _ (sym c.in_ok-unless-2.ensures) (c.starts_fault.ensures))
