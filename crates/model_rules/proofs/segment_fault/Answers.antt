-- `model_rules::segment_fault` meets its contract: the number of statements, the closer, the statements.
use mathlib.Core.Path.{sym}
use Rattle.std.proofs.lemmas.Result.{err_from_is_err_and}
use Rattle.refusal.proofs.NumberLaws.{number_of-not_0}
use Rattle.model.specs.Rules.{segment_fault}
use Rattle.model_rules.proofs.FaultLaws.{fault-here, fault-later}
use Rattle.model_rules.proofs.segment_fault.Goals as goal

pub returns-in_err-unless : goal.returns-in_err-unless
unfolding segment_fault
returns-in_err-unless c =
    let p = err_from_is_err_and c.from_residual.result c.from_residual.ensures.1 in
    rw (p.1, p.2)
    (fault-here _ _ _ c.in_err-unless.ensures (number_of-not_0 c.in_err-unless.field-0.0))

pub returns-in_err-closer_fault : goal.returns-in_err-closer_fault
unfolding segment_fault
returns-in_err-closer_fault c =
    let p = err_from_is_err_and c.from_residual-in_err-closer_fault.result c.from_residual-in_err-closer_fault.ensures.1 in
    rw (p.1, p.2)
    (fault-later _ _ _ (sym c.in_ok-unless.ensures) (fault-here _ _ _ c.in_err-closer_fault.ensures (number_of-not_0 c.in_err-closer_fault.field-0.0)))

pub returns : goal.returns
unfolding segment_fault
returns c = fault-later _ _ _ (sym c.in_ok-unless.ensures) (fault-later _ _ _ (sym c.in_ok-closer_fault.ensures) (c.statements_fault.ensures))
