-- `model_rules::statements_fault` meets its contract.
use mathlib.Core.Path.{sym, ◌∙◌}
use native.Mathlib.Numerals.{add-one}
use native.Mathlib.Omega.{arith}
use Rattle.std.proofs.lemmas.Result.{err_from_is_err_and}
use Rattle.refusal.proofs.NumberLaws.{number_of-not_0}
use Rattle.base.proofs.IndexLaws.{first_below-none, first_below-more}
use Rattle.model_rules.proofs.FaultLaws.{statement_fault-taken, statements_fault-here, statements_fault-none}
use Rattle.model_rules.proofs.statements_fault.Goals as goal

pub loop-x-init : goal.loop-x-init
loop-x-init c = first_below-none _

pub returns-in_err-op_fault : goal.returns-in_err-op_fault
returns-in_err-op_fault c =
    let p = err_from_is_err_and c.from_residual.result c.from_residual.ensures.1 in
    rw (p.1, p.2)
    (statements_fault-here _ _ _ c.loop-x.x-index _ (omega arith) c.loop-x.invariant (statement_fault-taken _ _ _ _ c.loop-x.x-index _ _ c.loop-x-test.true c.in_err-op_fault.ensures) (number_of-not_0 c.in_err-op_fault.field-0.0))

pub loop-x-preserved : goal.loop-x-preserved
loop-x-preserved c = rw add-one
    (first_below-more _ _ c.loop-x.invariant ∙ sym (statement_fault-taken _ _ _ _ c.loop-x.x-index 0 _ c.loop-x-test.true c.in_ok-op_fault.ensures))

pub returns : goal.returns
returns c = statements_fault-none _ _ _ c.loop-x.x-index (omega arith) c.loop-x.invariant
