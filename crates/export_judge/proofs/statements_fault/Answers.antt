-- `export_judge::statements_fault` meets its contract. The invariant: the first j statements have no fault.
use mathlib.Core.Path.{◌≡◌, sym, ◌∙◌}
use native.Mathlib.Numerals.{add-one}
use native.Mathlib.Omega.{arith}
use Rattle.std.proofs.lemmas.Result.{err_from_is_err_and}
use Rattle.refusal.proofs.NumberLaws.{number_of-not_0}
use Rattle.base.proofs.IndexLaws.{first_below-none, first_below-more, first_below-here}
use Rattle.export_judge.proofs.statements_fault.Goals as goal

pub loop-j-init : goal.loop-j-init
loop-j-init c = first_below-none _

pub returns-in_err-op_fault : goal.returns-in_err-op_fault
returns-in_err-op_fault c =
    let p = err_from_is_err_and c.from_residual.result c.from_residual.ensures.1 in
    let here = c.in_err-op_fault.ensures in
    rw (p.1, p.2)
    (here ∙ sym (first_below-here c.loop-j.j _ _ (omega arith) c.loop-j.invariant (λ z. number_of-not_0 c.in_err-op_fault.field-0.0 (here ∙ z))))

pub loop-j-preserved : goal.loop-j-preserved
loop-j-preserved c = rw add-one (first_below-more _ _ c.loop-j.invariant ∙ sym c.in_ok-op_fault.ensures)

pub returns : goal.returns
returns c = let e : c.loop-j.j ≡ c.args.n = omega arith in rw (← e) (sym c.loop-j.invariant)
