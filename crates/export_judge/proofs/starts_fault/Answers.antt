-- `export_judge::starts_fault` meets its contract. The invariant: the first k threads have no fault.
use mathlib.Core.Path.{◌≡◌, sym, ◌∙◌}
use native.Mathlib.Numerals.{add-one}
use native.Mathlib.Omega.{arith}
use Rattle.std.proofs.lemmas.Result.{err_from_is_err_and}
use Rattle.refusal.proofs.NumberLaws.{number_of-not_0}
use Rattle.base.proofs.IndexLaws.{first_below-none, first_below-more, first_below-here}
use Rattle.export_judge.proofs.starts_fault.Goals as goal

pub loop-k-init : goal.loop-k-init
loop-k-init c = first_below-none _

pub returns-in_err-start_fault : goal.returns-in_err-start_fault
returns-in_err-start_fault c =
    let p = err_from_is_err_and c.from_residual.result c.from_residual.ensures.1 in
    let here = c.in_err-start_fault.ensures in
    rw (p.1, p.2)
    (here ∙ sym (first_below-here c.loop-k.k _ _ (omega arith) c.loop-k.invariant (λ z. number_of-not_0 c.in_err-start_fault.field-0.0 (here ∙ z))))

pub loop-k-preserved : goal.loop-k-preserved
loop-k-preserved c = rw add-one (first_below-more _ _ c.loop-k.invariant ∙ sym c.in_ok-start_fault.ensures)

pub returns : goal.returns
returns c = let e : c.loop-k.k ≡ c.args.t = omega arith in rw (← e) (sym c.loop-k.invariant)
