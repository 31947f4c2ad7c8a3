-- `export_judge::segments_fault` meets its contract. The invariant: the first i segments have no fault.
use mathlib.Core.Path.{◌≡◌, sym, ◌∙◌}
use native.Mathlib.Numerals.{add-one}
use native.Mathlib.Omega.{arith}
use Rattle.std.proofs.lemmas.Result.{err_from_is_err_and}
use Rattle.refusal.proofs.NumberLaws.{number_of-not_0}
use Rattle.base.proofs.IndexLaws.{first_below-none, first_below-more, first_below-here}
use Rattle.export_judge.proofs.segments_fault.Goals as goal

pub loop-i-init : goal.loop-i-init
loop-i-init c = first_below-none _

pub returns-in_err-segment_fault : goal.returns-in_err-segment_fault
returns-in_err-segment_fault c =
    let p = err_from_is_err_and c.from_residual.result c.from_residual.ensures.1 in
    let here = c.in_err-segment_fault.ensures in
    rw (p.1, p.2)
    (here ∙ sym (first_below-here c.loop-i.i _ _ (omega arith) c.loop-i.invariant (λ z. number_of-not_0 c.in_err-segment_fault.field-0.0 (here ∙ z))))

pub loop-i-preserved : goal.loop-i-preserved
loop-i-preserved c = rw add-one (first_below-more _ _ c.loop-i.invariant ∙ sym c.in_ok-segment_fault.ensures)

pub returns : goal.returns
returns c = let e : c.loop-i.i ≡ c.args.n = omega arith in rw (← e) (sym c.loop-i.invariant)
