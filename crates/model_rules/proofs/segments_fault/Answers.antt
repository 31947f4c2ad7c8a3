-- `model_rules::segments_fault` meets its contract: segment by segment, then the count.
use mathlib.Core.Path.{◌≡◌, sym, ap, ◌∙◌}
use native.Mathlib.Numerals.{add-one}
use native.Mathlib.Omega.{arith}
use lib.ListN.{length}
use Rattle.std.proofs.lemmas.Result.{err_from_is_err_and}
use Rattle.refusal.proofs.NumberLaws.{number_of-not_0}
use Rattle.base.proofs.IndexLaws.{first_below-none, first_below-more}
use Rattle.model.specs.Values.{segment_at}
use Rattle.model.specs.Rules.{segment_fault, segments_fault}
use Rattle.model_rules.proofs.FaultLaws.{segment_at-taken, placed_fault-here, placed_fault-end}
use Rattle.model_rules.proofs.segments_fault.Goals as goal

pub loop-g-init : goal.loop-g-init
loop-g-init c = first_below-none _

pub returns-in_err-segment_fault : goal.returns-in_err-segment_fault
unfolding segments_fault
returns-in_err-segment_fault c =
    let p = err_from_is_err_and c.from_residual.result c.from_residual.ensures.1 in
    rw (p.1, p.2)
    (let m = c.args.m.now in
    let i = c.loop-g.g-index in
    placed_fault-here m.n 64 (λ i. segment_fault m.v m.e (segment_at m i)) i _ (omega arith) (omega arith) c.loop-g.invariant
    (c.in_err-segment_fault.ensures ∙ ap (segment_fault m.v m.e) (segment_at-taken m _ i _ c.loop-g-test.true))
    (number_of-not_0 c.in_err-segment_fault.field-0.0))

pub loop-g-preserved : goal.loop-g-preserved
loop-g-preserved c =
    let m = c.args.m.now in
    rw add-one
    (first_below-more _ _ c.loop-g.invariant
    ∙ (sym (ap (segment_fault m.v m.e) (segment_at-taken m _ c.loop-g.g-index _ c.loop-g-test.true)) ∙ sym c.in_ok-segment_fault.ensures))

pub returns : goal.returns
unfolding segments_fault
returns c =
    let m = c.args.m.now in
    let s : length m.segments ≡ 64 = omega arith in
    c.unless.ensures ∙ placed_fault-end m.n 64 (λ i. segment_fault m.v m.e (segment_at m i)) c.loop-g.g-index (omega arith) c.loop-g.invariant
