-- `model_rules::starts_fault` meets its contract: thread by thread, then the count.
use mathlib.Core.Path.{◌≡◌, sym, ap, ◌∙◌}
use native.Mathlib.Numerals.{add-one}
use native.Mathlib.Omega.{arith}
use lib.ListN.{length}
use Rattle.std.proofs.lemmas.Result.{err_from_is_err_and}
use Rattle.refusal.proofs.NumberLaws.{number_of-not_0}
use Rattle.base.proofs.IndexLaws.{first_below-none, first_below-more}
use Rattle.model.specs.declared.Start.{Start}
use Rattle.model.specs.Values.{ports_at}
use Rattle.model.specs.Rules.{ports_fault, starts_fault}
use Rattle.model_rules.proofs.FaultLaws.{start_at-taken, placed_fault-here, placed_fault-end}
use Rattle.model_rules.proofs.starts_fault.Goals as goal

pub loop-x-init : goal.loop-x-init
loop-x-init c = first_below-none _

pub returns-in_err-ports_fault : goal.returns-in_err-ports_fault
unfolding starts_fault ports_at
returns-in_err-ports_fault c =
    let p = err_from_is_err_and c.from_residual.result c.from_residual.ensures.1 in
    rw (p.1, p.2)
    (let m = c.args.m.now in
    let k = c.loop-x.x-index in
    placed_fault-here m.t 32 (λ k. ports_fault m.v (ports_at m k)) k _ (omega arith) (omega arith) c.loop-x.invariant
    (c.in_err-ports_fault.ensures ∙ ap (λ (x : Start). ports_fault m.v x.ports) (start_at-taken m _ k _ c.loop-x-test.true))
    (number_of-not_0 c.in_err-ports_fault.field-0.0))

pub loop-x-preserved : goal.loop-x-preserved
unfolding ports_at
loop-x-preserved c =
    let m = c.args.m.now in
    rw add-one
    (first_below-more _ _ c.loop-x.invariant
    ∙ (sym (ap (λ (x : Start). ports_fault m.v x.ports) (start_at-taken m _ c.loop-x.x-index _ c.loop-x-test.true)) ∙ sym c.in_ok-ports_fault.ensures))

pub returns : goal.returns
unfolding starts_fault
returns c =
    let m = c.args.m.now in
    let s : length m.starts ≡ 32 = omega arith in
    c.unless.ensures ∙ placed_fault-end m.t 32 (λ k. ports_fault m.v (ports_at m k)) c.loop-x.x-index (omega arith) c.loop-x.invariant
