-- `early_deliver::floor_of` meets its contract. The invariant: the least cycle of the first threads.
use Rattle.std.proofs.Common.{◌≡◌, ◌∙◌, ap, ◌<◌, arith, length-take}
use Rattle.std.proofs.lemmas.List.{get_or-take}
use Rattle.clock.specs.Advance.{least}
use Rattle.model.specs.declared.Thread.{Thread}
use Rattle.model.specs.Record.{no_thread, ready_cycle}
use Rattle.model_effect.proofs.LengthLaws.{threads-length}
use Rattle.early_limits.specs.Limit.{at_most}
use Rattle.early_deliver.proofs.CrewLaws.{floor-none, floor-more}
use Rattle.early_deliver.proofs.floor_of.Goals as goal

pub loop-x-init : goal.loop-x-init
loop-x-init c = floor-none c.args.threads.at

pub loop-x-preserved : goal.loop-x-preserved
loop-x-preserved c =
    let ts = c.args.threads.at in
    let l = c.loop-x in
    let below : l.x-index < c.from-n.result = omega (arith, length-take c.from-n.result ts) in
    let here = get_or-take c.from-n.result ts l.x-index no_thread below in
    c.least_of-least.ensures ∙ (ap (least l.least) (c.ready_cycle.ensures ∙ ap (λ (x : Thread). ready_cycle x.state) here) ∙ floor-more ts l.least l.x-index l.invariant)

pub returns : goal.returns
returns c =
    let ts = c.args.threads in
    let size = threads-length ts _ c.well_formed.0 in
    let e : c.loop-x.x-index ≡ at_most 32 c.args.t = omega (arith, c.few.ensures.0, c.few.ensures.1, length-take c.from-n.result ts.at) in
    rw (← e) c.loop-x.invariant
