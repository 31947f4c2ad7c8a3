-- `early_ahead::forecast` meets its contract: the least over the threads.
use mathlib.Core.Path.{◌∙◌}
use native.Mathlib.Omega.{arith}
use Rattle.early_ahead.proofs.LengthLaws.{limits-length}
use Rattle.early_ahead.proofs.LimitLaws.{at_most-min, lesser-min}
use Rattle.early_ahead.proofs.AheadLaws.{forecast_to-none, forecast_to-more, forecast_to-all}
use Rattle.early_ahead.proofs.forecast.Goals as goal

pub loop-j-init : goal.loop-j-init
loop-j-init c = forecast_to-none _ _ _ _

pub loop-j-preserved : goal.loop-j-preserved
loop-j-preserved c =
    let here = c in
    let start = here in
    let x = start.args in
    let l = here.loop-j in
    let size = limits-length x.xs _ start.well_formed.1.1.0 in
    forecast_to-more x.reach.now x.segments x.xs.at x.e l.j _ _ _ _ l.invariant (omega arith) c.reach_at.ensures c.sum_of.ensures (c.min-least.ensures ∙ lesser-min l.least _)

pub returns : goal.returns
returns c = forecast_to-all _ _ _ _ _ c.loop-j.j _ (omega (arith, at_most-min 32 c.args.t)) c.loop-j.invariant
