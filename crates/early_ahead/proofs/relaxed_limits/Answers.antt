-- `early_ahead::relaxed_limits` meets its contract: a store for each thread.
use native.Mathlib.Omega.{arith}
use Rattle.early_ahead.proofs.LimitLaws.{at_most-min}
use Rattle.early_ahead.proofs.LengthLaws.{limits-length}
use Rattle.early_ahead.proofs.AheadLaws.{relaxed_to-more, relaxed_to-all}
use Rattle.early_ahead.proofs.relaxed_limits.Goals as goal

pub loop-k-preserved : goal.loop-k-preserved
loop-k-preserved c = relaxed_to-more _ _ _ _ c.loop-k.k _ _ c.loop-k.invariant (omega arith) c.relaxed_at.ensures

pub returns : goal.returns
returns c =
    let start = c in
    relaxed_to-all _ _ _ _ c.loop-k.k _ c.loop-k.invariant (omega (arith, at_most-min 32 start.args.t)) (limits-length start.args.xs _ start.well_formed.1.1.0)
