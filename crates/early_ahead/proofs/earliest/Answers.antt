-- `early_ahead::earliest` meets its contract: round after round.
use mathlib.Core.Path.{sym, ◌∙◌}
use native.Mathlib.Omega.{arith}
use lib.Pointwise.{bytes_decides}
use Rattle.early_ahead.proofs.AheadLaws.{after_rounds-none, after_rounds-more, earliest_limits-done, earliest_limits-all}
use Rattle.early_ahead.proofs.earliest.Goals as goal

pub loop-init : goal.loop-init
loop-init c = after_rounds-none _ _ _ _

pub loop-preserved : goal.loop-preserved
loop-preserved c = after_rounds-more _ _ _ _ c.loop.counter _ _ c.loop.invariant c.relaxed_limits-y.ensures

pub returns-then-eq : goal.returns-then-eq
returns-then-eq c =
    let same = (bytes_decides c.loop.x.at c.relaxed_limits-y.result.at).0 (sym c.eq.ensures ∙ c.if-eq.true) in
    earliest_limits-done _ _ _ _ c.loop.counter _ _ (omega arith) c.loop.invariant c.relaxed_limits-y.ensures same

pub returns : goal.returns
returns c = earliest_limits-all _ _ _ _ c.loop.counter _ (omega arith) c.loop.invariant
