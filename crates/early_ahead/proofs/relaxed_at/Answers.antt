-- `early_ahead::relaxed_at` meets its contract: ready, waiting.
use mathlib.Core.Path.{◌≡◌, ◌∙◌}
use native.Mathlib.Omega.{arith}
use lib.ListN.{length, get_or}
use Rattle.early_ahead.proofs.LimitLaws.{lesser-min}
use Rattle.early_ahead.proofs.AheadLaws.{relaxed_by-ready, relaxed_by-waiting, relaxed_at-read}
use Rattle.early_ahead.proofs.relaxed_at.Goals as goal

pub returns-then-e-ge32 : goal.returns-then-e-ge32
returns-then-e-ge32 c =
    let x = c.args in
    let size : length x.xs.now.at ≡ 32 = omega arith in
    let events : length x.crew.now.events ≡ 32 = omega arith in
    relaxed_at-read _ x.crew.now _ _ x.k _ (omega arith) (omega arith) (relaxed_by-ready _ _ _ _ _ _ _ c.if-e-ge32.true)

pub returns : goal.returns
returns c =
    let x = c.args in
    let size : length x.xs.now.at ≡ 32 = omega arith in
    let events : length x.crew.now.events ≡ 32 = omega arith in
    relaxed_at-read _ x.crew.now _ _ x.k _ (omega arith) (omega arith)
    (relaxed_by-waiting _ _ _ _ _ _ _ _ _ _ _ c.if-e-ge32.false c.forecast.ensures c.raised_limit-notified.ensures
    c.sum_of.ensures (c.min.ensures ∙ lesser-min (get_or x.xs.now.at x.k 0) _))
