-- `model_reach::round` meets its contract: each row is joined where it has k.
use mathlib.Core.Path.{◌≡◌, refl}
use native.Mathlib.Omega.{arith}
use lib.ListN.{length, get_or}
use Rattle.base.proofs.IndexLaws.{store_to-none, store_to-more}
use Rattle.model_reach.specs.Store.{joined, round_to}
use Rattle.model_reach.proofs.round.Goals as goal

pub loop-row-init : goal.loop-row-init
unfolding round_to
loop-row-init c = (refl, store_to-none _ _ _)

pub loop-row-preserved : goal.loop-row-preserved
unfolding round_to
loop-row-preserved c =
    let x = c.args in
    let l = c.loop-row in
    (refl, store_to-more (λ r vs. joined (get_or vs r 0) (get_or x.rows.now x.k 0) x.k) 0 x.rows.now l.row-index l.row-index l.rows _ l.invariant.1 (omega arith) c.joined.ensures)

pub returns : goal.returns
returns c =
    let e : c.loop-row.row-index ≡ length c.args.rows.now = omega arith in
    rw e at c.loop-row.invariant.1
