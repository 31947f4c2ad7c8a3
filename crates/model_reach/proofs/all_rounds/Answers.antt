-- `model_reach::all_rounds` meets its contract: a round for each segment.
use mathlib.Core.Path.{◌≡◌, ap, ◌∙◌}
use native.Mathlib.Omega.{arith}
use lib.ListN.{length}
use Rattle.model_reach.specs.Store.{round_to}
use Rattle.model_reach.proofs.StoreLaws.{rounds_to-none, rounds_to-more}
use Rattle.model_reach.proofs.all_rounds.Goals as goal

pub loop-k-init : goal.loop-k-init
loop-k-init c = rounds_to-none _ _

pub loop-k-preserved : goal.loop-k-preserved
loop-k-preserved c =
    let x = c.args in
    let l = c.loop-k in
    rounds_to-more x.rows.now (length x.rows.now) l.k _ _ l.invariant (c.round.ensures ∙ ap (round_to l.rows l.k) l.auto.rows)

pub returns : goal.returns
returns c =
    let e : c.loop-k.k ≡ length c.args.rows.now = omega arith in
    rw e at c.loop-k.invariant
