-- `tables_distance::all_rounds` meets its contract: a round for each place.
use Rattle.tables_distance.proofs.StoreLaws.{rounds_to-none, rounds_to-more}
use Rattle.tables_distance.proofs.all_rounds.Goals as goal

pub loop-k-init : goal.loop-k-init
loop-k-init c = rounds_to-none _ _

pub loop-k-preserved : goal.loop-k-preserved
loop-k-preserved c =
    let x = c.args in
    let l = c.loop-k in
    let e = rounds_to-more x.n x.words.now l.k _ _ l.invariant c.round.ensures in
    e
