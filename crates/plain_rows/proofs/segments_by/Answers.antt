-- `plain_rows::segments_by` meets its contract. The invariant: the segments of the first k threads are stored.
use native.Mathlib.Omega.{arith}
use Rattle.plain_words.proofs.RowLaws.{segment-more, segments-is}
use Rattle.plain_rows.proofs.segments_by.Goals as goal

pub loop-k-init : goal.loop-k-init
loop-k-init c = λ i h. absurd (omega arith)

pub loop-k-preserved : goal.loop-k-preserved
loop-k-preserved c = let at = c in
    let here = at.loop-k in
    let a = at.args in
    segment-more a.held.now a.rows.now here.x-items here.k _ (omega arith) c.segment_by.ensures here.invariant

pub returns : goal.returns
returns c = segments-is c.args.held.now c.args.rows.now _ (omega arith) (λ i h. c.loop-k.invariant i (omega arith))
