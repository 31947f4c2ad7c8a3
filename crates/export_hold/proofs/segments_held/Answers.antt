-- `export_hold::segments_held` meets its contract. The invariant: the first i segments stand in their places.
use native.Mathlib.Omega.{arith}
use Rattle.model.specs.Values.{no_segment}
use Rattle.export_model.specs.Judged.{segment_held}
use Rattle.export_hold.proofs.FillLaws.{filled_to-none, filled_to-more}
use Rattle.export_hold.proofs.segments_held.Goals as goal

pub loop-i-init : goal.loop-i-init
loop-i-init c = rw c.no_segment-segments.ensures (filled_to-none 64 no_segment _)

pub loop-i-preserved : goal.loop-i-preserved
loop-i-preserved c =
    let l = c.loop-i in
    filled_to-more 64 no_segment (segment_held c.args.xs.now) l.i l.segments _ (omega (arith, c.requires.1, c.loop-i-test)) l.invariant
    c.segment_held.ensures
