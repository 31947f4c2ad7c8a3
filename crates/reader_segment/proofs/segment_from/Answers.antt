-- `reader_segment::segment_from` meets its contract. The invariant: the first j statements stand in their places.
use mathlib.Core.Path.{◌≡◌, ◌∙◌}
use native.Mathlib.Omega.{arith}
use lib.ListN.{length-drop}
use Rattle.reader_segment.specs.Parts.{count_in}
use Rattle.reader_segment.proofs.SegmentLaws.{part-rest, count_in-most, count_in-left, segment_to-none, segment_to-more, segment_to-all}
use Rattle.reader_segment.proofs.StatementLaws.{op_from-decoded}
use Rattle.reader_segment.proofs.segment_from.Goals as goal

pub overflow_cast-g : goal.overflow_cast-g
overflow_cast-g c = omega (arith, c.count_in-n.ensures, count_in-most c.args.r.now)

pub loop-j-init : goal.loop-j-init
loop-j-init c = segment_to-none _ _ _ c.closer_in.ensures c.count_in-n.ensures

pub overflow_mul-at : goal.overflow_mul-at
overflow_mul-at c = omega (arith, count_in-left c.args.r.now c.loop-j.j (omega arith))

pub overflow_add-at : goal.overflow_add-at
overflow_add-at c = omega (arith, count_in-left c.args.r.now c.loop-j.j (omega arith))

pub slice_bounds-s-count : goal.slice_bounds-s-count
slice_bounds-s-count c = omega (arith, count_in-left c.args.r.now c.loop-j.j (omega arith))

pub slice_bounds-s-start : goal.slice_bounds-s-start
slice_bounds-s-start c = omega (arith, count_in-left c.args.r.now c.loop-j.j (omega arith))

pub decode-requires : goal.decode-requires
decode-requires c = rw part-rest (simp length-drop (omega (arith, count_in-left c.args.r.now c.loop-j.j (omega arith))))

pub bounds-s-1 : goal.bounds-s-1
bounds-s-1 c = rw part-rest (simp length-drop (omega (arith, count_in-left c.args.r.now c.loop-j.j (omega arith))))

pub offset_bounds-g-j : goal.offset_bounds-g-j
offset_bounds-g-j c = omega (arith, count_in-most c.args.r.now)

pub bounds-g-j : goal.bounds-g-j
bounds-g-j c = omega (arith, count_in-most c.args.r.now)

pub loop-j-preserved : goal.loop-j-preserved
loop-j-preserved c = segment_to-more _ c.loop-j.j _ _ (omega (arith, count_in-most c.args.r.now)) (c.unwrap_or.ensures ∙ op_from-decoded _ _ c.decode.ensures.fault c.decode.ensures.op) c.loop-j.invariant

pub returns : goal.returns
returns c = let e : c.loop-j.j ≡ count_in c.args.r.now = omega arith in
    rw e at c.loop-j.invariant ∙ segment_to-all _
