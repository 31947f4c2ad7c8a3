-- `reader_segment::record_names` meets its contract. The invariant: the first j statements name no port.
use Prim.Native.Nat.{◌+◌, ◌*◌, ◌≤◌}
use mathlib.Core.Path.{◌≡◌, sym, ap, ◌∙◌}
use native.Mathlib.Omega.{arith}
use lib.ListN.{length, length-drop}
use borrow.Author.Count.{below_none, below_more}
use Rattle.reader_segment.specs.Parts.{count_in, test_names}
use Rattle.reader_segment.proofs.SegmentLaws.{part-rest, count_in-left}
use Rattle.reader_segment.proofs.NamedLaws.{op_names_at-is, record_names-here, record_names-none}
use Rattle.reader_segment.proofs.record_names.Goals.{In-loop-j}
use Rattle.reader_segment.proofs.record_names.Goals as goal

-- the bytes of the statement are there
left : (c : In-loop-j) → 23 + 6 * c.loop-j.j ≤ length c.args.r.now
left c = count_in-left c.args.r.now c.loop-j.j (omega (arith, c.count_in-j-end.ensures))

pub loop-j-init : goal.loop-j-init
loop-j-init c = below_none _

pub overflow_mul-at : goal.overflow_mul-at
overflow_mul-at c = omega (arith, left c)

pub overflow_add-at : goal.overflow_add-at
overflow_add-at c = omega (arith, left c)

pub slice_bounds-op_names-count : goal.slice_bounds-op_names-count
slice_bounds-op_names-count c = omega (arith, left c)

pub slice_bounds-op_names-start : goal.slice_bounds-op_names-start
slice_bounds-op_names-start c = omega (arith, left c)

pub op_names-requires : goal.op_names-requires
op_names-requires c = rw part-rest (simp length-drop (omega (arith, left (goal.at.op_names-requires c).In-loop-j)))

pub returns-then-op_names : goal.returns-then-op_names
returns-then-op_names c =
    record_names-here _ c.loop-j.j (omega (arith, c.count_in-j-end.ensures)) (op_names_at-is _ c.loop-j.j _ (sym c.op_names.ensures ∙ c.if-op_names.true))

pub loop-j-preserved : goal.loop-j-preserved
loop-j-preserved c =
    below_more _ _ c.loop-j.invariant (op_names_at-is _ c.loop-j.j _ (sym c.op_names.ensures ∙ c.if-op_names.false))

pub returns : goal.returns
returns c =
    let e : c.loop-j.j ≡ count_in c.args.r.now = omega (arith, c.count_in-j-end.ensures) in
    c.test_names.ensures ∙ (ap test_names c.closer_in.ensures ∙ record_names-none _ (λ i h. c.loop-j.invariant i (rw e h)))
