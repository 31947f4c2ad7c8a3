-- `reader_segment::segment_from` meets its contract. The invariant: the first j statements stand in their places.
use mathlib.Core.Path.{◌≡◌}
use Rattle.reader_segment.proofs.SegmentLaws.{segment_to}
use Rattle.reader_segment.proofs.segment_from.Given as goal

abbrev pub invariant-loop-j : goal.invariant-loop-j
invariant-loop-j l = l.g ≡ segment_to l.j l.r
