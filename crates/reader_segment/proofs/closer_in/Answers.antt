-- `reader_segment::closer_in` meets its contract.
use mathlib.Core.Path.{◌≡◌, sym, ◌∙◌}
use mathlib.Core.Bool.{true}
use native.Mathlib.Omega.{arith}
use lib.ListN.{length-drop}
use borrow.Author.Tests.{not-true, not-false}
use Rattle.reader_segment.specs.Parts.{fits}
use Rattle.reader_segment.proofs.SegmentLaws.{part-rest, fits-length, closer_in-fits, closer_in-misfit}
use mathlib.Core.Path.{ap}
use mathlib.Core.Bool.{not}
use Rattle.reader_segment.proofs.closer_in.Goals.{Else-not-segment_length_fits}
use Rattle.reader_segment.proofs.closer_in.Goals as goal

fit : (c : Else-not-segment_length_fits) → fits c.args.r.now ≡ true
fit c = sym c.segment_length_fits.ensures ∙ not-false _ (ap not c.if-not-segment_length_fits.false)

pub returns-then-not-segment_length_fits : goal.returns-then-not-segment_length_fits
returns-then-not-segment_length_fits c = closer_in-misfit _ (sym c.segment_length_fits.ensures ∙ not-true _ (ap not c.if-not-segment_length_fits.true))

pub slice_bounds-closer_from-count : goal.slice_bounds-closer_from-count
slice_bounds-closer_from-count c = omega (arith, (fits-length c.args.r.now (fit c)).0)

pub slice_bounds-closer_from-start : goal.slice_bounds-closer_from-start
slice_bounds-closer_from-start c = omega (arith, (fits-length c.args.r.now (fit c)).0)

pub closer_from-requires : goal.closer_from-requires
closer_from-requires c = rw part-rest (simp length-drop (omega (arith, (fits-length c.args.r.now (fit (goal.at.closer_from-requires c).Else-not-segment_length_fits)).0)))

pub returns : goal.returns
returns c = closer_in-fits _ _ (fit (goal.at.returns c).Else-not-segment_length_fits) c.closer_from.ensures
