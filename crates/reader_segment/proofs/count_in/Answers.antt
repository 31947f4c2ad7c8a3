-- `reader_segment::count_in` meets its contract.
use mathlib.Core.Path.{◌≡◌, sym, ◌∙◌}
use mathlib.Core.Bool.{true}
use native.Mathlib.Omega.{arith}
use borrow.Author.Tests.{not-true, not-false}
use Rattle.reader_segment.specs.Parts.{fits}
use Rattle.reader_segment.proofs.SegmentLaws.{fits-length, count_in-fits, count_in-misfit}
use mathlib.Core.Path.{ap}
use mathlib.Core.Bool.{not}
use Rattle.reader_segment.proofs.count_in.Goals.{Else-not-segment_length_fits}
use Rattle.reader_segment.proofs.count_in.Goals as goal

fit : (c : Else-not-segment_length_fits) → fits c.args.r.now ≡ true
fit c = sym c.segment_length_fits.ensures ∙ not-false _ (ap not c.if-not-segment_length_fits.false)

pub returns-then-not-segment_length_fits : goal.returns-then-not-segment_length_fits
returns-then-not-segment_length_fits c = count_in-misfit _ (sym c.segment_length_fits.ensures ∙ not-true _ (ap not c.if-not-segment_length_fits.true))

pub overflow_sub-result : goal.overflow_sub-result
overflow_sub-result c = omega (arith, (fits-length c.args.r.now (fit c)).0)

pub returns : goal.returns
returns c = count_in-fits _ (fit c)
