-- `reader_segment::segment_fault` meets its contract: 3, then the closer's faults, then the statements'.
use mathlib.Core.Path.{◌≡◌, refl, sym, ◌∙◌}
use Rattle.std.proofs.lemmas.Result.{err_from_is_err_and}
use Rattle.refusal.proofs.NumberLaws.{number_of-not_0}
use mathlib.Core.Bool.{true}
use native.Mathlib.Omega.{arith}
use lib.ListN.{length-drop}
use borrow.Author.Tests.{not-true, not-false}
use Rattle.reader_segment.specs.Parts.{fits}
use Rattle.reader_segment.proofs.SegmentLaws.{part-rest, fits-length, segment_record_fault-length, segment_record_fault-closer, segment_record_fault-statements}
use mathlib.Core.Path.{ap}
use mathlib.Core.Bool.{not}
use Rattle.reader_segment.proofs.segment_fault.Goals.{Else-not-segment_length_fits}
use Rattle.reader_segment.proofs.segment_fault.Goals as goal

fit : (c : Else-not-segment_length_fits) → fits c.args.r.now ≡ true
fit c = sym c.segment_length_fits.ensures ∙ not-false _ (ap not c.if-not-segment_length_fits.false)

pub returns-then-not-segment_length_fits : goal.returns-then-not-segment_length_fits
returns-then-not-segment_length_fits c = segment_record_fault-length _ _ _ (sym c.segment_length_fits.ensures ∙ not-true _ (ap not c.if-not-segment_length_fits.true))

pub slice_bounds-closer_bytes_fault-count : goal.slice_bounds-closer_bytes_fault-count
slice_bounds-closer_bytes_fault-count c = omega (arith, (fits-length c.args.r.now (fit c)).0)

pub slice_bounds-closer_bytes_fault-start : goal.slice_bounds-closer_bytes_fault-start
slice_bounds-closer_bytes_fault-start c = omega (arith, (fits-length c.args.r.now (fit c)).0)

pub closer_bytes_fault-requires : goal.closer_bytes_fault-requires
closer_bytes_fault-requires c = rw part-rest (simp length-drop (omega (arith, (fits-length c.args.r.now (fit (goal.at.closer_bytes_fault-requires c).Else-not-segment_length_fits)).0)))

pub statements_fault-requires : goal.statements_fault-requires
statements_fault-requires c = fits-length c.args.r.now (fit (goal.at.statements_fault-requires c).Else-not-segment_length_fits)

pub returns-in_err-closer_bytes_fault : goal.returns-in_err-closer_bytes_fault
returns-in_err-closer_bytes_fault c =
    let p = err_from_is_err_and c.from_residual.result c.from_residual.ensures.1 in
    rw (p.1, p.2)
    (segment_record_fault-closer _ _ _ (fit (goal.at.returns-in_err-closer_bytes_fault c).Else-not-segment_length_fits) _ c.in_err-closer_bytes_fault.ensures (number_of-not_0 c.in_err-closer_bytes_fault.field-0.0))

pub returns : goal.returns
returns c = segment_record_fault-statements _ _ _ (fit (goal.at.returns c).Else-not-segment_length_fits) 0 c.in_ok-closer_bytes_fault.ensures _ refl c.statements_fault.ensures
