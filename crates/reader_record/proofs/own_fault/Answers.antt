-- `reader_record::own_fault` meets its contract: a segment's length fits.
use mathlib.Core.Path.{◌≡◌, ap}
use Rattle.reader_record.specs.Kinds.{kind_number}
use Rattle.reader_record.proofs.FaultLaws.{own_fault-segment}
use Rattle.reader_record.proofs.own_fault.Goals as goal

pub returns-in-Segment : goal.returns-in-Segment
returns-in-Segment c =
    let is : kind_number c.args.kind ≡ 2 = ap kind_number c.in-Segment.is in
    own_fault-segment _ _ _ _ _ is (c.requires.0 is) c.segment_fault.ensures
