-- `writer_segment::put_closer` meets its contract. Closer by closer.
use Rattle.writer.specs.Bytes.{closer_bytes}
use Rattle.writer_segment.proofs.SegmentLaws.{closer_bytes-end}
use Rattle.writer_segment.proofs.put_closer.Goals as goal

pub returns-in-End : goal.returns-in-End
returns-in-End c =
    rw (← closer_bytes-end c.args.closer c.in-End.is) c.put_wait.ensures

pub returns-in-Time : goal.returns-in-Time
unfolding closer_bytes
returns-in-Time c = rw c.in-Time.is c.put_wait-in-Time.ensures

pub returns-in-Event : goal.returns-in-Event
unfolding closer_bytes
returns-in-Event c = rw c.in-Event.is c.put_wait-in-Event.ensures
