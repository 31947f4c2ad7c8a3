-- `reader_segment::target_bound` meets its contract, closer by closer.
use mathlib.Core.Logic.{⊎_elim}
use Rattle.reader_segment.proofs.SegmentLaws.{target_bound-end, target_bound-time, target_bound-event}
use Rattle.reader_segment.proofs.target_bound.Goals as goal

pub returns-in-End : goal.returns-in-End
returns-in-End c = target_bound-end _ _ c.closer_in.ensures c.in-End.is

pub returns-in-Time : goal.returns-in-Time
returns-in-Time c = ⊎_elim (λ w. target_bound-time _ _ c.closer_in.ensures _ _ _ w.1 c.bound_of.ensures) (λ w. target_bound-event _ _ c.closer_in.ensures _ _ _ w.1 c.bound_of.ensures) c.in-Time.is
