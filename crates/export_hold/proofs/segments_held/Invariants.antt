-- `export_hold::segments_held` meets its contract. The invariant: the first i segments stand in their places.
use mathlib.Core.Path.{◌≡◌}
use Rattle.model.specs.Values.{no_segment}
use Rattle.export_model.specs.Judged.{segment_held}
use Rattle.export_hold.proofs.FillLaws.{filled_to}
use Rattle.export_hold.proofs.segments_held.Given as goal

abbrev pub invariant-loop-i : goal.invariant-loop-i
invariant-loop-i l = l.segments ≡ filled_to 64 no_segment (segment_held l.xs) l.i
