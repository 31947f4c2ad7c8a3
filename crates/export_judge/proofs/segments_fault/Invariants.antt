-- `export_judge::segments_fault` meets its contract. The invariant: the first i segments have no fault.
use mathlib.Core.Path.{◌≡◌}
use Rattle.base.specs.Index.{first_below}
use Rattle.export_model.specs.Judged.{segment_numbers_fault}
use Rattle.export_judge.proofs.segments_fault.Given as goal

abbrev pub invariant-loop-i : goal.invariant-loop-i
invariant-loop-i l = first_below l.i (λ j. segment_numbers_fault l.xs j) ≡ 0
