-- `export_numbers::put_segments` meets its contract. The invariant: the numbers of the first i segments.
use mathlib.Core.Path.{◌≡◌}
use lib.Seq.{sets}
use Rattle.model.specs.Values.{segment_at}
use Rattle.writer.specs.Bytes.{joined}
use Rattle.export_model.specs.Numbers.{segment_numbers}
use Rattle.export_numbers.proofs.put_segments.Given as goal

abbrev pub invariant-loop-i : goal.invariant-loop-i
invariant-loop-i l = l.xs ≡ sets l.initial.xs 5 (joined l.i 0 (λ k. segment_numbers (segment_at l.fn.m k)))
