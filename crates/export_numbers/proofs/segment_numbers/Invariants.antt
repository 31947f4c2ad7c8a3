-- `export_numbers::segment_numbers` meets its contract. The invariant: the closer, n and the first j statements, and 0 past them.
use mathlib.Core.Path.{◌≡◌}
use lib.ListN.{replicate}
use lib.Seq.{sets}
use Rattle.export_numbers.proofs.IntoLaws.{front_to}
use Rattle.export_numbers.proofs.segment_numbers.Given as goal

abbrev pub invariant-loop-j : goal.invariant-loop-j
invariant-loop-j l = l.numbers ≡ sets (replicate 104 0) 0 (front_to l.fn.g l.j)
