-- `export_hold::segment_held` meets its contract. The invariant: the first j statements stand in their places.
use mathlib.Core.Path.{◌≡◌}
use Prim.Native.Nat.{◌≤◌}
use Rattle.export_hold.proofs.FillLaws.{segment_to}
use Rattle.export_hold.proofs.segment_held.Given as goal

abbrev pub invariant-loop-j : goal.invariant-loop-j
invariant-loop-j l = (l.n ≤ 32) × (l.g ≡ segment_to l.xs l.i l.j)
