-- `early_log::places_with` meets its contract. The invariant: the places with the pairs of the first j events are counted.
use Prim.Native.Nat.{◌≤◌, ◌+◌}
use mathlib.Core.Path.{◌≡◌}
use lib.ListN.{take}
use Rattle.early.specs.Log.{places_with}
use Rattle.early_log.proofs.places_with.Given as goal

abbrev pub invariant-loop-j : goal.invariant-loop-j
invariant-loop-j l = (l.total ≤ 128 + l.j) × (l.total ≡ places_with l.log l.c (take l.j l.fn.events.at))
