-- `model_reach::lacks` meets its contract. The invariant: the first s segments have their names and their first rows.
use mathlib.Core.Path.{◌≡◌}
use lib.ListN.{replicate}
use Rattle.model_reach.specs.Store.{ports_to, first_rows}
use Rattle.model_reach.proofs.lacks.Given as goal

abbrev pub invariant-loop-s : goal.invariant-loop-s
invariant-loop-s l = (l.names ≡ ports_to l.fn.m l.s) × (l.rows ≡ first_rows l.fn.m (replicate 64 0) l.s)
