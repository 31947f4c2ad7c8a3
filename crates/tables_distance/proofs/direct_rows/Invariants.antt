-- `tables_distance::direct_rows` meets its contract: a row for each segment.
use mathlib.Core.Path.{◌≡◌}
use Rattle.tables_distance.specs.Store.{direct_rows}
use Rattle.tables_distance.proofs.direct_rows.Given as goal

abbrev pub invariant-loop-r : goal.invariant-loop-r
invariant-loop-r l = l.words ≡ direct_rows l.fn.m l.initial.words l.r
