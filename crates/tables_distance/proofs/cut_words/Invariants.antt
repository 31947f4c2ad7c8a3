-- `tables_distance::cut_words` meets its contract: a store, or none, for each place.
use mathlib.Core.Path.{◌≡◌}
use mathlib.Core.List.{◌++◌}
use lib.ListN.{drop}
use Rattle.tables_distance.specs.Store.{cut_to}
use Rattle.tables_distance.proofs.cut_words.Given as goal

abbrev pub invariant-loop-w : goal.invariant-loop-w
invariant-loop-w l = l.w-items ++ drop l.count l.fn.words ≡ cut_to l.fn.words l.w-index
