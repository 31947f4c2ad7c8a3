-- `early_hazard::row_threatens` meets its contract: a search over the segments.
use mathlib.Core.Path.{◌≡◌}
use mathlib.Core.Bool.{false}
use Rattle.base.specs.Index.{any_below}
use Rattle.early_hazard.specs.Store.{conflicts_by}
use Rattle.early_hazard.proofs.HazardLaws.{threat_by}
use Rattle.early_hazard.proofs.row_threatens.Given as goal

abbrev pub invariant-loop-s : goal.invariant-loop-s
invariant-loop-s l =
    any_below l.s (threat_by (conflicts_by l.asker.marked l.asker.own l.asker.names.now l.fn.ports) l.row l.count 0 l.b l.j l.asker.c l.asker.i) ≡ false
