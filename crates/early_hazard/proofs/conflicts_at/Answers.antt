-- `early_hazard::conflicts_at` meets its contract: a mark, a footprint that uses nothing, or the masks.
use mathlib.Core.Path.{◌≡◌, ◌∙◌}
use native.Mathlib.Omega.{arith}
use borrow.Author.Tests.{eq-eqb}
use Rattle.early_hazard.proofs.HazardLaws.{conflicts_by-marked, conflicts_by-unused, conflicts_by-port}
use Rattle.early_hazard.proofs.conflicts_at.Goals as goal

pub returns-then-asker-s : goal.returns-then-asker-s
returns-then-asker-s c = c.if-asker-s.true ∙ conflicts_by-marked _ _ _ _ _ c.if-asker-s.true

pub returns-then-asker-ne0 : goal.returns-then-asker-ne0
returns-then-asker-ne0 c = conflicts_by-port _ _ _ _ _ _ _ c.if-asker-s.false c.footprint_of-other.ensures c.crosses.ensures

pub returns-else-asker-ne0 : goal.returns-else-asker-ne0
returns-else-asker-ne0 c =
    let a = c.args.asker.now in
    let unused : a.own.uses ≡ 0 = omega arith in
    rw (eq-eqb a.own.uses 0 unused) (conflicts_by-unused _ _ _ _ _ c.if-asker-s.false unused)
