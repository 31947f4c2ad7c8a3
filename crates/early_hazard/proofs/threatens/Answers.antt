-- `early_hazard::threatens` meets its contract: not sooner by itself, or by the row.
use Prim.Native.Nat.{◌*◌}
use mathlib.Core.Path.{ap, sym, ◌∙◌}
use mathlib.Core.Bool.{not}
use native.Mathlib.Omega.{arith}
use borrow.Author.Tests.{not-true}
use lib.ListN.{get_or}
use Rattle.early_hazard.specs.Store.{conflicts_by}
use Rattle.early_hazard.proofs.HazardLaws.{threatens_limit-late, threatens_limit-row}
use Rattle.early_hazard.proofs.threatens.Goals as goal

pub returns-then-not-is_sooner_limit-clause-threatens : goal.returns-then-not-is_sooner_limit-clause-threatens
returns-then-not-is_sooner_limit-clause-threatens c = λ ws knows h.
    let x = c.args in
    let a = x.asker.now in
    threatens_limit-late (conflicts_by a.marked a.own a.names.now x.ports) ws x.count _ x.b x.j a.c a.i (omega arith)
    (sym c.is_sooner_limit.ensures ∙ not-true _ (ap not c.if-not-is_sooner_limit.true))

pub returns-clause-threatens : goal.returns-clause-threatens
returns-clause-threatens c = λ ws knows h.
    let x = c.args in
    let a = x.asker.now in
    c.row_threatens.ensures ∙ threatens_limit-row (conflicts_by a.marked a.own a.names.now x.ports) _ ws x.count (x.q * x.count) x.b x.j a.c a.i
    (λ s l. ap (λ row. get_or row s 0) c.part-row.ensures ∙ c.work_out.ensures.row ws knows (omega (arith, h)) s l)
