-- `early_lent::store` meets its contract.
use mathlib.Core.Path.{ap, ◌∙◌}
use native.Mathlib.Omega.{arith}
use lib.ListN.{drop}
use mathlib.Core.List.{List, ◌++◌}
use Rattle.model.specs.declared.Thread.{Thread}
use Rattle.model_effect.proofs.LengthLaws.{threads-length}
use Rattle.early_lent.proofs.MovedLaws.{stored-copied}
use Rattle.early_lent.proofs.store.Goals as goal

pub returns : goal.returns
returns c =
    let x = c.args in
    let many = threads-length x.from _ c.well_formed.1.1.0 in
    ap (λ (xs : List Thread). xs ++ drop x.n x.ts.now) c.copy_from_slice.ensures.after ∙ stored-copied x.ts.now x.n x.from (omega arith) (omega arith)
