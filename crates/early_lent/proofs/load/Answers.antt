-- `early_lent::load` meets its contract.
use mathlib.Core.Path.{ap, ◌∙◌}
use native.Mathlib.Omega.{arith}
use lib.ListN.{drop}
use mathlib.Core.List.{List, ◌++◌}
use Rattle.model.specs.declared.Thread.{Thread}
use Rattle.model_effect.proofs.LengthLaws.{threads-length}
use Rattle.early_lent.proofs.MovedLaws.{loaded-copied}
use Rattle.early_lent.proofs.load.Goals as goal

pub returns : goal.returns
returns c =
    let x = c.args in
    let many = threads-length x.to _ c.well_formed.1.1.0 in
    let copied = ap (λ (xs : List Thread). xs ++ drop x.n x.to.at) c.copy_from_slice.ensures.after ∙ loaded-copied x.ts.now x.n x.to (omega arith) (omega arith) in
    ap (λ (xs : List Thread). record { at = xs }) copied
