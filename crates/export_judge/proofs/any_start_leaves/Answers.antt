-- `export_judge::any_start_leaves` meets its contract: a thread whose first segment is not below N, below t.
use mathlib.Core.Path.{refl, ◌∙◌}
use mathlib.Core.Bool.{not}
use lib.Dec.{ltb}
use native.Mathlib.Omega.{arith}
use borrow.Author.Rules.{rules}
use borrow.Author.Tests.{tests}
use Rattle.std.proofs.lemmas.Iterator.{YieldsList-from_range}
use Rattle.std.proofs.lemmas.Iterator.Search.{any_from_yields_List}
use Rattle.export_model.specs.Numbers.{number_at, count_n, start_place}
use Rattle.export_judge.proofs.JudgedLaws.{list_any-below}
use Rattle.export_judge.proofs.any_start_leaves.Goals as goal

pub returns : goal.returns
returns c =
    let a = c.args in
    any_from_yields_List (λ k. not (ltb (number_at a.xs.now (start_place a.n k)) (count_n a.xs.now))) _ _ _ c.any.ensures.ran
    (YieldsList-from_range 0 a.t a.t refl (omega arith)) (λ x b q k. search (rules, tests))
    ∙ list_any-below _ a.t
