-- `export_judge::any_segment_leaves` meets its contract: a segment that leaves the model, below n.
use mathlib.Core.Path.{refl, ◌∙◌}
use native.Mathlib.Omega.{arith}
use borrow.Author.Rules.{rules}
use borrow.Author.Tests.{tests}
use Rattle.std.proofs.lemmas.Iterator.{YieldsList-from_range}
use Rattle.std.proofs.lemmas.Iterator.Search.{any_from_yields_List}
use Rattle.model.specs.Rules.{leaves_model}
use Rattle.export_model.specs.Numbers.{count_n, segment_place, closer_held}
use Rattle.export_judge.proofs.JudgedLaws.{list_any-below}
use Rattle.export_judge.proofs.any_segment_leaves.Goals as goal

pub returns : goal.returns
returns c =
    let a = c.args in
    any_from_yields_List (λ i. leaves_model (count_n a.xs.now) (closer_held a.xs.now (segment_place i))) _ _ _ c.any.ensures.ran
    (YieldsList-from_range 0 a.n a.n refl (omega arith)) (λ x b q k. search (rules, tests))
    ∙ list_any-below _ a.n
