-- `export_judge::ports_fault` meets its contract: the eight numbers from p on.
use Prim.Native.Nat.{◌+◌}
use mathlib.Core.Path.{◌≡◌, ◌∙◌}
use mathlib.Core.Bool.{◌||◌}
use lib.Dec.{eqb, ltb}
use borrow.Author.Rules.{rules}
use borrow.Author.Tests.{tests}
use Rattle.std.proofs.lemmas.Iterator.{YieldsList-from_slice}
use Rattle.std.proofs.lemmas.Iterator.Search.{all_from_yields_List}
use Rattle.std.specs.List.{list_all, slice_range}
use Rattle.export_model.specs.Numbers.{number_at}
use Rattle.export_judge.proofs.JudgedLaws.{ports-kept}
use Rattle.export_judge.proofs.ports_fault.Goals as goal

pub returns : goal.returns
returns c =
    let a = c.args in
    let e : c.all-kept.result ≡ list_all (λ x. eqb x 255 || ltb x (number_at a.xs.now 1)) (slice_range a.xs.now a.p (a.p + 8)) =
    all_from_yields_List _ _ _ c.all-kept.result c.all-kept.ensures.ran (YieldsList-from_slice _ c.iter.ensures.rest) (λ x b q k. search (rules, tests)) in
    c.unless.ensures ∙ ports-kept a.xs.now a.p _ _ c.requires.1 e
