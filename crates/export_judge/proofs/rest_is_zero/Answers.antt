-- `export_judge::rest_is_zero` meets its contract: the six numbers after the kind.
use Prim.Native.Nat.{◌+◌}
use mathlib.Core.Path.{◌≡◌}
use lib.Dec.{eqb}
use borrow.Author.Rules.{rules}
use borrow.Author.Tests.{tests}
use Rattle.std.proofs.lemmas.Iterator.{YieldsList-from_slice}
use Rattle.std.proofs.lemmas.Iterator.Search.{all_from_yields_List}
use Rattle.std.specs.List.{list_all, slice_range}
use Rattle.export_judge.proofs.JudgedLaws.{rest-zero}
use Rattle.export_judge.proofs.rest_is_zero.Goals as goal

pub returns : goal.returns
returns c =
    let a = c.args in
    let e : c.all.result ≡ list_all (λ x. eqb x 0) (slice_range a.xs.now (a.p + 1) (a.p + 7)) =
    all_from_yields_List _ _ _ c.all.result c.all.ensures.ran (YieldsList-from_slice _ c.iter.ensures.rest) (λ x b q k. search (rules, tests)) in
    rest-zero a.xs.now a.p _ c.requires e
