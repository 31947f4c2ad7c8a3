-- `export_state::are_records_held` meets its contract: the length, and each record.
use mathlib.Core.Path.{◌≡◌, refl, ◌∙◌}
use mathlib.Core.Bool.{not}
use native.Mathlib.Omega.{arith}
use borrow.Author.Rules.{rules}
use borrow.Author.Tests.{tests}
use Rattle.std.proofs.lemmas.Iterator.{YieldsList-from_range}
use Rattle.std.proofs.lemmas.Iterator.Search.{all_from_yields_List}
use Rattle.base.specs.Index.{any_below}
use Rattle.export_state.specs.Numbers.{is_record_held, are_records_held}
use Rattle.export_state.proofs.HeldLaws.{list_all-below}
use Rattle.export_state.proofs.are_records_held.Goals as goal

pub returns-then-n-records : goal.returns-then-n-records
unfolding are_records_held
returns-then-n-records c =
    let ws = c.args.records.now in
    let n = c.from-n.result in
    let all : c.all.result ≡ not (any_below n (λ k. not (is_record_held ws k))) =
    all_from_yields_List (is_record_held ws) _ _ _ c.all.ensures.ran (YieldsList-from_range 0 n n refl (omega arith)) (λ x b q k. search (rules, tests))
    ∙ list_all-below (is_record_held ws) n in
    grind arith

pub returns-else-n-records : goal.returns-else-n-records
unfolding are_records_held
returns-else-n-records c = grind arith
