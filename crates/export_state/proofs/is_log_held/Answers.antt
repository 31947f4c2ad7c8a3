-- `export_state::is_log_held` meets its contract: the length, the count, and each place below the count.
use mathlib.Core.Path.{◌≡◌, refl, ◌∙◌}
use mathlib.Core.Bool.{not}
use native.Mathlib.Omega.{arith}
use lib.ListN.{get_or}
use borrow.Author.Rules.{rules}
use borrow.Author.Tests.{tests}
use Rattle.std.proofs.lemmas.Iterator.{YieldsList-from_range}
use Rattle.std.proofs.lemmas.Iterator.Search.{all_from_yields_List}
use Rattle.base.specs.Index.{any_below}
use Rattle.export_state.specs.Numbers.{is_pair_held, is_log_held}
use Rattle.export_state.proofs.HeldLaws.{list_all-below}
use Rattle.export_state.proofs.is_log_held.Goals as goal

pub returns-then-log-le128 : goal.returns-then-log-le128
unfolding is_log_held
returns-then-log-le128 c =
    let ws = c.args.log.now in
    let n = get_or ws 0 0 in
    let all : c.all.result ≡ not (any_below n (λ i. not (is_pair_held ws i))) =
    all_from_yields_List (is_pair_held ws) _ _ _ c.all.ensures.ran (YieldsList-from_range 0 n n refl (omega arith)) (λ x b q k. search (rules, tests))
    ∙ list_all-below (is_pair_held ws) n in
    grind arith

pub returns-else-log-le128 : goal.returns-else-log-le128
unfolding is_log_held
returns-else-log-le128 c = grind arith
