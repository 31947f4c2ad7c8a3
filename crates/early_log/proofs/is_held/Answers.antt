-- `early_log::is_held` meets its contract.
use Rattle.std.proofs.Common.{rules, ◌∙◌}
use Rattle.std.proofs.lemmas.Iterator.{YieldsList-from_slice}
use Rattle.std.proofs.lemmas.Iterator.Search.{any_from_yields_List}
use borrow.Author.Tests.{tests}
use Rattle.clock.specs.Cycle.{is_same}
use Rattle.early.specs.declared.Notification.{Notification}
use Rattle.early.specs.Log.{pair_of, is_same_pair}
use Rattle.early_log.proofs.AnyLaws.{list_any-holds}
use Rattle.early_log.proofs.is_held.Goals as goal

pub returns : goal.returns
unfolding is_same_pair is_same
returns c =
    let x = c.args in
    any_from_yields_List (λ (y : Notification). is_same_pair y (pair_of x.e x.c)) _ _ _ c.any.ensures.ran (YieldsList-from_slice x.log.now cc) (λ y b q k. search (rules, tests))
    ∙ list_any-holds x.log.now (pair_of x.e x.c)
