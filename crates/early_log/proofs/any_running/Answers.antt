-- `early_log::any_running` meets its contract.
use Rattle.std.proofs.Common.{rules, ◌∙◌, ap, take, arith}
use Rattle.std.proofs.lemmas.Iterator.{YieldsList-from_slice}
use Rattle.std.proofs.lemmas.Iterator.Search.{any_from_yields_List}
use borrow.Author.Tests.{tests}
use Rattle.model.specs.declared.Thread.{Thread}
use Rattle.model.specs.Record.{no_thread, thread_at, is_running}
use Rattle.model_effect.proofs.LengthLaws.{threads-length}
use Rattle.early_log.proofs.AnyLaws.{list_any-below}
use Rattle.early_log.proofs.any_running.Goals as goal

pub returns : goal.returns
unfolding thread_at
returns c =
    let x = c.args in
    let size = threads-length x.threads _ c.well_formed.0 in
    any_from_yields_List (λ (y : Thread). is_running y.state) _ _ _ c.any.ensures.ran (YieldsList-from_slice (take x.t x.threads.at) (c.iter.ensures.rest ∙ ap (λ n. take n x.threads.at) c.from-n.ensures)) (λ y b q k. search (rules, tests))
    ∙ list_any-below (λ (y : Thread). is_running y.state) x.threads.at no_thread x.t (omega arith)
