-- `plain_close::due_of` meets its contract.
use Rattle.std.proofs.Common.{sym, ◌∙◌}
use Rattle.plain_state.proofs.DueLaws.{is_late-so}
use Rattle.plain_state.proofs.EndLaws.{due-narrow}
use Rattle.plain_close.proofs.due_of.Goals as goal

pub returns-clause-threads : goal.returns-clause-threads
returns-clause-threads c = let p = c.requires in
    let a = c.args in
    let f = c.first_late-first.ensures in
    due-narrow a.t a.state.now a.least a.from a.to _ _ p.to_le_t p.by_index (is_late-so a.least (sym c.is_late.ensures ∙ c.if-not-is_late.false)) f.order f.none c.past_late.ensures.order c.past_late.ensures.none
