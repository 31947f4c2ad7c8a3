-- `plain_close::end_cycle` meets its contract.
use Rattle.std.proofs.Common.{◌∙◌}
use Rattle.plain_execute.proofs.OrderLaws.{min-lesser, max-greater}
use Rattle.plain_state.proofs.EndLaws.{Hull, hull-of, hull-woken, hull-ahead}
use Rattle.plain_close.proofs.end_cycle.Goals.{After-min-past}
use Rattle.plain_close.proofs.end_cycle.Goals as goal

-- the threads that it looks at
hull-here : (c : After-min-past) → let a = c.args in
    Hull a.t a.ranges.now a.due.from a.due.to c.min-first.result c.min-past.result
hull-here c = let a = c.args in
    let ends = c.requires.ends in
    hull-of a.t a.ranges.now a.due.from a.due.to _ _ _ ends.order ends.inside (c.min-first.ensures ∙ min-lesser _ _) (c.max.ensures ∙ max-greater _ _) (c.min-past.ensures ∙ min-lesser _ _)

pub least_of-least-requires-clause-by_index : goal.least_of-least-requires-clause-by_index
least_of-least-requires-clause-by_index c = let a = c.args in
    let hull = hull-here (goal.at.least_of-least-requires-clause-by_index c).After-min-past in
    hull-ahead a.t a.state.now a.told.now a.ranges.now a.due.key a.due.from a.due.to _ _ c.requires.ends hull c.requires.key_bound _ _ c.wake-near.ensures c.requires.by_index

pub returns-clause-words : goal.returns-clause-words
returns-clause-words c = let a = c.args in
    let hull = hull-here (goal.at.returns-clause-words c).After-min-past in
    hull-woken a.t a.state.now a.told.now a.ranges.now a.due.key a.due.from a.due.to _ _ c.requires.ends hull c.requires.key_bound _ _ c.wake-near.ensures
