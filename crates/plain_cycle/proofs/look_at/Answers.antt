-- `plain_cycle::look_at` meets its contract. The thread is not ready in this cycle, the budget is out, or it runs.
use Rattle.std.proofs.Common.{ℕ, List, ◌∙◌}
use Rattle.plain_state.specs.Turn.{Locals, locals}
use Rattle.plain_state.proofs.ExitLaws.{turn_on-passed, turn_on-full, turn_on-ran, ran-as}
use Rattle.plain_cycle.proofs.look_at.Goals.{Start, then-state-turn-via-then-state-turn, then-state-turn-via-else-state-turn+then-budget-n}
use Rattle.plain_cycle.proofs.look_at.Goals as goal

-- the arrays that are lent
abbrev begun : Start → Locals
begun c = let a = c.args in locals a.v.now a.state.now a.rows.now a.told.now a.ranges.now a.n

pub returns-then-state-turn : goal.returns-then-state-turn
returns-then-state-turn c = let a = c.args in
    let words : ℕ → List ℕ = λ _. a.code.now in
    let start = begun (goal.at.returns-then-state-turn c).Start in
    elim c.then-state-turn.branch [
      | then-state-turn-via-then-state-turn w ↦ turn_on-passed words a.key a.budget a.turn start w.if-state-turn.true
      | then-state-turn-via-else-state-turn+then-budget-n w ↦ turn_on-full words a.key a.budget a.turn start w.if-budget-n.true
    ]

pub returns : goal.returns
returns c = let a = c.args in
    let words : ℕ → List ℕ = λ _. a.code.now in
    let start = begun (goal.at.returns c).Start in
    let end = c.end_of-end.ensures in
    ran-as words a.key a.turn start _ _ _ _ _ _ _ c.run-next.ensures.ran end c.wait_for.ensures c.close_word.ensures c.run-next.ensures.next ∙
    turn_on-ran words a.key a.budget a.turn start c.if-state-turn.false c.if-budget-n.false
