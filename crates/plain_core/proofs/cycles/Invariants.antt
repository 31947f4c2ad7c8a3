-- `plain_core::cycles` meets its contract. The invariant: the locals, with the segments that stand in the rows, are a place of the model's run where a cycle begins, from which the whole run is
use Prim.Native.Nat.{◌+◌, ◌-◌, ◌*◌}
use Rattle.model.specs.declared.Model.{Model}
use Rattle.plain_words.specs.Ports.{words_for}
use Rattle.plain_words.specs.Rows.{Kept, Rowed, InRows, segments_by}
use Rattle.plain_state.specs.Turn.{locals}
use Rattle.plain_state.specs.Due.{Begins}
use Rattle.plain_state.proofs.LoopLaws.{Loop, count_at}
use Rattle.plain_state.proofs.TurnLaws.{Runs}
use Rattle.plain_core.proofs.cycles.Given as goal

abbrev pub invariant-loop-code : goal.invariant-loop-code
invariant-loop-code l = Begins l.t l.state l.told l.ranges l.due.key l.due.from l.due.to × (Rowed l.code l.held × (InRows l.held l.rows × (Kept l.initial.code l.code × ((m : Model) → Runs m l.t l.limit (words_for l.initial.code) l.initial.rows → Loop m l.budget (locals l.v l.state (segments_by l.held l.rows) l.told l.ranges l.n) l.due.key 0))))

abbrev pub decreases-loop-code : goal.decreases-loop-code
decreases-loop-code l = l.limit * (l.t + 1) - count_at l.t l.due.key 0
