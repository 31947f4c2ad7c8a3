-- `plain_cycle::run_cycle` meets its contract. The invariant: the threads before this one are looked at; those before the first are not due.
use Rattle.std.proofs.Common.{◌≡◌}
use Rattle.plain_state.specs.Turn.{locals, turns_to}
use Rattle.plain_cycle.proofs.run_cycle.Given as goal

abbrev pub invariant-loop-turn : goal.invariant-loop-turn
invariant-loop-turn l = locals l.v l.state l.rows l.told l.ranges l.n ≡ turns_to (λ _. l.code) l.due.key l.budget l.turn (locals l.initial.v l.initial.state l.initial.rows l.initial.told l.initial.ranges l.initial.n)
