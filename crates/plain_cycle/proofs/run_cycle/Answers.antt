-- `plain_cycle::run_cycle` meets its contract.
use Rattle.std.proofs.Common.{◌≡◌, arith}
use Rattle.plain_state.proofs.ExitLaws.{turns_to-next}
use Rattle.plain_state.proofs.DueLaws.{turns_to-idle}
use Rattle.plain_cycle.proofs.run_cycle.Goals as goal

pub loop-turn-init : goal.loop-turn-init
loop-turn-init c = turns_to-idle (λ _. c.args.code.now) c.args.due.key c.args.budget _ c.args.due.from c.requires.by_index

pub loop-turn-preserved : goal.loop-turn-preserved
loop-turn-preserved c = turns_to-next _ _ _ _ _ _ _ c.loop-turn.invariant c.look_at-n.ensures

pub returns : goal.returns
returns c = let e : c.loop-turn.turn ≡ c.args.due.to = omega arith in rw (← e) c.loop-turn.invariant
