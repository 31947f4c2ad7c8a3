-- `export_state::state_from` meets its contract: the state of each number.
use native.Mathlib.Omega.{arith}
use Rattle.export_state.specs.Numbers.{state_from}
use Rattle.export_state.proofs.state_from.Goals as goal

pub returns-in-0 : goal.returns-in-0
unfolding state_from
returns-in-0 c = grind arith

pub returns-in-1 : goal.returns-in-1
unfolding state_from
returns-in-1 c = grind arith

pub returns-in-2 : goal.returns-in-2
unfolding state_from
returns-in-2 c = grind arith

pub returns-in-3 : goal.returns-in-3
unfolding state_from
returns-in-3 c = grind arith

pub returns-in_default : goal.returns-in_default
unfolding state_from
returns-in_default c = grind arith
