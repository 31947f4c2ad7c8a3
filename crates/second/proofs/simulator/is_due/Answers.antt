-- `second::simulator::is_due` meets its contract.
use Rattle.std.proofs.Common.{arith}
use Rattle.second.specs.Desk.{is_due_in}
use Rattle.second.proofs.simulator.is_due.Goals as goal

pub returns-in-2 : goal.returns-in-2
unfolding is_due_in
returns-in-2 c = grind arith

pub returns-in_default : goal.returns-in_default
unfolding is_due_in
returns-in_default c = grind arith
