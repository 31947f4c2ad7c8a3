-- `second::simulator::field` meets its contract.
use Rattle.std.proofs.Common.{◌<◌}
use Rattle.second.proofs.simulator.field.Given as goal

abbrev pub invariant-loop-n : goal.invariant-loop-n
invariant-loop-n l = l.x < 72057594037927936
