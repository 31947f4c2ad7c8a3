-- `second::issue::floor` meets its contract.
use Rattle.std.proofs.Common.{◌≡◌}
use Rattle.second.specs.Desk.{floor_to}
use Rattle.second.proofs.issue.floor.Given as goal

abbrev pub invariant-loop-k : goal.invariant-loop-k
invariant-loop-k l = l.least ≡ floor_to l.desk l.k
