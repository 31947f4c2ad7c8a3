-- `plain_close::floor_of` meets its contract. The invariant: the least of the words looked at.
use Rattle.std.proofs.Common.{◌+◌}
use Rattle.plain_state.specs.Due.{IsLeast}
use Rattle.plain_close.proofs.floor_of.Given as goal

abbrev pub invariant-loop-w : goal.invariant-loop-w
invariant-loop-w l = IsLeast l.state l.from (l.from + l.w-index) l.start l.least
