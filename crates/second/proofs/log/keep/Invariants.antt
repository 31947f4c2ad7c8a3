-- `second::log::keep` is safe.
use Rattle.std.proofs.Common.{◌≤◌}
use Rattle.second.proofs.log.keep.Given as goal

abbrev pub invariant-loop-i : goal.invariant-loop-i
invariant-loop-i l = l.n ≤ l.i
