-- `early_ahead::relaxed_limits` meets its contract: a store for each thread.
use Rattle.early_ahead.proofs.AheadLaws.{RelaxedTo}
use Rattle.early_ahead.proofs.relaxed_limits.Given as goal

abbrev pub invariant-loop-k : goal.invariant-loop-k
invariant-loop-k l = RelaxedTo l.reach l.crew l.xs.at l.t l.k l.out.at
