-- `plain_execute::execute` meets its contract. The invariant: the statements before this one are executed.
use Rattle.std.proofs.Common.{◌≡◌}
use Rattle.plain_words.specs.Shared.{shared, execute_to}
use Rattle.plain_execute.proofs.execute.Given as goal

abbrev pub invariant-loop-w : goal.invariant-loop-w
invariant-loop-w l = shared l.v l.told l.ranges ≡ execute_to l.w-items 0 l.w-index (shared l.initial.v l.initial.told l.initial.ranges)
