-- `plain_core::threads_of` meets its contract.
use mathlib.Core.Path.{◌≡◌}
use Rattle.plain_state.specs.Words.{threads_to}
use Rattle.plain_core.proofs.threads_of.Given as goal

abbrev pub invariant-loop-k : goal.invariant-loop-k
invariant-loop-k l = l.ts.at ≡ threads_to l.state l.segments l.k
