-- `plain_close::past_late` meets its contract. The invariant: none of the threads looked at is late.
use Rattle.std.proofs.Common.{ℕ, get_or}
use Rattle.plain_state.specs.Due.{Between, Late}
use Rattle.plain_close.proofs.past_late.Given as goal

abbrev pub invariant-loop-k : goal.invariant-loop-k
invariant-loop-k l = (i : ℕ) → Between l.k l.to i → Late (get_or l.state i 0) → ⊥
