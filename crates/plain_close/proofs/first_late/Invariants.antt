-- `plain_close::first_late` meets its contract. The invariant: none of the threads looked at is late.
use Rattle.std.proofs.Common.{ℕ, get_or}
use Rattle.plain_state.specs.Due.{Between, Late}
use Rattle.plain_close.proofs.first_late.Given as goal

abbrev pub invariant-loop-k : goal.invariant-loop-k
invariant-loop-k l = (i : ℕ) → Between l.from l.k i → Late (get_or l.state i 0) → ⊥
