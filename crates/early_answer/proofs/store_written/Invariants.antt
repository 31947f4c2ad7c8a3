-- `early_answer::store_written` meets its contract. The invariant: the first i variables are stored or left.
use mathlib.Core.Path.{◌≡◌}
use Rattle.early_answer.proofs.HeldLaws.{stored_to}
use Rattle.early_answer.proofs.store_written.Given as goal

abbrev pub invariant-loop-i : goal.invariant-loop-i
invariant-loop-i l = l.out.at ≡ stored_to l.written l.fn.v.at l.fn.w.at l.i
