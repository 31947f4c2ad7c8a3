-- `early_answer::segment_of` meets its contract.
use native.Mathlib.Omega.{arith}
use borrow.Author.Tests.{lt-ltb}
use Rattle.model.specs.Record.{thread_at}
use Rattle.early_answer.proofs.segment_of.Goals as goal

pub returns-then-k-t : goal.returns-then-k-t
unfolding thread_at
returns-then-k-t c = rw (lt-ltb c.args.k c.args.t (omega arith), ← c.from.ensures) c.from-then-k-t.ensures
