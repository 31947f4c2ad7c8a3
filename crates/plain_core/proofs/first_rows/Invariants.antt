-- `plain_core::first_rows` meets its contract.
use Prim.Native.Nat.{ℕ, ◌<◌, ◌%◌}
use mathlib.Core.Path.{◌≡◌}
use lib.ListN.{length, get_or}
use Rattle.model.specs.Values.{start_at}
use Rattle.plain_core.proofs.first_rows.Given as goal

abbrev pub invariant-loop-k : goal.invariant-loop-k
invariant-loop-k l = (length l.rows ≡ 32) × ((i : ℕ) → i < l.k → get_or l.rows i 0 ≡ (start_at l.fn.m i).first % 64)
