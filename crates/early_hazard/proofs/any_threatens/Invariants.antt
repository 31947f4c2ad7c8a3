-- `early_hazard::any_threatens` meets its contract: a search over the threads.
use Prim.Native.Nat.{ℕ, ◌<◌}
use mathlib.Core.Path.{◌≡◌}
use mathlib.Core.Bool.{false}
use mathlib.Core.List.{List}
use lib.ListN.{length, get_or}
use Rattle.base.specs.Index.{any_below}
use Rattle.tables_row.specs.Row.{Knows}
use Rattle.early_row.specs.Lent.{is_by_steps, lent_of}
use Rattle.early_hazard.specs.Store.{threat_at}
use Rattle.early_hazard.proofs.any_threatens.Given as goal

abbrev pub invariant-loop-j : goal.invariant-loop-j
invariant-loop-j l =
    (length l.room ≡ length l.initial.room) ×
    ((ws : List ℕ) → Knows l.n ws (is_by_steps l.from) (lent_of l.from) (length l.initial.room) → ((q : ℕ) → q < l.t → get_or l.fn.segments q 0 < l.n) →
    any_below l.j (threat_at l.asker.marked l.asker.own l.asker.names.now l.fn.starts ws l.n l.fn.segments l.fn.xs.at l.asker.i l.asker.c) ≡ false)
