-- `early_reach::lower_all` meets its contract: row after row.
use Prim.Native.Nat.{ℕ}
use mathlib.Core.Path.{◌≡◌}
use mathlib.Core.List.{List}
use lib.ListN.{length}
use Rattle.tables_row.specs.Row.{Knows}
use Rattle.early_row.specs.Lent.{is_by_steps, lent_of}
use Rattle.early_reach.specs.Store.{Places, rows_lowered}
use Rattle.early_reach.proofs.lower_all.Given as goal

abbrev pub invariant-loop-r : goal.invariant-loop-r
invariant-loop-r l =
    (length l.room ≡ length l.initial.room) ×
    (length l.reach ≡ length l.initial.reach) ×
    ((ws : List ℕ) → Knows l.count ws (is_by_steps l.from) (lent_of l.from) (length l.initial.room)
    → Places (rows_lowered l.notes (length l.notes) ws l.count l.r) l.initial.reach l.reach)
