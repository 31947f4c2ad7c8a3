-- `early_reach::lower_row` meets its contract: a store for each note, but for a way that is never.
use Prim.Native.Nat.{ℕ, ◌≤◌}
use lib.ListN.{get_or}
use Rattle.early_reach.specs.Store.{Places, row_lowered}
use Rattle.early_reach.proofs.lower_row.Given as goal

abbrev pub invariant-loop-note : goal.invariant-loop-note
invariant-loop-note l =
    Places (row_lowered l.notes l.note-index l.row 0 l.r) l.initial.reach l.reach × ((j : ℕ) → get_or l.initial.reach j 0 ≤ 18446744073709551615)
