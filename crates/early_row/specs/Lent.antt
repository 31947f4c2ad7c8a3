-- What is lent for distances, as `Knows` tells it: whether rows are worked out from steps, and the words.
use Rattle.std.specs.Prelude.{ℕ, ◌*◌, Bool, true, false, List, drop}
use Rattle.early_row.specs.declared.Distances.{Distances}
use Rattle.early_row.specs.declared.Distances.TheVariants.{Table, Steps}

abbrev pub is_by_steps : Distances → Bool
is_by_steps (Table words) = false
is_by_steps (Steps steps) = true

abbrev pub lent_of : Distances → List ℕ
lent_of (Table words) = words.now
lent_of (Steps steps) = steps.now

-- where the row of segment r of n stands: a part of the words, or the room in which it is worked out
abbrev pub row_of : Distances → ℕ → ℕ → List ℕ → List ℕ
row_of (Table words) n r room = drop (r * n) words.now
row_of (Steps steps) n r room = room
