-- Document 01, "Tables": "Stored as time × 1,024 + delta in a 64-bit word, 'never' as all ones, N × N words for N segments.
-- The word from r to s stands at place r × N + s; words past them are not touched."
use Rattle.std.specs.Prelude.{ℕ, ◌+◌, ◌*◌, ◌-◌, ◌/◌, ◌%◌, ◌^◌, ◌<◌, cond, List, [], ◌∷◌, ◌++◌, eqb, get_or, drop}
use Rattle.base.specs.Index.{tabulate}
use Rattle.clock.specs.declared.Bound.{Bound}
use Rattle.clock.specs.declared.Bound.TheVariants.{Never, At}
use Rattle.clock.specs.Cycle.{cycle_at}
use Rattle.model.specs.declared.Model.{Model}
use Rattle.tables.specs.Distance.{distance_table, cell, cut, IsDistance}

abbrev pub all_ones : ℕ
all_ones = 2 ^ 64 - 1

unfoldable pub word_of : Bound → ℕ
word_of Never = all_ones
word_of (At c) = c.time.0 * 1024 + c.delta.0

unfoldable pub bound_of : ℕ → Bound
bound_of w = cond (eqb w all_ones) Never (At (cycle_at (w / 1024) (w % 1024)))

-- the N × N words that the reader makes
unfoldable pub joined : List (List ℕ) → List ℕ
joined [] = []
joined (r ∷ rs) = r ++ joined rs

unfoldable pub words_of : Model → List ℕ
words_of m =
    let t = distance_table m in
    joined (tabulate m.n 0 (λ r. tabulate m.n 0 (λ s. word_of (cut (cell t r s)))))

-- a table buffer after they are stored
unfoldable pub stored : Model → List ℕ → List ℕ
stored m buffer = words_of m ++ drop (m.n * m.n) buffer

-- the distance from r to s that the words say
unfoldable pub distance_in : Model → List ℕ → ℕ → ℕ → Bound
distance_in m ws r s = bound_of (get_or ws (r * m.n + s) 0)

-- the first N × N words say of each two segments "the least advance over all paths"
pub record HoldsDistances (m : Model) (ws : List ℕ) : Type 0 where
  pub each : (r s : ℕ) → r < m.n → s < m.n → IsDistance m r s (distance_in m ws r s)
