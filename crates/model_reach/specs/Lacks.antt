-- Document 02, "Modules with ports": from which segments a thread could reach a port that it leaves unused, as masks.
use Rattle.std.specs.Prelude.{ℕ, ◌≤◌, ◌<◌, ◌≡◌, List, length, get_or}
use Rattle.masks.specs.Mask.{bit_at}
use Rattle.model.specs.declared.Model.{Model}
use Rattle.model.specs.Reach.{lacks_from}

-- a word for each thread, with a bit for each segment
pub record HoldsLacks (m : Model) (ws : List ℕ) : Type 0 where
  pub places : length ws ≡ 32
  pub bits : m.n ≤ 64 → (k r : ℕ) → k < 32 → r < m.n → bit_at (get_or ws k 0) r ≡ lacks_from m k r
