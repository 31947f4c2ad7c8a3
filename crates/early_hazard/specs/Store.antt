-- How the code goes over the threads of a hazard. Only private contracts cite this.
use Rattle.std.specs.Prelude.{ℕ, ◌*◌, Bool, false, not, ◌&&◌, ◌||◌, List, eqb, get_or}
use Rattle.model.specs.declared.Start.{Start}
use Rattle.tables.specs.Word.{all_ones}
use Rattle.early_ports.specs.declared.Footprint.{Footprint}
use Rattle.early_ports.specs.Cross.{footprint_of, crosses, ports_in}
use Rattle.early_limits.specs.Ahead.{threatens_limit}

-- whether the asker, with its own footprint, conflicts in segment s with a thread of ports ps: by its marks, or through a port
unfoldable pub conflicts_by : List Bool → Footprint → List ℕ → List ℕ → ℕ → Bool
conflicts_by marked own names ps s = get_or marked s false || crosses own (footprint_of names ps s)

-- whether thread j, another than i, threatens i at c by a segment that conflicts
unfoldable pub threat_at : List Bool → Footprint → List ℕ → List Start → List ℕ → ℕ → List ℕ → List ℕ → ℕ → ℕ → ℕ → Bool
threat_at marked own names starts ws n segments xs i c j =
    not (eqb j i) && threatens_limit (conflicts_by marked own names (ports_in starts j)) ws n (get_or segments j 0 * n) (get_or xs j all_ones) j c i
