-- Document 02, "Modules with ports": "a conflict through a port", on masks. The laws of this crate say that it is `ports_conflict` of `early`.
use Rattle.std.specs.Prelude.{ℕ, zero, suc, ◌+◌, Bool, not, cond, ◌||◌, List, ltb, eqb, get_or}
use Rattle.std.specs.Int.Bits.{bit_and, bit_or}
use Rattle.masks.specs.Mask.{bit_at, with_bit}
use Rattle.model.specs.declared.Segment.{Segment}
use Rattle.model.specs.declared.Start.{Start}
use Rattle.model.specs.Port.{port_of, uses_ports, map_segment}
use Rattle.model.specs.Values.{no_start}
use Rattle.tables.specs.Conflict.{mark_at}
use Rattle.early_ports.specs.declared.Footprint.{Footprint}

-- the ports of thread k; none past the threads
unfoldable pub ports_in : List Start → ℕ → List ℕ
ports_in starts k = (get_or starts k no_start).ports

-- a segment after mapping; as it is where no port is used
unfoldable pub segment_with : List ℕ → Segment → Segment
segment_with ps g = cond (uses_ports ps) (map_segment ps g) g

-- the variables of the ports in w, of the first n ports; an unused port is none
unfoldable pub map_bits : List ℕ → ℕ → ℕ → ℕ
map_bits ps w zero = 0
map_bits ps w (suc p) = cond (bit_at w p) (with_bit (map_bits ps w p) (port_of ps p)) (map_bits ps w p)

abbrev pub no_footprint : Footprint
no_footprint = record { writes = 0; uses = 0; ported = 0 }

-- of a thread with ports ps in segment s, by the words of the segments
unfoldable pub footprint_of : List ℕ → List ℕ → ℕ → Footprint
footprint_of names ps s =
    let ported = map_bits ps (get_or names (192 + s) 0) 8 in
    let written = map_bits ps (get_or names (128 + s) 0) 8 in
    cond (ltb s 64) (record { writes = bit_or (get_or names s 0) written; uses = bit_or (get_or names (64 + s) 0) ported; ported = ported }) no_footprint

-- "both access a variable which at least one writes", and at least one names it through a port
unfoldable pub crosses : Footprint → Footprint → Bool
crosses a b = not (eqb (bit_and (bit_and (bit_and a.uses b.uses) (bit_or a.writes b.writes)) (bit_or a.ported b.ported)) 0)

-- whether thread i in segment r conflicts with thread j in segment s: by the marks, or by what the words say
unfoldable pub conflicts_on : List (List Bool) → List ℕ → List Start → ℕ → ℕ → ℕ → ℕ → Bool
conflicts_on marks names starts i r j s =
    mark_at marks r s || crosses (footprint_of names (ports_in starts i) r) (footprint_of names (ports_in starts j) s)
