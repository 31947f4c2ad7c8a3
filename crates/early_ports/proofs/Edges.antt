-- The words of what segments name, footprints and conflicts through a port at, below and above their edges: closed examples, worked out from
-- document 02, "Modules with ports".
use Prim.Native.Nat.{ℕ, ◌^◌}
use mathlib.Core.Path.{◌≡◌, refl}
use mathlib.Core.Bool.{true, false}
use mathlib.Core.List.{List, [], ◌∷◌}
use lib.ListN.{get_or, length, replicate}
use Rattle.model.specs.declared.Op.TheVariants.{Set, Add, Copy, AddVariable, SubVariable, Notify}
use Rattle.model.specs.declared.Closer.TheVariants.{End, Time, Event}
use Rattle.model.specs.declared.Next.{Next}
use Rattle.model.specs.declared.Segment.{Segment}
use Rattle.model.specs.declared.Model.{Model}
use Rattle.model.specs.Port.{no_ports, map_segment}
use Rattle.model.specs.Values.{no_model, with_head, with_segment, with_start}
use Rattle.early.proofs.EdgeModels.{segment_of, says, no_mark, one_mark}
use Rattle.early_ports.specs.declared.Footprint.{Footprint}
use Rattle.early_ports.specs.Names.{bit_from, op_names, test_name, names_of, name_word, any_ports, names_for}
use Rattle.early_ports.specs.Cross.{ports_in, segment_with, map_bits, footprint_of, crosses, conflicts_on}
use Rattle.early_ports.proofs.Computed.{computed}

-- the first number, the one before it, the last that has a bit, the one after it; 255 is none
pub bit_from-edges :
    (bit_from 0 0 ≡ 1) × (bit_from 0 63 ≡ 2 ^ 63) × (bit_from 0 64 ≡ 0) × (bit_from 0 128 ≡ 0) ×
    (bit_from 128 127 ≡ 0) × (bit_from 128 128 ≡ 1) × (bit_from 128 135 ≡ 128) × (bit_from 128 255 ≡ 0) × (bit_from 128 384 ≡ 0)
unfolding computed
bit_from-edges = (refl, refl, refl, refl, refl, refl, refl, refl, refl)

-- what is written, and what is used: a constant is no variable, and b is the whole 32-bit number
pub op_names-edges :
    (op_names 0 true (Set 2 1) ≡ 4) ×
    (op_names 0 false (Set 2 1) ≡ 4) ×
    (op_names 128 false (Set 2 128) ≡ 0) ×
    (op_names 128 false (Add 128 129) ≡ 1) ×
    (op_names 0 true (Copy 2 1) ≡ 4) ×
    (op_names 0 false (Copy 2 1) ≡ 6) ×
    (op_names 128 false (Copy 2 129) ≡ 2) ×
    (op_names 128 true (Copy 2 129) ≡ 0) ×
    (op_names 128 false (Copy 2 384) ≡ 0) ×
    (op_names 128 false (AddVariable 130 129) ≡ 6) ×
    (op_names 128 true (SubVariable 130 129) ≡ 4) ×
    (op_names 128 false (Notify 128) ≡ 0)
unfolding computed
op_names-edges = (refl, refl, refl, refl, refl, refl, refl, refl, refl, refl, refl, refl)

-- "The test variable counts as read", and 255 is none
abbrev asking : ℕ → Next
asking x = record { a = 0; b = 0; test = x; limit = 1 }

pub test_name-edges :
    (test_name 0 false (Time (record { 0 = 3 }) (asking 5)) ≡ 32) ×
    (test_name 0 true (Time (record { 0 = 3 }) (asking 5)) ≡ 0) ×
    (test_name 128 false (Event 0 (asking 135)) ≡ 128) ×
    (test_name 128 false (Event 0 (asking 255)) ≡ 0) ×
    (test_name 0 false End ≡ 0)
unfolding computed
test_name-edges = (refl, refl, refl, refl, refl)

-- "add 1 to variable 0, port 1 := variable 1, wait, by port 2": its four words; a statement past the count is not looked at
unfoldable pub module4 : Segment
module4 = segment_of (Time (record { 0 = 3 }) (asking 130)) (says (Add 0 1) ∷ says (Copy 129 1) ∷ [])

pub name_word-edges :
    (name_word 0 module4 ≡ 1) ×
    (name_word 1 module4 ≡ 3) ×
    (name_word 2 module4 ≡ 2) ×
    (name_word 3 module4 ≡ 6) ×
    (names_of 0 false (record { closer = End; n = 1; statements = says (Add 3 1) ∷ says (Add 4 1) ∷ [] }) ≡ 8)
unfolding computed module4 segment_of
name_word-edges = (refl, refl, refl, refl, refl)

-- port 0 alone, port 7 alone, with their variables
abbrev port0 : ℕ → List ℕ
port0 v = v ∷ 255 ∷ 255 ∷ 255 ∷ 255 ∷ 255 ∷ 255 ∷ 255 ∷ []

abbrev port7 : ℕ → List ℕ
port7 v = 255 ∷ 255 ∷ 255 ∷ 255 ∷ 255 ∷ 255 ∷ 255 ∷ v ∷ []

-- the first port and the last, and no ninth; "an unused port naming nothing"; two ports of one variable
pub map_bits-edges :
    (map_bits (port0 5) 1 8 ≡ 32) ×
    (map_bits (port0 5) 2 8 ≡ 0) ×
    (map_bits (port7 63) 128 8 ≡ 2 ^ 63) ×
    (map_bits (port7 0) 256 8 ≡ 0) ×
    (map_bits no_ports 255 8 ≡ 0) ×
    (map_bits (3 ∷ 3 ∷ 255 ∷ 255 ∷ 255 ∷ 255 ∷ 255 ∷ 255 ∷ []) 3 8 ≡ 8)
unfolding computed
map_bits-edges = (refl, refl, refl, refl, refl, refl)

-- Two segments, `module4` and an end; thread 0 uses no port, thread 1 ports 1 and 2 for variables 4 and 5.
abbrev ports12 : List ℕ
ports12 = 255 ∷ 4 ∷ 5 ∷ 255 ∷ 255 ∷ 255 ∷ 255 ∷ 255 ∷ []

unfoldable pub modules : List ℕ → Model
modules ps =
    with_start (with_start (with_segment (with_segment (with_head no_model 100 6 1) module4) (segment_of End [])) (record { first = 1; ports = no_ports })) (record { first = 0; ports = ps })

-- whether some thread below T uses a port; a buffer of 255 words, and one of 256, where a thread does and where none does
pub names_for-edges :
    (any_ports (modules ports12).starts (modules ports12).t ≡ true) ×
    (any_ports (modules no_ports).starts (modules no_ports).t ≡ false) ×
    (names_for (modules ports12) (replicate 255 0) ≡ replicate 255 0) ×
    (names_for (modules no_ports) (replicate 256 0) ≡ replicate 256 0) ×
    (get_or (names_for (modules ports12) (replicate 256 0)) 0 7 ≡ 1) ×
    (get_or (names_for (modules ports12) (replicate 256 0)) 1 7 ≡ 0) ×
    (get_or (names_for (modules ports12) (replicate 256 0)) 64 7 ≡ 3) ×
    (get_or (names_for (modules ports12) (replicate 256 0)) 128 7 ≡ 2) ×
    (get_or (names_for (modules ports12) (replicate 256 0)) 192 7 ≡ 6) ×
    (length (names_for (modules ports12) (replicate 256 0)) ≡ 256)
unfolding computed modules module4 segment_of
names_for-edges = (refl, refl, refl, refl, refl, refl, refl, refl, refl, refl)

-- after mapping: writes 0 and 4, uses 0, 1, 4 and 5, names 4 and 5 through a port; the last segment's words, and none past it
abbrev ones : ℕ → Footprint
ones w = record { writes = w; uses = w; ported = w }

pub footprint_of-edges :
    (footprint_of (names_for (modules ports12) (replicate 256 0)) ports12 0 ≡ record { writes = 17; uses = 51; ported = 48 }) ×
    (footprint_of (names_for (modules ports12) (replicate 256 0)) no_ports 0 ≡ record { writes = 1; uses = 3; ported = 0 }) ×
    (footprint_of (names_for (modules ports12) (replicate 256 0)) ports12 1 ≡ ones 0) ×
    (footprint_of (replicate 256 1) (port0 0) 63 ≡ ones 1) ×
    (footprint_of (replicate 256 1) (port0 0) 64 ≡ ones 0)
unfolding computed modules module4 segment_of
footprint_of-edges = (refl, refl, refl, refl, refl)

-- "both access a variable which at least one writes", one through a port: either side, each part missing, and parts of different variables
abbrev foot : ℕ → ℕ → ℕ → Footprint
foot w u p = record { writes = w; uses = u; ported = p }

pub crosses-edges :
    (crosses (foot 1 1 0) (foot 0 1 1) ≡ true) ×
    (crosses (foot 0 1 1) (foot 1 1 0) ≡ true) ×
    (crosses (foot 1 1 1) (foot 0 1 0) ≡ true) ×
    (crosses (foot 1 1 0) (foot 1 1 0) ≡ false) ×
    (crosses (foot 0 1 1) (foot 0 1 1) ≡ false) ×
    (crosses (foot 1 1 1) (foot 0 0 0) ≡ false) ×
    (crosses (foot 1 3 2) (foot 0 3 0) ≡ false) ×
    (crosses (foot (2 ^ 63) (2 ^ 63) 0) (foot 0 (2 ^ 63) (2 ^ 63)) ≡ true)
unfolding computed
crosses-edges = (refl, refl, refl, refl, refl, refl, refl, refl)

-- mapped where a port is used, as it is where none is
pub segment_with-edges :
    (segment_with (port7 0) module4 ≡ map_segment (port7 0) module4) ×
    (segment_with no_ports module4 ≡ module4) ×
    (ports_in (record { first = 3; ports = port7 1 } ∷ []) 0 ≡ port7 1) ×
    (ports_in (record { first = 3; ports = port7 1 } ∷ []) 1 ≡ no_ports)
unfolding computed module4 segment_of
segment_with-edges = (refl, refl, refl, refl)

-- a mark; through a port, by each thread's own map: thread 1 writes variable 4 in segment 0, thread 0 has no port
pub conflicts_on-edges :
    (conflicts_on one_mark [] [] 0 0 1 1 ≡ true) ×
    (conflicts_on no_mark [] [] 0 0 1 1 ≡ false) ×
    (conflicts_on no_mark (names_for (modules ports12) (replicate 256 0)) (modules ports12).starts 1 0 1 0 ≡ true) ×
    (conflicts_on no_mark (names_for (modules ports12) (replicate 256 0)) (modules ports12).starts 0 0 1 0 ≡ false) ×
    (conflicts_on no_mark (names_for (modules (port0 0)) (replicate 256 0)) (modules (port0 0)).starts 0 0 1 0 ≡ false)
unfolding computed modules module4 segment_of
conflicts_on-edges = (refl, refl, refl, refl, refl)
