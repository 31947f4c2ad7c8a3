-- How the code makes the words, one store after the other. Only private contracts cite this; `proofs/StoreLaws.antt` says what the bits are.
use Rattle.std.specs.Prelude.{ℕ, zero, suc, ◌-◌, Bool, cond, not, List, [], ◌∷◌, ltb, eqb, get_or, replicate}
use Rattle.std.specs.Int.Bits.{bit_and, bit_or}
use Rattle.base.specs.Index.{store_to}
use Rattle.masks.specs.Mask.{bit_at, with_bit, mask_of}
use Rattle.model.specs.declared.Op.{Op}
use Rattle.model.specs.declared.Op.TheVariants.{Set, Add, Copy, AddVariable, SubVariable, Notify}
use Rattle.model.specs.declared.Statement.{Statement}
use Rattle.model.specs.declared.Closer.{Closer}
use Rattle.model.specs.declared.Closer.TheVariants.{End, Time, Event}
use Rattle.model.specs.declared.Segment.{Segment}
use Rattle.model.specs.declared.Start.{Start}
use Rattle.model.specs.declared.Model.{Model}
use Rattle.model.specs.Port.{unused, first_port, port_of}
use Rattle.model.specs.Values.{no_start, segment_at, body_of}

-- the number x as bit x - 128; none where there is no such bit
unfoldable pub port_bit : ℕ → ℕ
port_bit x = cond (ltb x first_port) 0 (with_bit 0 (x - first_port))

unfoldable pub op_ports : Op → ℕ
op_ports (Set a b) = port_bit a
op_ports (Add a b) = port_bit a
op_ports (Copy a b) = bit_or (port_bit a) (port_bit b)
op_ports (AddVariable a b) = bit_or (port_bit a) (port_bit b)
op_ports (SubVariable a b) = bit_or (port_bit a) (port_bit b)
op_ports (Notify w) = 0

unfoldable pub test_port : Closer → ℕ
test_port End = 0
test_port (Time k x) = port_bit x.test
test_port (Event e x) = port_bit x.test

-- the ports that statements name, beside those of w; those of a segment; of the first n segments
unfoldable pub ports_in : ℕ → List Statement → ℕ
ports_in w [] = w
ports_in w (x ∷ xs) = ports_in (bit_or w (op_ports x.op)) xs

unfoldable pub ports_of : Segment → ℕ
ports_of g = bit_or (ports_in 0 (body_of g)) (test_port g.closer)

unfoldable pub ports_to : Model → ℕ → List ℕ
ports_to m n = store_to (λ s ws. ports_of (segment_at m s)) 0 (replicate 64 0) n

-- segment r and its next segments; of the first n segments
unfoldable pub first_row : Closer → ℕ → ℕ
first_row End r = with_bit 0 r
first_row (Time k x) r = with_bit (with_bit (with_bit 0 r) x.a) x.b
first_row (Event e x) r = with_bit (with_bit (with_bit 0 r) x.a) x.b

unfoldable pub first_rows : Model → List ℕ → ℕ → List ℕ
first_rows m ws n = store_to (λ r vs. first_row (segment_at m r).closer r) 0 ws n

-- a row with the row of k, where it has k; a round over k; the first k rounds
unfoldable pub joined : ℕ → ℕ → ℕ → ℕ
joined w over k = cond (bit_at w k) (bit_or w over) w

unfoldable pub round_to : List ℕ → ℕ → ℕ → List ℕ
round_to ws k n = store_to (λ r vs. joined (get_or vs r 0) (get_or ws k 0) k) 0 ws n

unfoldable pub rounds_to : List ℕ → ℕ → ℕ → List ℕ
rounds_to ws n zero = ws
rounds_to ws n (suc k) = round_to (rounds_to ws n k) k n

unfoldable pub reach_rows : Model → ℕ → List ℕ
reach_rows m n = rounds_to (first_rows m (replicate 64 0) n) n n

-- whether word i of ws and w have a bit in common
unfoldable pub meets : List ℕ → ℕ → ℕ → Bool
meets ws w i = not (eqb (bit_and (get_or ws i 0) w) 0)

-- the ports that a thread leaves unused
unfoldable pub unused_of : List ℕ → ℕ
unused_of ps = mask_of (λ p. eqb (port_of ps p) unused) 8

-- with the ports of each segment and the rows: from where a thread with ports ps reaches an unused port; of the first k threads
unfoldable pub lack_of : List ℕ → List ℕ → ℕ → List ℕ → ℕ
lack_of names rows n ps = mask_of (meets rows (mask_of (meets names (unused_of ps)) n)) n

unfoldable pub lacks_to : List Start → List ℕ → List ℕ → ℕ → ℕ → List ℕ
lacks_to starts names rows n k = store_to (λ i ws. lack_of names rows n (get_or starts i no_start).ports) 0 (replicate 32 0) k

-- of all threads, by the first rows
unfoldable pub lacks_by : List Start → List ℕ → List ℕ → ℕ → List ℕ
lacks_by starts names rows n = cond (eqb (mask_of (meets names 255) n) 0) (replicate 32 0) (lacks_to starts names (rounds_to rows n n) n 32)
