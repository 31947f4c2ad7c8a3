-- What each segment writes and uses, directly and by port, as the bits of words: `proofs/NameLaws.antt` says what the bits are.
use Rattle.std.specs.Prelude.{ℕ, zero, suc, ◌*◌, ◌-◌, min, Bool, not, cond, ◌||◌, List, [], ◌∷◌, ltb, eqb, length, get_or}
use Rattle.std.specs.Int.Bits.{bit_or}
use Rattle.base.specs.Index.{any_below, store_to}
use Rattle.masks.specs.Mask.{with_bit}
use Rattle.model.specs.declared.Op.{Op}
use Rattle.model.specs.declared.Op.TheVariants.{Set, Add, Copy, AddVariable, SubVariable, Notify}
use Rattle.model.specs.declared.Statement.{Statement}
use Rattle.model.specs.declared.Closer.{Closer}
use Rattle.model.specs.declared.Closer.TheVariants.{End, Time, Event}
use Rattle.model.specs.declared.Segment.{Segment}
use Rattle.model.specs.declared.Start.{Start}
use Rattle.model.specs.declared.Model.{Model}
use Rattle.model.specs.Port.{first_port, uses_ports}
use Rattle.model.specs.Values.{no_start, segment_at, body_of}

-- the number x as bit x - from; none where there is no such bit
unfoldable pub bit_from : ℕ → ℕ → ℕ
bit_from from x = cond (ltb x from) 0 (with_bit 0 (x - from))

-- a number that is read: none where only those written are asked for
unfoldable pub read_from : ℕ → Bool → ℕ → ℕ
read_from from written x = cond written 0 (bit_from from x)

-- what an operation writes, or what it writes or reads
unfoldable pub op_names : ℕ → Bool → Op → ℕ
op_names from written (Set a b) = bit_from from a
op_names from written (Add a b) = bit_from from a
op_names from written (Copy a b) = bit_or (bit_from from a) (read_from from written b)
op_names from written (AddVariable a b) = bit_or (bit_from from a) (read_from from written b)
op_names from written (SubVariable a b) = bit_or (bit_from from a) (read_from from written b)
op_names from written (Notify w) = 0

unfoldable pub test_name : ℕ → Bool → Closer → ℕ
test_name from written End = 0
test_name from written (Time k x) = read_from from written x.test
test_name from written (Event e x) = read_from from written x.test

-- of statements, beside what w has; of a segment
unfoldable pub names_in : ℕ → Bool → ℕ → List Statement → ℕ
names_in from written w [] = w
names_in from written w (x ∷ xs) = names_in from written (bit_or w (op_names from written x.op)) xs

unfoldable pub names_of : ℕ → Bool → Segment → ℕ
names_of from written g = bit_or (names_in from written 0 (body_of g)) (test_name from written g.closer)

-- word q of a segment: variables written, variables used, ports written, ports used
unfoldable pub name_word : ℕ → Segment → ℕ
name_word q g = cond (ltb q 2) (names_of 0 (eqb q 0) g) (names_of first_port (eqb q 2) g)

-- word q of the first n segments, from place 64 × q on; the first q words of each
unfoldable pub stretch : Model → ℕ → List ℕ → ℕ → List ℕ
stretch m n ws q = store_to (λ s vs. name_word q (segment_at m s)) (64 * q) ws n

unfoldable pub stretches : Model → ℕ → List ℕ → ℕ → List ℕ
stretches m n ws zero = ws
stretches m n ws (suc q) = stretch m n (stretches m n ws q) q

-- whether some thread uses a port
unfoldable pub any_ports : List Start → ℕ → Bool
any_ports starts t = any_below (min t 32) (λ k. uses_ports (get_or starts k no_start).ports)

-- a buffer with the four words of each segment; as it was where no thread uses a port, or where it is too short
unfoldable pub names_for : Model → List ℕ → List ℕ
names_for m ws = cond (ltb (length ws) 256 || not (any_ports m.starts m.t)) ws (stretches m (min m.n 64) ws 4)
