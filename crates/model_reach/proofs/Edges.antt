-- Closed examples of reach, of ports that are named, and of the words made of them.
-- Assumes nothing.
use Prim.Native.Nat.{ℕ}
use mathlib.Core.Path.{◌≡◌, refl}
use mathlib.Core.Bool.{true, false}
use mathlib.Core.List.{List, [], ◌∷◌}
use lib.ListN.{length, get_or}
use Rattle.model.specs.declared.Op.{Op}
use Rattle.model.specs.declared.Op.TheVariants.{Set, Add, Copy, AddVariable, SubVariable, Notify}
use Rattle.model.specs.declared.Statement.{Statement}
use Rattle.model.specs.declared.Next.{Next}
use Rattle.model.specs.declared.Closer.{Closer}
use Rattle.model.specs.declared.Closer.TheVariants.{End, Time, Event}
use Rattle.model.specs.declared.Segment.{Segment}
use Rattle.model.specs.declared.Model.{Model}
use Rattle.model.specs.Port.{no_ports}
use Rattle.model.specs.Footprint.{names_port}
use Rattle.model.specs.Reach.{reaches, lacks_port, lacks_from}
use Rattle.model_reach.specs.Store.{port_bit, op_ports, test_port, ports_of, first_row, joined, reach_rows, unused_of, lack_of, ports_to}
use Rattle.model_reach.proofs.Computed.{computed}

-- the values that the examples are made of
abbrev next : ℕ → ℕ → ℕ → Next
next a b test = record { a = a; b = b; test = test; limit = 5 }

abbrev waits : Next → Closer
waits x = Time (record { 0 = 1 }) x

abbrev segment : Closer → List Op → Segment
segment c os = record { closer = c; n = length os; statements = does os }
  where
    does : List Op → List Statement
    does [] = []
    does (o ∷ os) = record { op = o } ∷ does os

-- 0 goes to 1 and to 2, 1 to 3, 2 to itself; 3 ends. Segment 3 sets port 0, segment 2 tests port 7.
-- Thread 0 uses no port, thread 1 port 0 alone, thread 2 port 7 alone.
abbrev four : Model
four =
    record {
      horizon = record { 0 = 9 };
      v = 4;
      e = 1;
      n = 4;
      t = 3;
      segments =
          segment (waits (next 1 2 0)) (Set 1 128 ∷ [])
          ∷ segment (Event 0 (next 3 3 255)) (Notify 0 ∷ [])
          ∷ segment (waits (next 2 2 135)) []
          ∷ segment End (Set 128 7 ∷ [])
          ∷ [];
      starts =
          record { first = 0; ports = no_ports }
          ∷ record { first = 0; ports = 1 ∷ 255 ∷ 255 ∷ 255 ∷ 255 ∷ 255 ∷ 255 ∷ 255 ∷ [] }
          ∷ record { first = 0; ports = 255 ∷ 255 ∷ 255 ∷ 255 ∷ 255 ∷ 255 ∷ 255 ∷ 0 ∷ [] }
          ∷ [];
    }

-- itself; over A and over B; over a segment between; not backwards, nor from one branch to the other
reach :
    (reaches four 0 0 ≡ true) ×
    (reaches four 3 3 ≡ true) ×
    (reaches four 0 1 ≡ true) ×
    (reaches four 0 2 ≡ true) ×
    (reaches four 0 3 ≡ true) ×
    (reaches four 1 3 ≡ true) ×
    (reaches four 1 0 ≡ false) ×
    (reaches four 3 1 ≡ false) ×
    (reaches four 1 2 ≡ false) ×
    (reaches four 2 3 ≡ false)
unfolding computed
reach = (refl, refl, refl, refl, refl, refl, refl, refl, refl, refl)

-- a value of 128 names no port, and a test names one
names :
    (names_port four 0 0 ≡ false) ×
    (names_port four 3 0 ≡ true) ×
    (names_port four 3 1 ≡ false) ×
    (names_port four 2 7 ≡ true) ×
    (names_port four 2 6 ≡ false)
unfolding computed
names = (refl, refl, refl, refl, refl)

-- a port that is named and unused, a used one; from where each is reached
lacking :
    (lacks_port four 0 3 ≡ true) ×
    (lacks_port four 1 3 ≡ false) ×
    (lacks_port four 1 2 ≡ true) ×
    (lacks_port four 2 2 ≡ false) ×
    (lacks_port four 0 0 ≡ false) ×
    (lacks_from four 0 0 ≡ true) ×
    (lacks_from four 0 1 ≡ true) ×
    (lacks_from four 1 1 ≡ false) ×
    (lacks_from four 1 3 ≡ false) ×
    (lacks_from four 1 0 ≡ true) ×
    (lacks_from four 2 2 ≡ false) ×
    (lacks_from four 2 1 ≡ true)
unfolding computed
lacking = (refl, refl, refl, refl, refl, refl, refl, refl, refl, refl, refl, refl)

-- the first and the last port, and the numbers beside them
port-bits :
    (port_bit 127 ≡ 0) ×
    (port_bit 128 ≡ 1) ×
    (port_bit 135 ≡ 128) ×
    (port_bit 191 ≡ 9223372036854775808) ×
    (port_bit 192 ≡ 0) ×
    (port_bit 255 ≡ 0)
unfolding computed
port-bits = (refl, refl, refl, refl, refl, refl)

-- a of five operations, b of three; of the event nothing; the test of a closer that goes on
ports-named :
    (op_ports (Set 128 129) ≡ 1) ×
    (op_ports (Add 128 129) ≡ 1) ×
    (op_ports (Copy 128 129) ≡ 3) ×
    (op_ports (AddVariable 128 129) ≡ 3) ×
    (op_ports (SubVariable 128 129) ≡ 3) ×
    (op_ports (Notify 128) ≡ 0) ×
    (test_port (waits (next 0 0 130)) ≡ 4) ×
    (test_port (Event 128 (next 0 0 255)) ≡ 0) ×
    (test_port End ≡ 0) ×
    (ports_of (segment (waits (next 0 0 130)) (Set 128 0 ∷ Copy 129 3 ∷ [])) ≡ 7)
unfolding computed
ports-named = (refl, refl, refl, refl, refl, refl, refl, refl, refl, refl)

-- itself, A and B; a row is joined where it has k only
rows :
    (first_row End 3 ≡ 8) ×
    (first_row (waits (next 0 2 255)) 3 ≡ 13) ×
    (first_row (Event 0 (next 63 64 255)) 0 ≡ 9223372036854775809) ×
    (joined 1 6 0 ≡ 7) ×
    (joined 1 6 1 ≡ 1) ×
    (get_or (reach_rows four 4) 0 0 ≡ 15) ×
    (get_or (reach_rows four 4) 1 0 ≡ 10) ×
    (get_or (reach_rows four 4) 2 0 ≡ 4) ×
    (get_or (reach_rows four 4) 3 0 ≡ 8)
unfolding computed
rows = (refl, refl, refl, refl, refl, refl, refl, refl, refl)

-- the ports left unused, and the words of the three threads
words :
    (unused_of no_ports ≡ 255) ×
    (unused_of (1 ∷ 255 ∷ 254 ∷ 0 ∷ 0 ∷ 0 ∷ 0 ∷ 255 ∷ []) ≡ 130) ×
    (lack_of (ports_to four 4) (reach_rows four 4) 4 no_ports ≡ 15) ×
    (lack_of (ports_to four 4) (reach_rows four 4) 4 (1 ∷ 255 ∷ 255 ∷ 255 ∷ 255 ∷ 255 ∷ 255 ∷ 255 ∷ []) ≡ 5) ×
    (lack_of (ports_to four 4) (reach_rows four 4) 4 (255 ∷ 255 ∷ 255 ∷ 255 ∷ 255 ∷ 255 ∷ 255 ∷ 0 ∷ []) ≡ 11)
unfolding computed
words = (refl, refl, refl, refl, refl)
