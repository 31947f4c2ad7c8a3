-- Document 02, "Modules with ports": every comparison at, below and above its edge, and reach, as closed examples worked by hand.
use Prim.Native.Nat.{ℕ}
use mathlib.Core.Path.{◌≡◌, refl}
use mathlib.Core.Bool.{true, false}
use mathlib.Core.List.{List, [], ◌∷◌, ◌++◌}
use lib.ListN.{length, replicate}
use Rattle.base.specs.Index.{any_below}
use Rattle.model.specs.declared.Op.{Op}
use Rattle.model.specs.declared.Op.TheVariants.{Set, Add, Copy, AddVariable, SubVariable, Notify}
use Rattle.model.specs.declared.Statement.{Statement}
use Rattle.model.specs.declared.Next.{Next}
use Rattle.model.specs.declared.Closer.{Closer}
use Rattle.model.specs.declared.Closer.TheVariants.{End, Time, Event}
use Rattle.model.specs.declared.Segment.{Segment}
use Rattle.model.specs.declared.Start.{Start}
use Rattle.model.specs.declared.Model.{Model}
use Rattle.model.specs.Refusal as refusal
use Rattle.model.specs.Port.{unused, no_ports, first_port, is_port, uses_ports, mapped, map_op, map_next, map_closer}
use Rattle.model.specs.Values.{no_start, no_model, start_at, with_start, with_ports}
use Rattle.model.specs.Footprint.{uses_in, writes_in, names_port, uses_by_port}
use Rattle.model.specs.Reach.{steps_to, reaches, lacks_port, lacks_from}
use Rattle.model.specs.Rules.{is_name, test_fault, op_fault, ports_fault, starts_fault, lack_fault, links_fault, model_fault}
use Rattle.model.proofs.Computed.{computed}

abbrev next : ℕ → ℕ → ℕ → Next
next a b test = record { a = a; b = b; test = test; limit = 5 }

abbrev always : ℕ → Next
always a = record { a = a; b = a; test = 255; limit = 0 }

abbrev waits : Next → Closer
waits x = Time (record { 0 = 1 }) x

abbrev segment : Closer → List Op → Segment
segment c os = record { closer = c; n = length os; statements = does os }
  where
    does : List Op → List Statement
    does [] = []
    does (o ∷ os) = record { op = o } ∷ does os

-- ports 0 and 7 alone
abbrev ends : ℕ → ℕ → List ℕ
ends a b = a ∷ 255 ∷ 255 ∷ 255 ∷ 255 ∷ 255 ∷ 255 ∷ b ∷ []

numbers : (refusal.wrong_port ≡ 17) × (refusal.lacked_port ≡ 18) × (unused ≡ 255) × (first_port ≡ 128)
numbers = (refl, refl, refl, refl)

-- "Variable numbers 128 to 135 .. mean ports 0 to 7": 127, 128, 135, 136
port-edges : (is_port 127 ≡ false) × (is_port 128 ≡ true) × (is_port 135 ≡ true) × (is_port 136 ≡ false) × (is_port 255 ≡ false) × (is_port 384 ≡ false)
unfolding is_port
port-edges = (refl, refl, refl, refl, refl, refl)

mapped-edges :
    (mapped (ends 3 5) 127 ≡ 127) ×
    (mapped (ends 3 5) 128 ≡ 3) ×
    (mapped (ends 3 5) 129 ≡ 255) ×
    (mapped (ends 3 5) 135 ≡ 5) ×
    (mapped (ends 3 5) 136 ≡ 136) ×
    (mapped (ends 3 5) 0 ≡ 0) ×
    (mapped (ends 3 5) 255 ≡ 255)
unfolding mapped is_port
mapped-edges = (refl, refl, refl, refl, refl, refl, refl)

-- "set 0 to 128, add 135": constants are no ports; events have none
ops :
    (map_op (ends 3 5) (Set 128 128) ≡ Set 3 128) ×
    (map_op (ends 3 5) (Add 135 135) ≡ Add 5 135) ×
    (map_op (ends 3 5) (Copy 128 135) ≡ Copy 3 5) ×
    (map_op (ends 3 5) (AddVariable 0 128) ≡ AddVariable 0 3) ×
    (map_op (ends 3 5) (SubVariable 128 1) ≡ SubVariable 3 1) ×
    (map_op (ends 3 5) (Notify 128) ≡ Notify 128) ×
    (map_next (ends 3 5) (next 128 135 128) ≡ next 128 135 3) ×
    (map_closer (ends 3 5) End ≡ End) ×
    (map_closer (ends 3 5) (Event 128 (next 1 2 255)) ≡ Event 128 (next 1 2 255))
unfolding mapped is_port
ops = (refl, refl, refl, refl, refl, refl, refl, refl, refl)

-- "255 for an unused port": 254 is none
uses-edges :
    (uses_ports no_ports ≡ false) × (uses_ports (ends 254 255) ≡ true) × (uses_ports (ends 255 0) ≡ true) × (uses_ports (ends 255 255) ≡ false)
unfolding uses_ports any_below
uses-edges = (refl, refl, refl, refl)

-- "2 and 7 now let kind 5 and the port numbers through"
name-edges :
    (is_name 64 63 ≡ true) ×
    (is_name 64 64 ≡ false) ×
    (is_name 64 127 ≡ false) ×
    (is_name 0 128 ≡ true) ×
    (is_name 0 135 ≡ true) ×
    (is_name 64 136 ≡ false) ×
    (is_name 64 384 ≡ false) ×
    (is_name 0 0 ≡ false)
unfolding is_name is_port
name-edges = (refl, refl, refl, refl, refl, refl, refl, refl)

faults :
    (op_fault 1 0 (Set 128 0) ≡ 0) ×
    (op_fault 1 0 (Add 136 0) ≡ 7) ×
    (op_fault 1 0 (Copy 0 135) ≡ 0) ×
    (op_fault 1 0 (Copy 127 0) ≡ 7) ×
    (op_fault 1 0 (AddVariable 0 384) ≡ 7) ×
    (op_fault 1 32 (Notify 128) ≡ 7) ×
    (test_fault 0 (next 0 0 128) ≡ 0) ×
    (test_fault 0 (next 0 0 136) ≡ 7)
unfolding op_fault test_fault is_name is_port
faults = (refl, refl, refl, refl, refl, refl, refl, refl)

-- "a mapped number is neither 255 nor below V": V - 1, V, 128, 254, 255; the last port too; V = 0
mapped-numbers :
    (ports_fault 4 (ends 3 255) ≡ 0) ×
    (ports_fault 4 (ends 4 255) ≡ 17) ×
    (ports_fault 4 (ends 255 3) ≡ 0) ×
    (ports_fault 4 (ends 255 4) ≡ 17) ×
    (ports_fault 64 (ends 128 255) ≡ 17) ×
    (ports_fault 64 (ends 254 255) ≡ 17) ×
    (ports_fault 0 (ends 0 255) ≡ 17) ×
    (ports_fault 0 no_ports ≡ 0)
unfolding ports_fault any_below
mapped-numbers = (refl, refl, refl, refl, refl, refl, refl, refl)

-- 0 goes to 1 and to 2, 1 to 3, 2 to itself; 3 ends. Segment 3 sets port 0, segment 2 tests port 7.
abbrev four : List Start → Model
four ss =
    record {
      horizon = record { 0 = 9 };
      v = 4;
      e = 1;
      n = 4;
      t = length ss;
      segments =
          segment (waits (next 1 2 0)) (Set 1 128 ∷ [])
          ∷ segment (Event 0 (always 3)) (Notify 0 ∷ [])
          ∷ segment (waits (next 2 2 135)) []
          ∷ segment End (Set 128 7 ∷ [])
          ∷ [];
      starts = ss;
    }

abbrev start : ℕ → List ℕ → Start
start s ps = record { first = s; ports = ps }

-- no port, port 0 alone, port 7 alone, both
abbrev three : Model
three = four (start 0 no_ports ∷ start 0 (ends 1 255) ∷ start 0 (ends 255 0) ∷ start 0 (ends 2 2) ∷ [])

-- a segment reaches itself, and what A and B lead to; not backwards, nor across
reach :
    (reaches three 0 0 ≡ true) ×
    (reaches three 3 3 ≡ true) ×
    (reaches three 0 1 ≡ true) ×
    (reaches three 0 2 ≡ true) ×
    (reaches three 0 3 ≡ true) ×
    (reaches three 1 0 ≡ false) ×
    (reaches three 2 3 ≡ false) ×
    (steps_to End 0 ≡ false)
unfolding computed
reach = (refl, refl, refl, refl, refl, refl, refl, refl)

-- by the graph, whatever the way takes: two waits of 1,000,000,000 units, together never as a distance, lead to a segment that sets port 0
abbrev far : Model
far =
    record {
      horizon = record { 0 = 9 };
      v = 1;
      e = 0;
      n = 3;
      t = 1;
      segments =
          segment (Time (record { 0 = 1000000000 }) (always 1)) []
          ∷ segment (Time (record { 0 = 1000000000 }) (always 2)) []
          ∷ segment End (Set 128 7 ∷ [])
          ∷ [];
      starts = start 0 no_ports ∷ [];
    }

reach_far : (reaches far 0 2 ≡ true) × (reaches far 1 2 ≡ true) × (reaches far 2 0 ≡ false) × (lack_fault far ≡ 18)
unfolding computed
reach_far = (refl, refl, refl, refl)

-- what a thread names after mapping, and by which port
naming :
    (names_port three 0 0 ≡ false) ×
    (names_port three 3 0 ≡ true) ×
    (names_port three 2 7 ≡ true) ×
    (names_port three 2 6 ≡ false) ×
    (uses_by_port three 1 3 1 ≡ true) ×
    (uses_by_port three 1 3 0 ≡ false) ×
    (uses_by_port three 1 0 1 ≡ false) ×
    (uses_by_port three 0 3 255 ≡ true) ×
    (uses_in three 1 3 1 ≡ true) ×
    (uses_in three 1 3 128 ≡ false) ×
    (writes_in three 3 3 2 ≡ true) ×
    (uses_in three 3 2 2 ≡ true) ×
    (uses_in three 0 2 255 ≡ false)
unfolding computed
naming = (refl, refl, refl, refl, refl, refl, refl, refl, refl, refl, refl, refl, refl)

-- a port that is named and unused, a used one; from where it is reached
lacking :
    (lacks_port three 0 3 ≡ true) ×
    (lacks_port three 1 3 ≡ false) ×
    (lacks_port three 1 2 ≡ true) ×
    (lacks_port three 2 2 ≡ false) ×
    (lacks_from three 1 0 ≡ true) ×
    (lacks_from three 1 1 ≡ false) ×
    (lacks_from three 2 1 ≡ true) ×
    (lacks_from three 2 2 ≡ false) ×
    (lacks_from three 3 0 ≡ false)
unfolding computed
lacking = (refl, refl, refl, refl, refl, refl, refl, refl, refl)

-- 18 for a thread that can reach it, not for one that does not; another thread's ports do not help; 17 and 8 before it
linking :
    (lack_fault (four (start 0 (ends 1 0) ∷ [])) ≡ 0) ×
    (lack_fault (four (start 1 (ends 1 255) ∷ [])) ≡ 0) ×
    (lack_fault (four (start 2 (ends 1 255) ∷ [])) ≡ 18) ×
    (lack_fault (four (start 0 (ends 1 0) ∷ start 3 no_ports ∷ [])) ≡ 18) ×
    (links_fault (four (start 3 no_ports ∷ start 4 no_ports ∷ [])) ≡ 8) ×
    (model_fault (four (start 3 (ends 255 4) ∷ start 4 no_ports ∷ [])) ≡ 17) ×
    (model_fault (four (start 0 (ends 3 0) ∷ start 1 (ends 0 255) ∷ [])) ≡ 0) ×
    (model_fault (four (start 3 no_ports ∷ [])) ≡ 18)
unfolding computed
linking = (refl, refl, refl, refl, refl, refl, refl, refl)

-- "33rd thread": 4, but a port's 17 stands before it, thread by thread
threads :
    (starts_fault (four (replicate 32 (start 0 no_ports))) ≡ 0) ×
    (starts_fault (four (replicate 33 (start 0 no_ports))) ≡ 4) ×
    (starts_fault (four (replicate 31 (start 0 no_ports) ++ (start 0 (ends 4 255) ∷ start 0 no_ports ∷ []))) ≡ 17) ×
    (starts_fault (four (replicate 32 (start 0 no_ports) ++ (start 0 (ends 4 255) ∷ []))) ≡ 4)
unfolding computed
threads = (refl, refl, refl, refl)

-- the ports of the last thread
put :
    (start_at (with_ports (with_start (with_start no_model no_start) (start 7 no_ports)) (ends 1 2)) 1 ≡ start 7 (ends 1 2)) ×
    (start_at (with_ports (with_start (with_start no_model no_start) (start 7 no_ports)) (ends 1 2)) 0 ≡ no_start) ×
    ((with_ports (with_start no_model no_start) (ends 1 2)).t ≡ 1)
unfolding computed
put = (refl, refl, refl)
