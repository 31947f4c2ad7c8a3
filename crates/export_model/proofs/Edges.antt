-- Every rule of numbers that hold a model at, below and above its edge, and where each number stands: closed examples, worked out by hand.
use Prim.Native.Nat.{ℕ}
use mathlib.Core.Path.{◌≡◌, refl}
use mathlib.Core.List.{List, [], ◌∷◌, ◌++◌}
use lib.ListN.{set, replicate}
use Rattle.model.specs.declared.Op.TheVariants.{Set, Add, Copy, AddVariable, SubVariable, Notify}
use Rattle.model.specs.declared.Closer.TheVariants.{Time, Event}
use Rattle.model.specs.declared.Model.{Model}
use Rattle.model.specs.Values.{no_statement, no_segment, no_start, no_model}
use Rattle.export_model.specs.Numbers.{numbers_of}
use Rattle.export_model.specs.Judged.{segment_numbers_fault, numbers_number, model_held, held_or}
use Rattle.export_model.proofs.Computed.{computed}

-- places with other numbers: place, number, place, number, ..
abbrev edited : List ℕ → List ℕ → List ℕ
edited xs [] = xs
edited xs (p ∷ []) = xs
edited xs (p ∷ x ∷ es) = edited (set xs p x) es

-- the number that each edit gets
abbrev judged : List ℕ → List (List ℕ) → List ℕ
judged xs [] = []
judged xs (e ∷ es) = numbers_number (edited xs e) ∷ judged xs es

-- a thread that starts at 0 and uses no port
abbrev still : List ℕ
still = 0 ∷ replicate 8 255

-- H = 10, V = 4, E = 3; one segment that ends, one thread in it. The segment begins at 5, its n stands at 12, its statements begin at 13, the
-- thread's first segment stands at 109, its ports at 110 to 117.
abbrev one : List ℕ
one = 10 ∷ 4 ∷ 3 ∷ 1 ∷ 1 ∷ (replicate 104 0 ++ still)

-- with one statement, v0 := 0; and with a closer that waits one unit, or on event 0, without a test
abbrev stated : List ℕ
stated = edited one (12 ∷ 1 ∷ 13 ∷ 1 ∷ [])

abbrev timed : List ℕ
timed = edited one (5 ∷ 1 ∷ 7 ∷ 1 ∷ 10 ∷ 255 ∷ [])

abbrev waiting : List ℕ
waiting = edited one (5 ∷ 2 ∷ 10 ∷ 255 ∷ [])

-- 65 segments that end, one thread: the third begins at 213, the n of the 65th stands at 6668
abbrev many : List ℕ
many = 10 ∷ 4 ∷ 3 ∷ 65 ∷ 1 ∷ replicate 6769 0

-- long enough, and one number less; less than the head
pub length-edges :
    (numbers_number one ≡ 0) ×
    (numbers_number (10 ∷ 4 ∷ 3 ∷ 1 ∷ 1 ∷ replicate 113 0) ≡ 0) ×
    (numbers_number (10 ∷ 4 ∷ 3 ∷ 1 ∷ 1 ∷ replicate 112 0) ≡ 11) ×
    (numbers_number (10 ∷ 4 ∷ 3 ∷ 1 ∷ 1 ∷ replicate 114 7) ≡ 5) ×
    (numbers_number (10 ∷ 4 ∷ 3 ∷ 0 ∷ []) ≡ 11) ×
    (numbers_number [] ≡ 11) ×
    (numbers_number (0 ∷ 4 ∷ 3 ∷ 4294967295 ∷ 4294967295 ∷ []) ≡ 11)
unfolding computed
length-edges = (refl, refl, refl, refl, refl, refl, refl)

-- no segment, no thread, 33 threads; the head stands first
pub count-edges :
    (numbers_number (10 ∷ 4 ∷ 3 ∷ 0 ∷ 1 ∷ still) ≡ 2) ×
    (numbers_number (10 ∷ 4 ∷ 3 ∷ 1 ∷ 0 ∷ replicate 104 0) ≡ 2) ×
    (numbers_number (0 ∷ 4 ∷ 3 ∷ 0 ∷ 1 ∷ still) ≡ 4) ×
    (numbers_number (10 ∷ 4 ∷ 3 ∷ 1 ∷ 32 ∷ replicate 392 0) ≡ 0) ×
    (numbers_number (10 ∷ 4 ∷ 3 ∷ 1 ∷ 33 ∷ replicate 401 0) ≡ 4)
unfolding computed
count-edges = (refl, refl, refl, refl, refl)

-- ports: 255 or below V, the first and the last; 17 after 7 and before 8; no segment is 2 before 17
pub port-edges :
    (judged one ((110 ∷ 0 ∷ []) ∷ (110 ∷ 3 ∷ []) ∷ (110 ∷ 4 ∷ []) ∷ (110 ∷ 128 ∷ []) ∷ (110 ∷ 254 ∷ []) ∷ (110 ∷ 256 ∷ []) ∷ []) ≡ 0 ∷ 0 ∷
    17 ∷ 17 ∷ 17 ∷ 17 ∷ []) ×
    (judged one ((117 ∷ 3 ∷ []) ∷ (117 ∷ 4 ∷ []) ∷ (117 ∷ 256 ∷ []) ∷ (110 ∷ 0 ∷ 114 ∷ 4 ∷ []) ∷ []) ≡ 0 ∷ 17 ∷ 17 ∷ 17 ∷ []) ×
    (judged one ((1 ∷ 0 ∷ []) ∷ (1 ∷ 0 ∷ 110 ∷ 0 ∷ []) ∷ (1 ∷ 64 ∷ 110 ∷ 63 ∷ []) ∷ (1 ∷ 64 ∷ 110 ∷ 64 ∷ []) ∷ []) ≡ 0 ∷ 17 ∷ 0 ∷ 17 ∷ []) ×
    (judged one ((110 ∷ 4 ∷ 109 ∷ 1 ∷ []) ∷ (110 ∷ 4 ∷ 5 ∷ 3 ∷ []) ∷ []) ≡ 17 ∷ 5 ∷ []) ×
    (numbers_number (10 ∷ 4 ∷ 3 ∷ 0 ∷ 1 ∷ replicate 9 4) ≡ 2)
unfolding computed
port-edges = (refl, refl, refl, refl, refl)

-- thread by thread: a 17 of the first 32 stands before the 33rd's 4, and that before its own 17
pub thread-edges :
    (numbers_number (edited (10 ∷ 4 ∷ 3 ∷ 1 ∷ 33 ∷ replicate 401 0) (396 ∷ 4 ∷ [])) ≡ 17) ×
    (numbers_number (edited (10 ∷ 4 ∷ 3 ∷ 1 ∷ 33 ∷ replicate 401 0) (405 ∷ 4 ∷ [])) ≡ 4) ×
    (numbers_number (edited (10 ∷ 4 ∷ 3 ∷ 1 ∷ 32 ∷ replicate 392 0) (396 ∷ 4 ∷ [])) ≡ 17) ×
    (numbers_number (edited (10 ∷ 4 ∷ 3 ∷ 1 ∷ 32 ∷ replicate 392 0) (388 ∷ 1 ∷ [])) ≡ 8)
unfolding computed
thread-edges = (refl, refl, refl, refl)

-- H, V, E
pub head-edges :
    (judged one ((0 ∷ 0 ∷ []) ∷ (0 ∷ 1 ∷ []) ∷ (0 ∷ 1000000000 ∷ []) ∷ (0 ∷ 1000000001 ∷ []) ∷ []) ≡ 4 ∷ 0 ∷ 0 ∷ 4 ∷ []) ×
    (judged one ((1 ∷ 64 ∷ []) ∷ (1 ∷ 65 ∷ []) ∷ (2 ∷ 32 ∷ []) ∷ (2 ∷ 33 ∷ []) ∷ []) ≡ 0 ∷ 4 ∷ 0 ∷ 4 ∷ [])
unfolding computed
head-edges = (refl, refl)

-- n: 33 statements are 3, before that segment's closer; 32 are looked at
pub length-of-segment :
    judged one ((12 ∷ 33 ∷ []) ∷ (12 ∷ 33 ∷ 5 ∷ 3 ∷ []) ∷ (12 ∷ 32 ∷ []) ∷ (12 ∷ 4294967295 ∷ []) ∷ []) ≡ 3 ∷ 3 ∷ 6 ∷ 3 ∷ []
unfolding computed
length-of-segment = refl

-- a 65th segment: 4, after the closers before it; its own 3 stands first
pub many-edges :
    (numbers_number (edited many (213 ∷ 3 ∷ [])) ≡ 5) ×
    (segment_numbers_fault many 63 ≡ 0) ×
    (segment_numbers_fault many 64 ≡ 4) ×
    (segment_numbers_fault (edited many (6661 ∷ 3 ∷ [])) 64 ≡ 4) ×
    (segment_numbers_fault (edited many (6668 ∷ 33 ∷ [])) 64 ≡ 3)
unfolding computed
many-edges = (refl, refl, refl, refl, refl)

-- kind 0 with another number, at each of six places; kinds 3 and 257
pub kind-edges :
    (judged one ((6 ∷ 1 ∷ []) ∷ (7 ∷ 1 ∷ []) ∷ (8 ∷ 1 ∷ []) ∷ (9 ∷ 1 ∷ []) ∷ (10 ∷ 1 ∷ []) ∷ (11 ∷ 1 ∷ []) ∷ []) ≡ 5 ∷ 5 ∷ 5 ∷ 5 ∷ 5 ∷ 5 ∷
    []) ×
    (judged one ((5 ∷ 3 ∷ []) ∷ (5 ∷ 256 ∷ []) ∷ (5 ∷ 257 ∷ []) ∷ (5 ∷ 258 ∷ []) ∷ []) ≡ 5 ∷ 5 ∷ 5 ∷ 5 ∷ [])
unfolding computed
kind-edges = (refl, refl)

-- kind 1: no event, a delay of at most 1,000,000,000
pub time-edges :
    judged timed ([] ∷ (6 ∷ 1 ∷ []) ∷ (7 ∷ 1000000000 ∷ []) ∷ (7 ∷ 1000000001 ∷ []) ∷ []) ≡ 0 ∷ 5 ∷ 0 ∷ 5 ∷ []
unfolding computed
time-edges = refl

-- kind 2: no delay, an event below E
pub event-edges :
    judged waiting ([] ∷ (7 ∷ 1 ∷ []) ∷ (6 ∷ 2 ∷ []) ∷ (6 ∷ 3 ∷ []) ∷ (6 ∷ 256 ∷ []) ∷ []) ≡ 0 ∷ 5 ∷ 0 ∷ 7 ∷ 7 ∷ []
unfolding computed
event-edges = refl

-- without a test B is A and the limit 0; a test variable is below V. 5 stands before 7, both before 8
pub test-edges :
    (judged timed ((9 ∷ 1 ∷ []) ∷ (8 ∷ 1 ∷ []) ∷ (11 ∷ 1 ∷ []) ∷ (8 ∷ 1 ∷ 9 ∷ 1 ∷ []) ∷ []) ≡ 5 ∷ 5 ∷ 5 ∷ 8 ∷ []) ×
    (judged timed ((10 ∷ 3 ∷ []) ∷ (10 ∷ 4 ∷ []) ∷ (10 ∷ 254 ∷ []) ∷ (10 ∷ 256 ∷ []) ∷ (10 ∷ 3 ∷ 11 ∷ 4294967295 ∷ []) ∷ []) ≡ 0 ∷ 7 ∷ 7 ∷
    7 ∷ 0 ∷ []) ×
    (judged waiting ((6 ∷ 3 ∷ 11 ∷ 1 ∷ []) ∷ (6 ∷ 3 ∷ 10 ∷ 3 ∷ 9 ∷ 1 ∷ []) ∷ []) ≡ 5 ∷ 7 ∷ [])
unfolding computed
test-edges = (refl, refl, refl)

-- a test through a port: 128 to 135, where the thread uses it
pub test-port-edges :
    (judged timed ((10 ∷ 127 ∷ 110 ∷ 0 ∷ []) ∷ (10 ∷ 128 ∷ 110 ∷ 0 ∷ []) ∷ (10 ∷ 135 ∷ 117 ∷ 0 ∷ []) ∷ (10 ∷ 136 ∷ 117 ∷ 0 ∷ []) ∷ []) ≡ 7 ∷
    0 ∷ 0 ∷ 7 ∷ []) ×
    (judged waiting ((10 ∷ 128 ∷ []) ∷ (10 ∷ 128 ∷ 110 ∷ 3 ∷ []) ∷ (10 ∷ 136 ∷ []) ∷ []) ≡ 18 ∷ 0 ∷ 7 ∷ [])
unfolding computed
test-port-edges = (refl, refl)

-- operations 1 to 6; a notify's b is 0, another's need not be
pub op-edges :
    (judged stated ([] ∷ (13 ∷ 0 ∷ []) ∷ (13 ∷ 6 ∷ []) ∷ (13 ∷ 7 ∷ []) ∷ (13 ∷ 257 ∷ []) ∷ []) ≡ 0 ∷ 6 ∷ 0 ∷ 6 ∷ 6 ∷ []) ×
    (judged stated ((13 ∷ 6 ∷ 15 ∷ 1 ∷ []) ∷ (13 ∷ 1 ∷ 15 ∷ 4294967295 ∷ []) ∷ (13 ∷ 2 ∷ 15 ∷ 4 ∷ []) ∷ []) ≡ 6 ∷ 0 ∷ 0 ∷ [])
unfolding computed
op-edges = (refl, refl)

-- names: a below V, b below V where it names, an event below E
pub name-edges :
    (judged stated ((14 ∷ 3 ∷ []) ∷ (14 ∷ 4 ∷ []) ∷ (14 ∷ 256 ∷ []) ∷ (13 ∷ 2 ∷ 14 ∷ 4 ∷ []) ∷ []) ≡ 0 ∷ 7 ∷ 7 ∷ 7 ∷ []) ×
    (judged stated ((13 ∷ 3 ∷ 15 ∷ 3 ∷ []) ∷ (13 ∷ 3 ∷ 15 ∷ 4 ∷ []) ∷ (13 ∷ 4 ∷ 15 ∷ 4 ∷ []) ∷ (13 ∷ 5 ∷ 15 ∷ 4 ∷ []) ∷
    (13 ∷ 5 ∷ 14 ∷ 4 ∷ []) ∷ []) ≡ 0 ∷ 7 ∷ 7 ∷ 7 ∷ 7 ∷ []) ×
    (judged stated ((13 ∷ 6 ∷ 14 ∷ 2 ∷ []) ∷ (13 ∷ 6 ∷ 14 ∷ 3 ∷ []) ∷ (13 ∷ 6 ∷ 14 ∷ 256 ∷ []) ∷ []) ≡ 0 ∷ 7 ∷ 7 ∷ []) ×
    (judged stated ((5 ∷ 3 ∷ 13 ∷ 0 ∷ []) ∷ (13 ∷ 0 ∷ 14 ∷ 4 ∷ []) ∷ (12 ∷ 2 ∷ 13 ∷ 2 ∷ 14 ∷ 4 ∷ []) ∷ (12 ∷ 2 ∷ 14 ∷ 4 ∷ []) ∷ []) ≡ 5 ∷
    6 ∷ 7 ∷ 7 ∷ [])
unfolding computed
name-edges = (refl, refl, refl, refl)

-- names through ports: 128 to 135, b as a whole number; constants and events have none
pub port-name-edges :
    (judged stated ((14 ∷ 127 ∷ 110 ∷ 0 ∷ []) ∷ (14 ∷ 128 ∷ 110 ∷ 0 ∷ []) ∷ (14 ∷ 135 ∷ 117 ∷ 0 ∷ []) ∷ (14 ∷ 136 ∷ 117 ∷ 0 ∷ []) ∷ (14 ∷ 255 ∷ []) ∷
    []) ≡ 7 ∷ 0 ∷ 0 ∷ 7 ∷ 7 ∷ []) ×
    (judged stated ((13 ∷ 3 ∷ 15 ∷ 127 ∷ []) ∷ (13 ∷ 3 ∷ 15 ∷ 128 ∷ 110 ∷ 0 ∷ []) ∷ (13 ∷ 4 ∷ 15 ∷ 135 ∷ 117 ∷ 0 ∷ []) ∷ (13 ∷ 5 ∷ 15 ∷ 136 ∷ []) ∷
    (13 ∷ 3 ∷ 15 ∷ 384 ∷ 110 ∷ 0 ∷ []) ∷ []) ≡ 7 ∷ 0 ∷ 0 ∷ 7 ∷ 7 ∷ []) ×
    (judged stated ((13 ∷ 1 ∷ 15 ∷ 128 ∷ []) ∷ (13 ∷ 2 ∷ 15 ∷ 135 ∷ []) ∷ (13 ∷ 6 ∷ 14 ∷ 128 ∷ []) ∷ []) ≡ 0 ∷ 0 ∷ 7 ∷ [])
unfolding computed
port-name-edges = (refl, refl, refl)

-- 18: the port that the segment names is unused, another does not help; 7, 17 and 8 stand first
pub lack-edges :
    (judged stated ((14 ∷ 128 ∷ []) ∷ (14 ∷ 128 ∷ 111 ∷ 0 ∷ []) ∷ (14 ∷ 135 ∷ 116 ∷ 0 ∷ []) ∷ (13 ∷ 3 ∷ 15 ∷ 129 ∷ 110 ∷ 0 ∷ []) ∷ []) ≡ 18 ∷ 18 ∷
    18 ∷ 18 ∷ []) ×
    (judged stated ((14 ∷ 128 ∷ 109 ∷ 1 ∷ []) ∷ (14 ∷ 128 ∷ 111 ∷ 4 ∷ []) ∷ (12 ∷ 2 ∷ 14 ∷ 128 ∷ 16 ∷ 1 ∷ 17 ∷ 4 ∷ []) ∷ []) ≡ 8 ∷ 17 ∷ 7 ∷ [])
unfolding computed
lack-edges = (refl, refl)

-- targets: A, B and the first segment below N
pub target-edges :
    (judged timed ((8 ∷ 1 ∷ 9 ∷ 1 ∷ []) ∷ (10 ∷ 3 ∷ 8 ∷ 1 ∷ []) ∷ (10 ∷ 3 ∷ 9 ∷ 1 ∷ []) ∷ (10 ∷ 3 ∷ 9 ∷ 256 ∷ []) ∷ []) ≡ 8 ∷ 8 ∷ 8 ∷ 8 ∷
    []) ×
    (judged waiting ((8 ∷ 1 ∷ 9 ∷ 1 ∷ []) ∷ []) ≡ 8 ∷ []) ×
    (judged one ((109 ∷ 0 ∷ []) ∷ (109 ∷ 1 ∷ []) ∷ (109 ∷ 256 ∷ []) ∷ []) ≡ 0 ∷ 8 ∷ 8 ∷ [])
unfolding computed
target-edges = (refl, refl, refl)

-- two segments, two threads: every number in its place, read and written
abbrev pair : Model
pair =
    record {
      horizon = record { 0 = 10 };
      v = 4;
      e = 3;
      n = 2;
      t = 2;
      segments =
          record {
            closer = Time (record { 0 = 7 }) (record { a = 1; b = 0; test = 3; limit = 9 });
            n = 3;
            statements = record { op = Set 0 11 } ∷ record { op = Add 1 12 } ∷ record { op = Copy 2 3 } ∷ replicate 29 no_statement;
          }
          ∷ record {
            closer = Event 2 (record { a = 1; b = 1; test = 255; limit = 0 });
            n = 3;
            statements = record { op = AddVariable 3 0 } ∷ record { op = SubVariable 0 1 } ∷ record { op = Notify 2 } ∷ replicate 29
                no_statement;
          }
          ∷ replicate 62 no_segment;
      starts =
          record { first = 1; ports = 255 ∷ 255 ∷ 255 ∷ 255 ∷ 255 ∷ 255 ∷ 255 ∷ 3 ∷ [] }
          ∷ record { first = 0; ports = 0 ∷ 1 ∷ 255 ∷ 3 ∷ 0 ∷ 1 ∷ 2 ∷ 255 ∷ [] }
          ∷ replicate 30 no_start;
    }

abbrev pair_numbers : List ℕ
pair_numbers =
    10 ∷ 4 ∷ 3 ∷ 2 ∷ 2
    ∷ 1 ∷ 0 ∷ 7 ∷ 1 ∷ 0 ∷ 3 ∷ 9 ∷ 3
    ∷ 1 ∷ 0 ∷ 11 ∷ 2 ∷ 1 ∷ 12 ∷ 3 ∷ 2 ∷ 3
    ∷ (replicate 87 0 ++ (2 ∷ 2 ∷ 0 ∷ 1 ∷ 1 ∷ 255 ∷ 0 ∷ 3 ∷ 4 ∷ 3 ∷ 0 ∷ 5 ∷ 0 ∷ 1 ∷ 6 ∷ 2 ∷ 0 ∷ (replicate 87 0 ++ (
    1 ∷ 255 ∷ 255 ∷ 255 ∷ 255 ∷ 255 ∷ 255 ∷ 255 ∷ 3 ∷ 0 ∷ 0 ∷ 1 ∷ 255 ∷ 3 ∷ 0 ∷ 1 ∷ 2 ∷ 255 ∷ []))))

pub held-edges :
    (numbers_of pair ≡ pair_numbers) ×
    (model_held pair_numbers ≡ pair) ×
    (held_or pair_numbers ≡ pair) ×
    (held_or (edited pair_numbers (5 ∷ 3 ∷ [])) ≡ no_model) ×
    (held_or (pair_numbers ++ (7 ∷ [])) ≡ pair)
unfolding computed
held-edges = (refl, refl, refl, refl, refl)

-- thread 1 begins at segment 0, which may go on with segment 1; thread 0 stays in segment 1. The first statement of segment 0 stands at 13, that
-- of segment 1 at 117. A thread's own ports count, by whatever way it gets there, and not those of one that does not.
pub reach-edges :
    (judged pair_numbers ((14 ∷ 130 ∷ []) ∷ (14 ∷ 131 ∷ []) ∷ (14 ∷ 135 ∷ []) ∷ []) ≡ 18 ∷ 0 ∷ 18 ∷ []) ×
    (judged pair_numbers ((118 ∷ 131 ∷ []) ∷ (118 ∷ 135 ∷ []) ∷ (118 ∷ 131 ∷ 217 ∷ 0 ∷ []) ∷ (118 ∷ 135 ∷ 230 ∷ 0 ∷ []) ∷ []) ≡ 18 ∷ 18 ∷ 0 ∷ 0 ∷ [])
unfolding computed
reach-edges = (refl, refl)

-- statements past n and what stands past the numbers are not looked at
pub past-edges : (held_or (edited one (13 ∷ 9 ∷ [])) ≡ model_held one) × (held_or (one ++ (9 ∷ [])) ≡ model_held one)
unfolding computed
past-edges = (refl, refl)
