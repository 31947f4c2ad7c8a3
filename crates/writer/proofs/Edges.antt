-- What is written, byte by byte: closed examples, worked out from document 01.
use Prim.Native.Nat.{ℕ, ◌^◌, ◌-◌}
use mathlib.Core.Path.{◌≡◌, refl}
use mathlib.Core.List.{List, [], ◌∷◌, ◌++◌}
use lib.ListN.{length, replicate}
use Rattle.model.specs.declared.Op.TheVariants.{Set, Add, Copy, AddVariable, SubVariable, Notify}
use Rattle.model.specs.declared.Statement.{Statement}
use Rattle.model.specs.declared.Closer.{Closer}
use Rattle.model.specs.declared.Closer.TheVariants.{End, Time, Event}
use Rattle.model.specs.declared.Segment.{Segment}
use Rattle.model.specs.declared.Start.{Start}
use Rattle.model.specs.declared.Model.{Model}
use Rattle.model.specs.Port.{no_ports}
use Rattle.model.specs.Values.{no_statement, no_segment, no_start, no_model}
use Rattle.model.specs.Rules.{model_fault}
use Rattle.reader.specs.File.{read_file}
use Rattle.writer.specs.Bytes.{bytes_of, joined, closer_bytes, op_bytes}
use Rattle.writer.specs.File.{record_bytes, segment_bytes, ports_bytes, start_bytes, file_of, trimmed_segment, trimmed_start, trimmed}
use Rattle.writer.proofs.Computed.{computed}

-- "Little-endian."

pub bytes_word : (bytes_of 2 4660 ≡ 52 ∷ 18 ∷ []) × (bytes_of 2 65535 ≡ 255 ∷ 255 ∷ []) × (bytes_of 2 256 ≡ 0 ∷ 1 ∷ [])
unfolding computed
bytes_word = (refl, refl, refl)

-- 0, 255, 256, 67,305,985 and 2^32 - 1
pub bytes-long :
    (bytes_of 4 0 ≡ 0 ∷ 0 ∷ 0 ∷ 0 ∷ []) ×
    (bytes_of 4 255 ≡ 255 ∷ 0 ∷ 0 ∷ 0 ∷ []) ×
    (bytes_of 4 256 ≡ 0 ∷ 1 ∷ 0 ∷ 0 ∷ []) ×
    (bytes_of 4 67305985 ≡ 1 ∷ 2 ∷ 3 ∷ 4 ∷ []) ×
    (bytes_of 4 (2 ^ 32 - 1) ≡ 255 ∷ 255 ∷ 255 ∷ 255 ∷ [])
unfolding computed
bytes-long = (refl, refl, refl, refl, refl)

-- f 3, f 4, f 5
pub joined-three : joined 3 3 (bytes_of 2) ≡ 3 ∷ 0 ∷ 4 ∷ 0 ∷ 5 ∷ 0 ∷ []
unfolding computed
joined-three = refl

-- "Statement: operation, one byte a, four bytes b."
pub statement-bytes :
    (op_bytes (Set 9 67305985) ≡ 1 ∷ 9 ∷ 1 ∷ 2 ∷ 3 ∷ 4 ∷ []) ×
    (op_bytes (Add 9 67305985) ≡ 2 ∷ 9 ∷ 1 ∷ 2 ∷ 3 ∷ 4 ∷ []) ×
    (op_bytes (Copy 9 67305985) ≡ 3 ∷ 9 ∷ 1 ∷ 2 ∷ 3 ∷ 4 ∷ []) ×
    (op_bytes (AddVariable 9 67305985) ≡ 4 ∷ 9 ∷ 1 ∷ 2 ∷ 3 ∷ 4 ∷ []) ×
    (op_bytes (SubVariable 9 67305985) ≡ 5 ∷ 9 ∷ 1 ∷ 2 ∷ 3 ∷ 4 ∷ []) ×
    (op_bytes (Notify 9) ≡ 6 ∷ 9 ∷ 0 ∷ 0 ∷ 0 ∷ 0 ∷ [])
unfolding computed
statement-bytes = (refl, refl, refl, refl, refl, refl)

-- "With kind 0 the other twelve bytes are 0"; bytes 2 to 5 the delay, 6 and 7 A and B, 8 the test, 9 to 12 the limit
pub closer-bytes :
    (closer_bytes End ≡ 0 ∷ 0 ∷ 0 ∷ 0 ∷ 0 ∷ 0 ∷ 0 ∷ 0 ∷ 0 ∷ 0 ∷ 0 ∷ 0 ∷ 0 ∷ []) ×
    (closer_bytes (Time (record { 0 = 100992003 }) (record { a = 7; b = 8; test = 9; limit = 218893066 }))
    ≡ 1 ∷ 0 ∷ 3 ∷ 4 ∷ 5 ∷ 6 ∷ 7 ∷ 8 ∷ 9 ∷ 10 ∷ 11 ∷ 12 ∷ 13 ∷ []) ×
    (closer_bytes (Event 2 (record { a = 7; b = 8; test = 9; limit = 218893066 }))
    ≡ 2 ∷ 2 ∷ 0 ∷ 0 ∷ 0 ∷ 0 ∷ 7 ∷ 8 ∷ 9 ∷ 10 ∷ 11 ∷ 12 ∷ 13 ∷ [])
unfolding computed
closer-bytes = (refl, refl, refl)

-- "a two-byte length (whole record, head included), a two-byte kind": 5 bytes, and 259 whose high byte counts
pub record-bytes : (record_bytes 3 (7 ∷ []) ≡ 5 ∷ 0 ∷ 3 ∷ 0 ∷ 7 ∷ []) × (record_bytes 2 (replicate 255 1) ≡ 3 ∷ 1 ∷ 2 ∷ 0 ∷ replicate 255 1)
unfolding computed
record-bytes = (refl, refl)

-- a segment of two statements, with a third past its count
abbrev two_of : Statement → Segment
two_of third =
    record { closer = End; n = 2; statements = record { op = AddVariable 1 0 } ∷ record { op = Notify 0 } ∷ third ∷ replicate 29 no_statement }

-- "length 17 + 6n": 29
pub segment-bytes :
    segment_bytes (two_of no_statement)
    ≡ (29 ∷ 0 ∷ 2 ∷ 0 ∷ replicate 13 0) ++ (4 ∷ 1 ∷ 0 ∷ 0 ∷ 0 ∷ 0 ∷ 6 ∷ 0 ∷ 0 ∷ 0 ∷ 0 ∷ 0 ∷ [])
unfolding computed
segment-bytes = refl

-- what stands past the count is not written, and is zero in the trimmed segment
pub segment-past :
    (segment_bytes (two_of (record { op = Notify 3 })) ≡ segment_bytes (two_of no_statement)) ×
    (trimmed_segment (two_of (record { op = Notify 3 })) ≡ two_of no_statement)
unfolding computed
segment-past = (refl, refl)

-- eight ports of which the first and the last are as given
abbrev ports_of : ℕ → ℕ → List ℕ
ports_of a b = a ∷ (replicate 6 255 ++ (b ∷ []))

abbrev start_of : List ℕ → Start
start_of ps = record { first = 2; ports = ps }

-- "a record of kind 5 (length 12)": eight bytes, in the order of the ports
pub ports-bytes :
    ports_bytes (0 ∷ 1 ∷ 2 ∷ 3 ∷ 4 ∷ 5 ∷ 6 ∷ 63 ∷ []) ≡ 12 ∷ 0 ∷ 5 ∷ 0 ∷ 0 ∷ 1 ∷ 2 ∷ 3 ∷ 4 ∷ 5 ∷ 6 ∷ 63 ∷ []
unfolding computed
ports-bytes = refl

-- the first alone, the last alone, a number that is no variable; "writes no record where all eight are unused"
pub ports-used :
    (ports_bytes (ports_of 0 255) ≡ 12 ∷ 0 ∷ 5 ∷ 0 ∷ 0 ∷ 255 ∷ 255 ∷ 255 ∷ 255 ∷ 255 ∷ 255 ∷ 255 ∷ []) ×
    (ports_bytes (ports_of 255 0) ≡ 12 ∷ 0 ∷ 5 ∷ 0 ∷ 255 ∷ 255 ∷ 255 ∷ 255 ∷ 255 ∷ 255 ∷ 255 ∷ 0 ∷ []) ×
    (ports_bytes (ports_of 255 254) ≡ 12 ∷ 0 ∷ 5 ∷ 0 ∷ 255 ∷ 255 ∷ 255 ∷ 255 ∷ 255 ∷ 255 ∷ 255 ∷ 254 ∷ []) ×
    (ports_bytes (ports_of 255 255) ≡ []) ×
    (ports_bytes no_ports ≡ [])
unfolding computed
ports-used = (refl, refl, refl, refl, refl)

-- after the thread's record
pub start-bytes :
    (start_bytes (start_of (ports_of 9 255)) ≡ (5 ∷ 0 ∷ 3 ∷ 0 ∷ 2 ∷ []) ++ (12 ∷ 0 ∷ 5 ∷ 0 ∷ 9 ∷ 255 ∷ 255 ∷ 255 ∷ 255 ∷ 255 ∷ 255 ∷ 255 ∷ [])) ×
    (start_bytes (start_of no_ports) ≡ 5 ∷ 0 ∷ 3 ∷ 0 ∷ 2 ∷ [])
unfolding computed
start-bytes = (refl, refl)

-- eight ports stay, a ninth goes
pub start-trimmed :
    (trimmed_start (start_of (ports_of 9 7)) ≡ start_of (ports_of 9 7)) ×
    (trimmed_start (start_of no_ports) ≡ start_of no_ports) ×
    (trimmed_start (start_of (ports_of 9 7 ++ (1 ∷ []))) ≡ start_of (ports_of 9 7))
unfolding computed
start-trimmed = (refl, refl, refl)

-- H = 10, V = 0, E = 0, one segment that ends, one thread at 0; in the second places what is given
abbrev small : Segment → ℕ → Model
small g s =
    record {
      horizon = record { 0 = 10 };
      v = 0;
      e = 0;
      n = 1;
      t = 1;
      segments = no_segment ∷ g ∷ replicate 62 no_segment;
      starts = no_start ∷ record { first = s; ports = no_ports } ∷ replicate 30 no_start;
    }

-- its 36 bytes
abbrev small_file : List ℕ
small_file =
    (10 ∷ 0 ∷ 1 ∷ 0 ∷ 10 ∷ 0 ∷ 0 ∷ 0 ∷ 0 ∷ 0 ∷ [])
    ++ (17 ∷ 0 ∷ 2 ∷ 0 ∷ replicate 13 0)
    ++ (5 ∷ 0 ∷ 3 ∷ 0 ∷ 0 ∷ [])
    ++ (4 ∷ 0 ∷ 4 ∷ 0 ∷ [])

pub file-smallest : (file_of (small no_segment 0) ≡ small_file) × (length (file_of (small no_segment 0)) ≡ 36)
unfolding computed
file-smallest = (refl, refl)

-- "the same model up to its counts": a second segment and a second thread past the counts
pub file-past : (file_of (small (two_of no_statement) 7) ≡ small_file) × (trimmed (small (two_of no_statement) 7) ≡ small no_segment 0)
unfolding computed
file-past = (refl, refl)

-- H = 10, V = 1, E = 0, one segment that ends, and of three threads as many as are counted: ports, none, ports
abbrev ported : ℕ → Model
ported t =
    record {
      horizon = record { 0 = 10 };
      v = 1;
      e = 0;
      n = 1;
      t = t;
      segments = replicate 64 no_segment;
      starts =
          record { first = 0; ports = ports_of 255 0 } ∷ no_start ∷ record { first = 0; ports = ports_of 0 255 } ∷ replicate 29 no_start;
    }

-- its head and its segment
abbrev ported_front : List ℕ
ported_front = (10 ∷ 0 ∷ 1 ∷ 0 ∷ 10 ∷ 0 ∷ 0 ∷ 0 ∷ 1 ∷ 0 ∷ []) ++ (17 ∷ 0 ∷ 2 ∷ 0 ∷ replicate 13 0)

-- each record of ports directly after its thread's, 70 bytes; past the count none
pub file-ports :
    (file_of (ported 3)
    ≡ ported_front
    ++ (5 ∷ 0 ∷ 3 ∷ 0 ∷ 0 ∷ [])
    ++ (12 ∷ 0 ∷ 5 ∷ 0 ∷ 255 ∷ 255 ∷ 255 ∷ 255 ∷ 255 ∷ 255 ∷ 255 ∷ 0 ∷ [])
    ++ (5 ∷ 0 ∷ 3 ∷ 0 ∷ 0 ∷ [])
    ++ (5 ∷ 0 ∷ 3 ∷ 0 ∷ 0 ∷ [])
    ++ (12 ∷ 0 ∷ 5 ∷ 0 ∷ 0 ∷ 255 ∷ 255 ∷ 255 ∷ 255 ∷ 255 ∷ 255 ∷ 255 ∷ [])
    ++ (4 ∷ 0 ∷ 4 ∷ 0 ∷ [])) ×
    (length (file_of (ported 3)) ≡ 70) ×
    (length (file_of (ported 2)) ≡ 53) ×
    (length (file_of (ported 1)) ≡ 48)
unfolding computed
file-ports = (refl, refl, refl, refl)

-- "refuses with 17 (for a mapped number)": V = 1, a thread whose first port is as given: variable 0, V, 254, unused
abbrev mapping : ℕ → Model
mapping x =
    record {
      horizon = record { 0 = 10 };
      v = 1;
      e = 0;
      n = 1;
      t = 1;
      segments = replicate 64 no_segment;
      starts = record { first = 0; ports = ports_of x 255 } ∷ replicate 31 no_start;
    }

pub mapped-fault : (model_fault (mapping 0) ≡ 0) × (model_fault (mapping 1) ≡ 17) × (model_fault (mapping 254) ≡ 17) × (model_fault (mapping 255) ≡ 0)
unfolding computed
mapped-fault = (refl, refl, refl, refl)

-- and the reader says so of their files
pub mapped-read :
    (read_file (file_of (mapping 0)) ≡ record { number = 0; model = mapping 0 }) ×
    ((read_file (file_of (mapping 1))).number ≡ 17) ×
    ((read_file (file_of (mapping 254))).number ≡ 17) ×
    (read_file (file_of (mapping 255)) ≡ record { number = 0; model = mapping 255 })
unfolding computed
mapped-read = (refl, refl, refl, refl)

-- no segment and no thread: a head of zeros and an end
pub file-nothing : file_of no_model ≡ (10 ∷ 0 ∷ 1 ∷ 0 ∷ 0 ∷ 0 ∷ 0 ∷ 0 ∷ 0 ∷ 0 ∷ []) ++ (4 ∷ 0 ∷ 4 ∷ 0 ∷ [])
unfolding computed
file-nothing = refl

-- the model M: V = 3, E = 1, H = 1,261; segments 0 to 3; threads at 0 and 2
abbrev segment_of : Closer → List Statement → ℕ → ℕ → Segment
segment_of c said n unused = record { closer = c; n = n; statements = said ++ replicate unused no_statement }

abbrev listening : Closer
listening = Event 0 (record { a = 3; b = 3; test = 255; limit = 0 })

abbrev model_m : Model
model_m =
    record {
      horizon = record { 0 = 1261 };
      v = 3;
      e = 1;
      n = 4;
      t = 2;
      segments =
          segment_of (Time (record { 0 = 10 }) (record { a = 0; b = 1; test = 0; limit = 126 }))
          (record { op = Add 0 1 } ∷ record { op = Notify 0 } ∷ []) 2 30 ∷
          no_segment ∷
          segment_of listening [] 0 32 ∷
          segment_of listening (record { op = Copy 1 0 } ∷ record { op = Add 2 1 } ∷ []) 2 30 ∷
          replicate 60 no_segment;
      starts = record { first = 0; ports = no_ports } ∷ record { first = 2; ports = no_ports } ∷ replicate 30 no_start;
    }

-- its 116 bytes
pub file-M :
    file_of model_m
    ≡ (10 ∷ 0 ∷ 1 ∷ 0 ∷ 237 ∷ 4 ∷ 0 ∷ 0 ∷ 3 ∷ 1 ∷ [])
    ++ (29 ∷ 0 ∷ 2 ∷ 0 ∷ 1 ∷ 0 ∷ 10 ∷ 0 ∷ 0 ∷ 0 ∷ 0 ∷ 1 ∷ 0 ∷ 126 ∷ 0 ∷ 0 ∷ 0 ∷ [])
    ++ (2 ∷ 0 ∷ 1 ∷ 0 ∷ 0 ∷ 0 ∷ 6 ∷ 0 ∷ 0 ∷ 0 ∷ 0 ∷ 0 ∷ [])
    ++ (17 ∷ 0 ∷ 2 ∷ 0 ∷ 0 ∷ 0 ∷ 0 ∷ 0 ∷ 0 ∷ 0 ∷ 0 ∷ 0 ∷ 0 ∷ 0 ∷ 0 ∷ 0 ∷ 0 ∷ [])
    ++ (17 ∷ 0 ∷ 2 ∷ 0 ∷ 2 ∷ 0 ∷ 0 ∷ 0 ∷ 0 ∷ 0 ∷ 3 ∷ 3 ∷ 255 ∷ 0 ∷ 0 ∷ 0 ∷ 0 ∷ [])
    ++ (29 ∷ 0 ∷ 2 ∷ 0 ∷ 2 ∷ 0 ∷ 0 ∷ 0 ∷ 0 ∷ 0 ∷ 3 ∷ 3 ∷ 255 ∷ 0 ∷ 0 ∷ 0 ∷ 0 ∷ [])
    ++ (3 ∷ 1 ∷ 0 ∷ 0 ∷ 0 ∷ 0 ∷ 2 ∷ 2 ∷ 1 ∷ 0 ∷ 0 ∷ 0 ∷ [])
    ++ (5 ∷ 0 ∷ 3 ∷ 0 ∷ 0 ∷ [])
    ++ (5 ∷ 0 ∷ 3 ∷ 0 ∷ 2 ∷ [])
    ++ (4 ∷ 0 ∷ 4 ∷ 0 ∷ [])
unfolding computed
file-M = refl
