-- Every rule of a file at, below and above its edge: closed examples, worked out from document 01.
-- A good record with nothing after it gets 1 ("bytes end before a record's head"), so a few records show a rule.
use Prim.Native.Nat.{ℕ, zero, suc, ◌+◌}
use mathlib.Core.Path.{◌≡◌, refl}
use mathlib.Core.List.{List, [], ◌∷◌, ◌++◌}
use lib.ListN.{length, set, replicate}
use Rattle.base.specs.Index.{or_else}
use Rattle.model.specs.declared.Op.TheVariants.{Set, Add, Copy, AddVariable, SubVariable, Notify}
use Rattle.model.specs.declared.Closer.TheVariants.{End, Time, Event}
use Rattle.model.specs.declared.Model.{Model}
use Rattle.model.specs.Port.{no_ports}
use Rattle.model.specs.Values.{no_statement, no_segment, no_start, no_model}
use Rattle.reader.specs.Closer.{closer_from, closer_bytes_fault}
use Rattle.reader.specs.Statement.{op_from, op_bytes_fault}
use Rattle.reader.specs.Record.{framing_fault, body_fault}
use Rattle.reader.specs.File.{read_file}
use Rattle.reader.proofs.Computed.{computed}

-- the number that each file gets
abbrev numbers_of : List (List ℕ) → List ℕ
numbers_of [] = []
numbers_of (b ∷ bs) = (read_file b).number ∷ numbers_of bs

-- records: a head of H = 10, a segment of a closer's and statements' bytes, a thread, the end
abbrev head : ℕ → ℕ → List ℕ
head v e = 10 ∷ 0 ∷ 1 ∷ 0 ∷ 10 ∷ 0 ∷ 0 ∷ 0 ∷ v ∷ e ∷ []

abbrev segment : List ℕ → List ℕ → List ℕ
segment closer statements = (17 + length statements) ∷ 0 ∷ 2 ∷ 0 ∷ (closer ++ statements)

abbrev thread : ℕ → List ℕ
thread s = 5 ∷ 0 ∷ 3 ∷ 0 ∷ s ∷ []

abbrev end : List ℕ
end = 4 ∷ 0 ∷ 4 ∷ 0 ∷ []

-- a closer of kind 0, and a wait of 0 units without a test
abbrev ending : List ℕ
ending = replicate 13 0

abbrev onward : ℕ → ℕ → List ℕ
onward a b = 1 ∷ 0 ∷ 0 ∷ 0 ∷ 0 ∷ 0 ∷ a ∷ b ∷ 255 ∷ 0 ∷ 0 ∷ 0 ∷ 0 ∷ []

-- sets variable 0 to 0
abbrev setting : List ℕ
setting = 1 ∷ 0 ∷ 0 ∷ 0 ∷ 0 ∷ 0 ∷ []

abbrev settings : ℕ → List ℕ
settings zero = []
settings (suc n) = setting ++ settings n

-- files that stop after the head, after an ending segment, after a thread
abbrev headed : List ℕ → List ℕ
headed b = head 1 1 ++ b

abbrev segmented : List ℕ → List ℕ
segmented b = headed (segment ending [] ++ b)

abbrev threaded : List ℕ → List ℕ
threaded b = segmented (thread 0 ++ b)

-- 1: "bytes end before a record's head or length, or length below 4"

-- "empty file"; 3 bytes and 4
pub read-head-left : numbers_of ([] ∷ (4 ∷ 0 ∷ 4 ∷ []) ∷ (4 ∷ 0 ∷ 4 ∷ 0 ∷ []) ∷ []) ≡ 1 ∷ 1 ∷ 2 ∷ []
unfolding computed
read-head-left = refl

-- a length of 0, 3, 4
pub read-length-least : numbers_of ((0 ∷ 0 ∷ 4 ∷ 0 ∷ []) ∷ (3 ∷ 0 ∷ 4 ∷ 0 ∷ []) ∷ (4 ∷ 0 ∷ 4 ∷ 0 ∷ []) ∷ []) ≡ 1 ∷ 1 ∷ 2 ∷ []
unfolding computed
read-length-least = refl

-- a length one below, at and one past the bytes that are left; its high byte counts
pub read-length-left :
    numbers_of ((4 ∷ 0 ∷ 4 ∷ 0 ∷ 0 ∷ []) ∷ (5 ∷ 0 ∷ 4 ∷ 0 ∷ 0 ∷ []) ∷ (6 ∷ 0 ∷ 4 ∷ 0 ∷ 0 ∷ []) ∷ (4 ∷ 1 ∷ 4 ∷ 0 ∷ 0 ∷ []) ∷ [])
    ≡ 2 ∷ 2 ∷ 1 ∷ 1 ∷ []
unfolding computed
read-length-left = refl

-- the same after the first record: 0 to 3 bytes left, a length past the end
pub read-later-short :
    numbers_of (headed [] ∷ segmented (5 ∷ 0 ∷ 3 ∷ []) ∷ threaded [] ∷ threaded (4 ∷ 0 ∷ 4 ∷ []) ∷ threaded (5 ∷ 0 ∷ 4 ∷ 0 ∷ []) ∷ threaded end ∷ [])
    ≡ 1 ∷ 1 ∷ 1 ∷ 1 ∷ 1 ∷ 0 ∷ []
unfolding computed
read-later-short = refl

-- 2: "kind not 1 to 4, or out of order"; kind 5 below, with ports

-- first: kinds 0 to 5, and 257. "04 00 04 00 alone"
pub read-first-kind :
    numbers_of ((4 ∷ 0 ∷ 0 ∷ 0 ∷ []) ∷ head 0 0 ∷ segment ending [] ∷ thread 0 ∷ end ∷ (4 ∷ 0 ∷ 5 ∷ 0 ∷ []) ∷ (10 ∷ 0 ∷ 1 ∷ 1 ∷ 10 ∷ 0 ∷ 0 ∷ 0 ∷ 0 ∷ 0 ∷ []) ∷ [])
    ≡ 2 ∷ 1 ∷ 2 ∷ 2 ∷ 2 ∷ 2 ∷ 2 ∷ []
unfolding computed
read-first-kind = refl

-- after a head: a segment alone. "one head, 1 to 64 segments"
pub read-after-head :
    numbers_of (headed (4 ∷ 0 ∷ 0 ∷ 0 ∷ []) ∷ headed (head 1 1) ∷ headed (segment ending []) ∷ headed (thread 0) ∷ headed end ∷ headed (4 ∷ 0 ∷ 5 ∷ 0 ∷ []) ∷ [])
    ≡ 2 ∷ 2 ∷ 1 ∷ 2 ∷ 2 ∷ 2 ∷ []
unfolding computed
read-after-head = refl

-- after a segment: a segment or a thread. "1 to 32 threads"
pub read-after-segment :
    numbers_of (segmented (4 ∷ 0 ∷ 0 ∷ 0 ∷ []) ∷ segmented (head 1 1) ∷ segmented (segment ending []) ∷ segmented (thread 0) ∷ segmented end ∷ segmented (4 ∷ 0 ∷ 5 ∷ 0 ∷ []) ∷ [])
    ≡ 2 ∷ 2 ∷ 1 ∷ 1 ∷ 2 ∷ 2 ∷ []
unfolding computed
read-after-segment = refl

-- after a thread: a thread, its ports or the end. "one end"
pub read-after-thread :
    numbers_of (threaded (4 ∷ 0 ∷ 0 ∷ 0 ∷ []) ∷ threaded (head 1 1) ∷ threaded (segment ending []) ∷ threaded (thread 0) ∷ threaded end ∷ threaded (4 ∷ 0 ∷ 5 ∷ 0 ∷ []) ∷ threaded (4 ∷ 0 ∷ 6 ∷ 0 ∷ []) ∷ [])
    ≡ 2 ∷ 2 ∷ 2 ∷ 1 ∷ 0 ∷ 3 ∷ 2 ∷ []
unfolding computed
read-after-thread = refl

-- 3: "length not that kind's"

-- "1 head, length 10": 9, 10, 11. "head of length 11"
pub read-head-length :
    numbers_of ((9 ∷ 0 ∷ 1 ∷ 0 ∷ 10 ∷ 0 ∷ 0 ∷ 0 ∷ 0 ∷ []) ∷ head 0 0 ∷ (11 ∷ 0 ∷ 1 ∷ 0 ∷ 10 ∷ 0 ∷ 0 ∷ 0 ∷ 0 ∷ 0 ∷ 0 ∷ []) ∷ []) ≡ 3 ∷ 1 ∷ 3 ∷ []
unfolding computed
read-head-length = refl

-- "2 segment, length 17 + 6n, n from 0 to 32": 16, 17, 18, 22, 23, 24, 209, 210, 215
pub read-segment-length :
    numbers_of
    (headed (16 ∷ 0 ∷ 2 ∷ 0 ∷ replicate 12 0) ∷
    headed (segment ending []) ∷
    headed (segment ending (0 ∷ [])) ∷
    headed (segment ending (replicate 5 0)) ∷
    headed (segment ending setting) ∷
    headed (segment ending (setting ++ (0 ∷ []))) ∷
    headed (segment ending (settings 32)) ∷
    headed (segment ending (settings 32 ++ (0 ∷ []))) ∷
    headed (segment ending (settings 33)) ∷ [])
    ≡ 3 ∷ 1 ∷ 3 ∷ 3 ∷ 1 ∷ 3 ∷ 1 ∷ 3 ∷ 3 ∷ []
unfolding computed
read-segment-length = refl

-- "3 thread, length 5": 4, 5, 6. "4 end, length 4": 4, 5
pub read-thread-end-length :
    numbers_of (segmented (4 ∷ 0 ∷ 3 ∷ 0 ∷ []) ∷ segmented (thread 0) ∷ segmented (6 ∷ 0 ∷ 3 ∷ 0 ∷ 0 ∷ 0 ∷ []) ∷ threaded end ∷ threaded (5 ∷ 0 ∷ 4 ∷ 0 ∷ 0 ∷ []) ∷ [])
    ≡ 3 ∷ 1 ∷ 3 ∷ 0 ∷ 3 ∷ []
unfolding computed
read-thread-end-length = refl

-- a length's high byte counts: a head of 266 bytes, a segment of 273, a thread of 261 and an end of 260
pub read-long-record :
    numbers_of
    ((10 ∷ 1 ∷ 1 ∷ 0 ∷ 10 ∷ replicate 261 0) ∷
    headed (17 ∷ 1 ∷ 2 ∷ 0 ∷ replicate 269 0) ∷
    segmented (5 ∷ 1 ∷ 3 ∷ 0 ∷ replicate 257 0) ∷
    threaded (4 ∷ 1 ∷ 4 ∷ 0 ∷ replicate 256 0) ∷ [])
    ≡ 3 ∷ 3 ∷ 3 ∷ 3 ∷ []
unfolding computed
read-long-record = refl

-- "lower number first": past the end, kind 9; kind 9 of head's length; a second head of length 9; a head of length 9 with H = 0
pub read-lower-first :
    numbers_of ((11 ∷ 0 ∷ 9 ∷ 0 ∷ replicate 6 0) ∷ (9 ∷ 0 ∷ 9 ∷ 0 ∷ replicate 5 0) ∷ headed (9 ∷ 0 ∷ 1 ∷ 0 ∷ replicate 5 0) ∷ (9 ∷ 0 ∷ 1 ∷ 0 ∷ replicate 5 0) ∷ [])
    ≡ 1 ∷ 2 ∷ 2 ∷ 3 ∷ []
unfolding computed
read-lower-first = refl

-- 4: "H, V or E out of range; 65th segment; 33rd thread"

abbrev head_of : ℕ → ℕ → ℕ → ℕ → ℕ → ℕ → List ℕ
head_of h0 h1 h2 h3 v e = 10 ∷ 0 ∷ 1 ∷ 0 ∷ h0 ∷ h1 ∷ h2 ∷ h3 ∷ v ∷ e ∷ []

-- "horizon H (4 bytes, 1 to 1,000,000,000)": 0, 1, 1,000,000,000, 1,000,000,001
pub read-horizon :
    numbers_of (head_of 0 0 0 0 0 0 ∷ head_of 1 0 0 0 0 0 ∷ head_of 0 202 154 59 0 0 ∷ head_of 1 202 154 59 0 0 ∷ []) ≡ 4 ∷ 1 ∷ 1 ∷ 4 ∷ []
unfolding computed
read-horizon = refl

-- "count V of variables (1 byte, 0 to 64), count E of events (1 byte, 0 to 32)"
pub read-counts : numbers_of (head 64 0 ∷ head 65 0 ∷ head 0 32 ∷ head 0 33 ∷ []) ≡ 1 ∷ 4 ∷ 1 ∷ 4 ∷ []
unfolding computed
read-counts = refl

-- what a file of n segments and t threads has said so far
abbrev after : ℕ → ℕ → Model
after n t = record { horizon = record { 0 = 10 }; v = 1; e = 1; n = n; t = t; segments = []; starts = [] }

-- the 64th and the 65th segment, the latter before its closer is judged; the 32nd and the 33rd thread
pub read-too-many :
    (body_fault 2 (after 63 0) (segment ending []) ≡ 0) ×
    (body_fault 2 (after 64 0) (segment ending []) ≡ 4) ×
    (body_fault 2 (after 64 0) (segment (replicate 13 3) []) ≡ 4) ×
    (body_fault 3 (after 64 31) (thread 0) ≡ 0) ×
    (body_fault 3 (after 64 32) (thread 0) ≡ 4)
unfolding computed
read-too-many = (refl, refl, refl, refl, refl)

-- the number at a record of kind k after one of kind last, where m holds what was read so far
abbrev fault_at : ℕ → ℕ → Model → List ℕ → ℕ
fault_at last k m b = or_else (framing_fault last b) (body_fault k m b)

-- a 65th segment of 18 bytes and of 215, a 33rd thread of 6: 3 before 4
pub read-too-many-length :
    (fault_at 2 2 (after 64 0) (segment ending (0 ∷ [])) ≡ 3) ×
    (fault_at 2 2 (after 64 0) (segment ending (settings 33)) ≡ 3) ×
    (fault_at 2 2 (after 64 0) (segment ending []) ≡ 4) ×
    (fault_at 3 3 (after 64 32) (6 ∷ 0 ∷ 3 ∷ 0 ∷ 0 ∷ 0 ∷ []) ≡ 3) ×
    (fault_at 3 3 (after 64 32) (thread 0) ≡ 4)
unfolding computed
read-too-many-length = (refl, refl, refl, refl, refl)

-- "a model or marks returned by value beside the number are zero": whatever was read before it
pub read-refused-zero :
    ((read_file []).model ≡ no_model) ×
    ((read_file (threaded [])).model ≡ no_model) ×
    ((read_file (threaded (end ++ (0 ∷ [])))).model ≡ no_model) ×
    ((read_file (segmented (thread 1 ++ end))).model ≡ no_model)
unfolding computed
read-refused-zero = (refl, refl, refl, refl)

-- 5: "closer breaks its rules"

-- byte 0: 0, 1, 2, 3. "closer byte 0 = 3"
pub closer-kind :
    numbers_of (headed (segment ending []) ∷ headed (segment (onward 0 0) []) ∷ headed (segment (set (onward 0 0) 0 2) []) ∷ headed (segment (set (onward 0 0) 0 3) []) ∷ headed (segment (set ending 0 3) []) ∷ [])
    ≡ 1 ∷ 1 ∷ 1 ∷ 5 ∷ 5 ∷ []
unfolding computed
closer-kind = refl

-- the number of a closer alone, where V = 2 and E = 2
abbrev faults_of : List (List ℕ) → List ℕ
faults_of [] = []
faults_of (b ∷ bs) = closer_bytes_fault 2 2 b ∷ faults_of bs

-- kind 0 with one of bytes i + 1, .., i + n not 0
abbrev strays : ℕ → ℕ → List (List ℕ)
strays zero i = []
strays (suc n) i = set ending (i + 1) 1 ∷ strays n (i + 1)

-- "With kind 0 the other twelve bytes are 0"
pub closer-end-stray : faults_of (strays 12 0) ≡ replicate 12 5
unfolding computed
closer-end-stray = refl

-- "and name no event, next segment or variable": with V = E = 0 too
pub closer-end-names-none : (closer_bytes_fault 0 0 ending ≡ 0) × (closer_from ending ≡ End)
unfolding computed
closer-end-names-none = (refl, refl)

-- "Byte 1 is the event (0 unless kind 2)"; "Byte 1 under kind 1 names no event either": with E = 0 too
pub closer-event-byte :
    (closer_bytes_fault 0 0 (onward 0 0) ≡ 0) ×
    (closer_bytes_fault 0 2 (set (onward 0 0) 1 1) ≡ 5)
unfolding computed
closer-event-byte = (refl, refl)

-- "Bytes 2 to 5 are the delay .. (0 unless kind 1)"
pub closer-event-delay :
    faults_of (set (onward 0 0) 0 2 ∷ set (set (onward 0 0) 0 2) 2 1 ∷ set (set (onward 0 0) 0 2) 5 1 ∷ []) ≡ 0 ∷ 5 ∷ 5 ∷ []
unfolding computed
closer-event-delay = refl

abbrev delayed : ℕ → ℕ → ℕ → ℕ → List ℕ
delayed d0 d1 d2 d3 = 1 ∷ 0 ∷ d0 ∷ d1 ∷ d2 ∷ d3 ∷ 0 ∷ 0 ∷ 255 ∷ 0 ∷ 0 ∷ 0 ∷ 0 ∷ []

-- "at most 1,000,000,000": 999,999,999, 1,000,000,000, 1,000,000,001
pub closer-delay : faults_of (delayed 255 201 154 59 ∷ delayed 0 202 154 59 ∷ delayed 1 202 154 59 ∷ []) ≡ 0 ∷ 0 ∷ 5 ∷ []
unfolding computed
closer-delay = refl

-- "With 255, B equals A and the limit is 0.": B below and above A, a limit of 1 and of 16,777,216
pub closer-no-test :
    faults_of (onward 1 1 ∷ onward 1 0 ∷ onward 1 2 ∷ set (onward 1 1) 9 1 ∷ set (onward 1 1) 12 1 ∷ []) ≡ 0 ∷ 5 ∷ 5 ∷ 5 ∷ 5 ∷ []
unfolding computed
closer-no-test = refl

-- with a test of variable 0: B may differ from A, or be A with a limit
pub closer-with-test : faults_of (set (onward 1 0) 8 0 ∷ set (set (onward 1 1) 8 0) 9 1 ∷ []) ≡ 0 ∷ 0 ∷ []
unfolding computed
closer-with-test = refl

-- 7 of a closer: "variable or event number not below V or E"

-- the test: V - 1, V, 254
pub closer-test : faults_of (set (onward 0 0) 8 1 ∷ set (onward 0 0) 8 2 ∷ set (onward 0 0) 8 254 ∷ []) ≡ 0 ∷ 7 ∷ 7 ∷ []
unfolding computed
closer-test = refl

abbrev listening : ℕ → List ℕ
listening e = set (set (onward 0 0) 0 2) 1 e

-- the event: E - 1, E
pub closer-event : faults_of (listening 1 ∷ listening 2 ∷ []) ≡ 0 ∷ 7 ∷ []
unfolding computed
closer-event = refl

-- "the closer's 5 and 7": each 5 beside a 7
pub closer-5-before-7 :
    faults_of (set (listening 2) 2 1 ∷ set (listening 2) 9 1 ∷ set (delayed 1 202 154 59) 8 2 ∷ set (set (onward 0 0) 1 1) 8 2 ∷ [])
    ≡ 5 ∷ 5 ∷ 5 ∷ 5 ∷ []
unfolding computed
closer-5-before-7 = refl

-- 6: "operation not 1 to 6, or b not 0 in a notify"

abbrev statement : ℕ → ℕ → ℕ → ℕ → ℕ → ℕ → List ℕ
statement o a b0 b1 b2 b3 = o ∷ a ∷ b0 ∷ b1 ∷ b2 ∷ b3 ∷ []

-- the number of a statement alone, where V = 2 and E = 1
abbrev op_faults_of : List (List ℕ) → List ℕ
op_faults_of [] = []
op_faults_of (b ∷ bs) = op_bytes_fault 2 1 b ∷ op_faults_of bs

-- operations 0, 1, 6, 7, 255; "operation 7"
pub statement-operation :
    op_faults_of (statement 0 0 0 0 0 0 ∷ statement 1 0 0 0 0 0 ∷ statement 6 0 0 0 0 0 ∷ statement 7 0 0 0 0 0 ∷ statement 255 0 0 0 0 0 ∷ [])
    ≡ 6 ∷ 0 ∷ 0 ∷ 6 ∷ 6 ∷ []
unfolding computed
statement-operation = refl

-- "6 notifies event a, b is 0.": 1 and 16,777,216; and before a 7
pub statement-notify-b :
    op_faults_of (statement 6 0 1 0 0 0 ∷ statement 6 0 0 0 0 1 ∷ statement 6 1 1 0 0 0 ∷ statement 6 1 0 0 0 0 ∷ []) ≡ 6 ∷ 6 ∷ 6 ∷ 7 ∷ []
unfolding computed
statement-notify-b = refl

-- 7 of a statement

-- a at V - 1 and V in operations 1 to 5, at E - 1 and E in a notify
pub statement-a-below : op_faults_of (statement 1 1 9 0 0 0 ∷ statement 2 1 9 0 0 0 ∷ statement 3 1 0 0 0 0 ∷ statement 4 1 0 0 0 0 ∷ statement 5 1 0 0 0 0 ∷ statement 6 0 0 0 0 0 ∷ []) ≡ replicate 6 0
unfolding computed
statement-a-below = refl

pub statement-a-at : op_faults_of (statement 1 2 0 0 0 0 ∷ statement 2 2 0 0 0 0 ∷ statement 3 2 0 0 0 0 ∷ statement 4 2 0 0 0 0 ∷ statement 5 2 0 0 0 0 ∷ statement 6 1 0 0 0 0 ∷ []) ≡ replicate 6 7
unfolding computed
statement-a-at = refl

-- b in operations 3, 4 and 5: V - 1, V, and 256, whose low byte is below V
pub statement-b-below : op_faults_of (statement 3 0 1 0 0 0 ∷ statement 4 0 1 0 0 0 ∷ statement 5 0 1 0 0 0 ∷ []) ≡ replicate 3 0
unfolding computed
statement-b-below = refl

pub statement-b-at : op_faults_of (statement 3 0 2 0 0 0 ∷ statement 4 0 2 0 0 0 ∷ statement 5 0 2 0 0 0 ∷ []) ≡ replicate 3 7
unfolding computed
statement-b-at = refl

pub statement-b-whole : op_faults_of (statement 3 0 0 1 0 0 ∷ statement 4 0 0 0 1 0 ∷ statement 5 0 0 0 0 1 ∷ []) ≡ replicate 3 7
unfolding computed
statement-b-whole = refl

-- "V = 0, set variable 0"; operation 7 in a file
pub read-statement :
    numbers_of ((head 0 0 ++ segment ending setting) ∷ (head 1 0 ++ segment ending setting) ∷ headed (segment ending (statement 7 0 0 0 0 0)) ∷ []) ≡ 7 ∷ 1 ∷ 6 ∷ []
unfolding computed
read-statement = refl

-- "the closer's 5 and 7, then 6 and 7 of each statement": the closer's 7 before a statement's 6, its 5 before a
-- statement's 7, an early statement's 7 before a later one's 6, an early 6 before a later 7, a last statement's 6
pub read-in-segment :
    numbers_of
    (headed (segment (listening 1) (statement 0 0 0 0 0 0)) ∷
    headed (segment (set ending 8 1) (statement 1 1 0 0 0 0)) ∷
    headed (segment ending (statement 1 1 0 0 0 0 ++ statement 0 0 0 0 0 0)) ∷
    headed (segment ending (statement 0 0 0 0 0 0 ++ statement 1 1 0 0 0 0)) ∷
    headed (segment ending (settings 31 ++ statement 0 0 0 0 0 0)) ∷ [])
    ≡ 7 ∷ 5 ∷ 7 ∷ 6 ∷ 6 ∷ []
unfolding computed
read-in-segment = refl

-- "1 to 7 record by record": a 7 of a segment before a 2 of the next record
pub read-record-by-record : numbers_of ((head 0 0 ++ (segment ending setting ++ end)) ∷ []) ≡ 7 ∷ []
unfolding computed
read-record-by-record = refl

-- "then 9, 8"

abbrev ended : List ℕ → List ℕ → List ℕ
ended g s = head 0 0 ++ (g ++ (s ++ end))

-- "one segment, thread starts at 1": the first segment at N - 1 and N; "a 00 after it"; both
pub read-first-segment :
    numbers_of (ended (segment ending []) (thread 0) ∷ ended (segment ending []) (thread 1) ∷ (ended (segment ending []) (thread 0) ++ (0 ∷ [])) ∷ (ended (segment ending []) (thread 1) ++ (0 ∷ [])) ∷ [])
    ≡ 0 ∷ 8 ∷ 9 ∷ 9 ∷ []
unfolding computed
read-first-segment = refl

-- next segments at N - 1 and N; a later segment is named before it stands; the second segment and the second thread
pub read-next-segment :
    numbers_of
    (ended (segment (onward 0 0) []) (thread 0) ∷
    ended (segment (onward 1 1) []) (thread 0) ∷
    ended (segment (onward 1 1) [] ++ segment (onward 0 0) []) (thread 0) ∷
    ended (segment (onward 1 1) [] ++ segment (onward 2 2) []) (thread 0) ∷
    ended (segment ending []) (thread 0 ++ thread 1) ∷ [])
    ≡ 0 ∷ 8 ∷ 0 ∷ 8 ∷ 8 ∷ []
unfolding computed
read-next-segment = refl

-- B alone at N, A alone at N; the same of an event wait, where B is not A without a test
pub read-next-tested :
    numbers_of
    ((head 1 1 ++ (segment (set (onward 0 1) 8 0) [] ++ (thread 0 ++ end))) ∷
    (head 1 1 ++ (segment (set (onward 1 0) 8 0) [] ++ (thread 0 ++ end))) ∷
    (head 1 1 ++ (segment (set (listening 0) 6 1) [] ++ (thread 0 ++ end))) ∷
    (head 1 1 ++ (segment (set (set (listening 0) 6 1) 7 1) [] ++ (thread 0 ++ end))) ∷ [])
    ≡ 8 ∷ 8 ∷ 5 ∷ 8 ∷ []
unfolding computed
read-next-tested = refl

-- "beside the number .. zero": the model of a file that is refused with 9
pub read-refused-model : (read_file (headed [] ++ (segment ending [] ++ (thread 0 ++ (end ++ (0 ∷ [])))))).model.horizon.0 ≡ 0
unfolding computed
read-refused-model = refl

-- Document 02, "Modules with ports": "A record of kind 5, length 12, may follow a thread's record and gives eight variable numbers"

-- the map of a thread, and one of port 0 alone
abbrev ports : List ℕ → List ℕ
ports vs = 12 ∷ 0 ∷ 5 ∷ 0 ∷ vs

abbrev unmapped : List ℕ
unmapped = replicate 8 255

abbrev port0 : ℕ → List ℕ
port0 x = ports (set unmapped 0 x)

-- a file of V variables, one ending segment and one thread, then b
abbrev mapping : ℕ → List ℕ → List ℕ
mapping v b = head v 0 ++ (segment ending [] ++ (thread 0 ++ b))

-- "A record of kind 5 [..] may follow a thread's record": first, after a head, after a segment, after a thread, after a thread's ports;
-- after ports: a thread, the end, no head, no segment, no kind 0, no kind 6
pub read-ports-place :
    numbers_of
    (port0 0 ∷ headed (port0 0) ∷ segmented (port0 0) ∷ threaded (port0 0) ∷ threaded (port0 0 ++ port0 0) ∷
    threaded (port0 0 ++ thread 0) ∷
    threaded (port0 0 ++ end) ∷
    threaded (port0 0 ++ head 1 1) ∷
    threaded (port0 0 ++ segment ending []) ∷
    threaded (port0 0 ++ (4 ∷ 0 ∷ 0 ∷ 0 ∷ [])) ∷
    threaded (port0 0 ++ (4 ∷ 0 ∷ 6 ∷ 0 ∷ [])) ∷ [])
    ≡ 2 ∷ 2 ∷ 2 ∷ 1 ∷ 2 ∷ 1 ∷ 0 ∷ 2 ∷ 2 ∷ 2 ∷ 2 ∷ []
unfolding computed
read-ports-place = refl

-- "length 12": 11, 12, 13 and 268, whose low byte is 12; kind 5 after kind 5 is 2 whatever its length; the end is still of length 4 after it
pub read-ports-length :
    numbers_of
    (threaded (11 ∷ 0 ∷ 5 ∷ 0 ∷ replicate 7 0) ∷
    threaded (ports (replicate 8 0)) ∷
    threaded (13 ∷ 0 ∷ 5 ∷ 0 ∷ replicate 9 0) ∷
    threaded (12 ∷ 1 ∷ 5 ∷ 0 ∷ replicate 264 0) ∷
    threaded (port0 0 ++ (11 ∷ 0 ∷ 5 ∷ 0 ∷ replicate 7 0)) ∷
    threaded (port0 0 ++ (5 ∷ 0 ∷ 4 ∷ 0 ∷ 0 ∷ [])) ∷ [])
    ≡ 3 ∷ 1 ∷ 3 ∷ 3 ∷ 2 ∷ 3 ∷ []
unfolding computed
read-ports-length = refl

-- 17: "all eight are 255 or a mapped number is neither 255 nor below V": all eight; V = 2 with V - 1, V, 128, 135, 254; V = 0 with a 0
pub read-ports-number :
    numbers_of
    (mapping 2 (ports unmapped ++ end) ∷
    mapping 2 (port0 1 ++ end) ∷
    mapping 2 (port0 2 ++ end) ∷
    mapping 2 (port0 128 ++ end) ∷
    mapping 2 (port0 135 ++ end) ∷
    mapping 2 (port0 254 ++ end) ∷
    mapping 0 (port0 0 ++ end) ∷
    mapping 0 (ports unmapped ++ end) ∷
    mapping 64 (port0 63 ++ end) ∷
    mapping 64 (port0 64 ++ end) ∷ [])
    ≡ 17 ∷ 0 ∷ 17 ∷ 17 ∷ 17 ∷ 17 ∷ 17 ∷ 17 ∷ 0 ∷ 17 ∷ []
unfolding computed
read-ports-number = refl

-- each of the eight is looked at: port 7 alone, a wrong number after seven right ones and before them
pub read-ports-each :
    numbers_of
    (mapping 2 (ports (set unmapped 7 1) ++ end) ∷
    mapping 2 (ports (set unmapped 7 2) ++ end) ∷
    mapping 2 (ports (set (replicate 8 1) 7 2) ++ end) ∷
    mapping 2 (ports (set (replicate 8 1) 0 2) ++ end) ∷
    mapping 2 (ports (replicate 8 1) ++ end) ∷ [])
    ≡ 0 ∷ 17 ∷ 17 ∷ 17 ∷ 0 ∷ []
unfolding computed
read-ports-each = refl

-- "checked where the record stands": before 9, before 8, before a later record's 2; after its own 3, and after an earlier record's 7
pub read-ports-stand :
    numbers_of
    (mapping 1 (ports unmapped ++ (end ++ (0 ∷ []))) ∷
    (head 1 0 ++ (segment ending [] ++ (thread 1 ++ (ports unmapped ++ end)))) ∷
    mapping 1 (ports unmapped ++ head 1 1) ∷
    mapping 1 (ports unmapped ++ (4 ∷ 0 ∷ 6 ∷ 0 ∷ [])) ∷
    mapping 1 (13 ∷ 0 ∷ 5 ∷ 0 ∷ replicate 9 255) ∷
    (head 0 0 ++ (segment ending setting ++ (thread 0 ++ (ports unmapped ++ end)))) ∷
    mapping 1 (port0 0 ++ (thread 0 ++ (ports unmapped ++ end))) ∷ [])
    ≡ 17 ∷ 17 ∷ 17 ∷ 17 ∷ 3 ∷ 7 ∷ 17 ∷ []
unfolding computed
read-ports-stand = refl

-- "7 now let[s] [..] the port numbers through": V = 2, 127, 128, 135, 136 as variable a, as b, as the test; b is all 32 bits; "events have no ports"
pub statement-port-a :
    op_faults_of (statement 1 127 0 0 0 0 ∷ statement 1 128 0 0 0 0 ∷ statement 2 135 0 0 0 0 ∷ statement 2 136 0 0 0 0 ∷ statement 3 128 0 0 0 0 ∷ statement 4 135 0 0 0 0 ∷ statement 5 136 0 0 0 0 ∷ [])
    ≡ 7 ∷ 0 ∷ 0 ∷ 7 ∷ 0 ∷ 0 ∷ 7 ∷ []
unfolding computed
statement-port-a = refl

pub statement-port-b :
    op_faults_of (statement 3 0 127 0 0 0 ∷ statement 3 0 128 0 0 0 ∷ statement 4 0 135 0 0 0 ∷ statement 5 0 136 0 0 0 ∷ statement 3 0 128 1 0 0 ∷ statement 4 0 128 0 1 0 ∷ statement 5 0 135 0 0 1 ∷ [])
    ≡ 7 ∷ 0 ∷ 0 ∷ 7 ∷ 7 ∷ 7 ∷ 7 ∷ []
unfolding computed
statement-port-b = refl

-- a constant is no port; a notify of 128, and a wait for it
pub statement-port-none :
    (op_faults_of (statement 1 0 128 0 0 0 ∷ statement 2 0 136 0 0 0 ∷ statement 6 128 0 0 0 0 ∷ []) ≡ 0 ∷ 0 ∷ 7 ∷ []) ×
    (faults_of (listening 128 ∷ []) ≡ 7 ∷ [])
unfolding computed
statement-port-none = (refl, refl)

pub closer-port : faults_of (set (onward 0 0) 8 127 ∷ set (onward 0 0) 8 128 ∷ set (onward 0 0) 8 135 ∷ set (onward 0 0) 8 136 ∷ []) ≡ 7 ∷ 0 ∷ 0 ∷ 7 ∷ []
unfolding computed
closer-port = refl

-- 18: "a thread can reach a segment naming a port it leaves unused", "checked after 8"

-- sets port p to 0
abbrev to_port : ℕ → List ℕ
to_port p = statement 1 (128 + p) 0 0 0 0

-- segments from 0 on, V = 2, then threads
abbrev site : List ℕ → List ℕ → List ℕ
site gs ts = head 2 1 ++ (gs ++ (ts ++ end))

-- named at the thread's first segment: no map, another port's map, its own map; through b and through the test; port 7
pub read-lack-here :
    numbers_of
    (site (segment ending (to_port 0)) (thread 0) ∷
    site (segment ending (to_port 0)) (thread 0 ++ ports (set unmapped 1 0)) ∷
    site (segment ending (to_port 0)) (thread 0 ++ port0 0) ∷
    site (segment ending (statement 3 0 128 0 0 0)) (thread 0) ∷
    site (segment (set (onward 0 0) 8 128) []) (thread 0) ∷
    site (segment (set (onward 0 0) 8 128) []) (thread 0 ++ port0 1) ∷
    site (segment ending (to_port 7)) (thread 0 ++ port0 0) ∷
    site (segment ending (to_port 7)) (thread 0 ++ ports (set unmapped 7 0)) ∷
    site (segment ending (statement 1 0 128 0 0 0)) (thread 0) ∷ [])
    ≡ 18 ∷ 18 ∷ 0 ∷ 18 ∷ 18 ∷ 0 ∷ 18 ∷ 0 ∷ 0 ∷ []
unfolding computed
read-lack-here = refl

-- "can reach", by the graph: over A, over B, over a B that no limit takes (limit 0 is never undercut, so B; limit 4,294,967,295 takes A),
-- over two segments, over an event; not from a segment that does not lead there; a way that only leads back
pub read-lack-reached :
    numbers_of
    (site (segment (onward 1 1) [] ++ segment ending (to_port 0)) (thread 0) ∷
    site (segment (set (onward 0 1) 8 0) [] ++ segment ending (to_port 0)) (thread 0) ∷
    site (segment (set (set (set (set (set (onward 0 1) 8 0) 9 255) 10 255) 11 255) 12 255) [] ++ segment ending (to_port 0)) (thread 0) ∷
    site (segment (set (onward 1 0) 8 0) [] ++ segment ending (to_port 0)) (thread 0) ∷
    site (segment (onward 1 1) [] ++ (segment (onward 2 2) [] ++ segment ending (to_port 0))) (thread 0) ∷
    site (segment (set (set (listening 0) 6 1) 7 1) [] ++ segment ending (to_port 0)) (thread 0) ∷
    site (segment ending [] ++ segment ending (to_port 0)) (thread 0) ∷
    site (segment ending [] ++ segment (onward 0 0) (to_port 0)) (thread 0) ∷ [])
    ≡ 18 ∷ 18 ∷ 18 ∷ 18 ∷ 18 ∷ 18 ∷ 0 ∷ 0 ∷ []
unfolding computed
read-lack-reached = refl

-- a way of 2 × 1,000,000,000 units is a way: "never" is still reached
pub read-lack-never :
    numbers_of (site (segment (set (set (delayed 0 202 154 59) 6 1) 7 1) [] ++ (segment (set (set (delayed 0 202 154 59) 6 2) 7 2) [] ++ segment ending (to_port 0))) (thread 0) ∷ []) ≡ 18 ∷ []
unfolding computed
read-lack-never = refl

-- thread by thread: the map of another thread, before and after, does not help; a thread that does not reach the port needs none
pub read-lack-thread :
    numbers_of
    (site (segment ending (to_port 0)) (thread 0 ++ (port0 0 ++ thread 0)) ∷
    site (segment ending (to_port 0)) (thread 0 ++ (thread 0 ++ port0 0)) ∷
    site (segment ending (to_port 0)) (thread 0 ++ (port0 0 ++ (thread 0 ++ port0 1))) ∷
    site (segment ending (to_port 0) ++ segment ending []) (thread 0 ++ (port0 0 ++ thread 1)) ∷
    site (segment ending (to_port 0) ++ segment ending []) (thread 1 ++ (port0 0 ++ thread 0)) ∷ [])
    ≡ 18 ∷ 18 ∷ 0 ∷ 0 ∷ 18 ∷ []
unfolding computed
read-lack-thread = refl

-- "checked after 8": 9, 8, then 18
pub read-lack-last :
    numbers_of
    ((site (segment ending (to_port 0)) (thread 0) ++ (0 ∷ [])) ∷
    site (segment ending (to_port 0)) (thread 0 ++ thread 1) ∷
    site (segment (onward 1 1) (to_port 0)) (thread 0) ∷
    site (segment ending (to_port 0)) (thread 0) ∷ [])
    ≡ 9 ∷ 8 ∷ 8 ∷ 18 ∷ []
unfolding computed
read-lack-last = refl

pub read-lack-model : (read_file (site (segment ending (to_port 0)) (thread 0))).model ≡ no_model
unfolding computed
read-lack-model = refl

-- The values. "Little-endian." Each byte has its place.

abbrev closing : ℕ → List ℕ
closing k = k ∷ 2 ∷ 3 ∷ 4 ∷ 5 ∷ 6 ∷ 7 ∷ 8 ∷ 9 ∷ 10 ∷ 11 ∷ 12 ∷ 13 ∷ []

pub closer-values :
    (closer_from (closing 1) ≡ Time (record { 0 = 100992003 }) (record { a = 7; b = 8; test = 9; limit = 218893066 })) ×
    (closer_from (closing 2) ≡ Event 2 (record { a = 7; b = 8; test = 9; limit = 218893066 }))
unfolding computed
closer-values = (refl, refl)

pub statement-values :
    (op_from (statement 1 9 1 2 3 4) ≡ Set 9 67305985) ×
    (op_from (statement 2 9 1 2 3 4) ≡ Add 9 67305985) ×
    (op_from (statement 3 9 1 2 3 4) ≡ Copy 9 67305985) ×
    (op_from (statement 4 9 1 2 3 4) ≡ AddVariable 9 67305985) ×
    (op_from (statement 5 9 1 2 3 4) ≡ SubVariable 9 67305985) ×
    (op_from (statement 6 9 0 0 0 0) ≡ Notify 9)
unfolding computed
statement-values = (refl, refl, refl, refl, refl, refl)

-- H = 67,305,985, V = 2, E = 1; segment 0 waits 3 units, then 1; segment 1 has two statements; threads at 1 and 0. Zero past the counts.
pub read-values :
    read_file (head_of 1 2 3 4 2 1 ++ (segment (set (onward 1 1) 2 3) [] ++ (segment ending (statement 4 1 0 0 0 0 ++ statement 6 0 0 0 0 0) ++ (thread 1 ++ (thread 0 ++ end)))))
    ≡ record {
      number = 0;
      model = record {
        horizon = record { 0 = 67305985 };
        v = 2;
        e = 1;
        n = 2;
        t = 2;
        segments = record { closer = Time (record { 0 = 3 }) (record { a = 1; b = 1; test = 255; limit = 0 }); n = 0; statements = replicate 32 no_statement } ∷
            record { closer = End; n = 2; statements = record { op = AddVariable 1 0 } ∷ record { op = Notify 0 } ∷ replicate 30 no_statement } ∷
            replicate 62 no_segment;
        starts = record { first = 1; ports = no_ports } ∷ record { first = 0; ports = no_ports } ∷ replicate 30 no_start;
      };
    }
unfolding computed
read-values = refl

-- each port has its place, and its thread; no other thread has it
pub read-ports-values :
    (read_file (head 64 0 ++ (segment ending [] ++ (thread 0 ++ (thread 0 ++ (ports (1 ∷ 2 ∷ 3 ∷ 4 ∷ 255 ∷ 6 ∷ 7 ∷ 63 ∷ []) ++ (thread 0 ++ end))))))).model.starts
    ≡ no_start ∷ record { first = 0; ports = 1 ∷ 2 ∷ 3 ∷ 4 ∷ 255 ∷ 6 ∷ 7 ∷ 63 ∷ [] } ∷ replicate 30 no_start
unfolding computed
read-ports-values = refl
