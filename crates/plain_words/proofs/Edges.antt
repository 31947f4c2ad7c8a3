-- Every comparison and limit of `specs/` at, below and above its edge: closed examples.
use Prim.Native.Nat.{ℕ, ◌+◌, ◌*◌, ◌<◌}
use mathlib.Core.Path.{◌≡◌, refl}
use mathlib.Core.Bool.{true, false}
use mathlib.Core.List.{List, [], ◌∷◌, ◌++◌}
use native.Mathlib.Omega.{arith}
use lib.ListN.{get_or, set, replicate}
use Rattle.model.specs.declared.Op.TheVariants.{Set, Add, Copy, AddVariable, SubVariable, Notify}
use Rattle.model.specs.declared.Next.{Next}
use Rattle.model.specs.declared.Closer.{Closer}
use Rattle.model.specs.declared.Segment.{Segment}
use Rattle.model.specs.declared.Closer.TheVariants.{End, Time, Event}
use Rattle.model.specs.declared.Model.{Model}
use Rattle.model.specs.Values.{no_segment, no_start}
use Rattle.plain_words.specs.Ports.{ports_by, map_word, map_choice, map_at, code_for, word_names, names_from, port_mark, marked_if, any_marked}
use Rattle.plain_words.specs.Rows.{segment_by, segments_by}
use Rattle.plain_words.specs.Pack.{pack_op, pack_end, pack_next, pack_choice, segment_word, model_word}
use Rattle.plain_words.specs.Unpack.{op_of, end_by, size_by, next_by, follow_by}
use Rattle.plain_words.specs.Reach.{lesser_of, greater_of, Inside, widened}
use Rattle.plain_words.specs.Shared.{shared, execute_word, execute_to, execute_by}
use Rattle.plain_words.proofs.Computed.{computed}

-- STATEMENTS

-- the largest numbers that keep the file rules are read back
pub op_of-largest :
    (op_of (pack_op (Set 63 4294967295)) ≡ Set 63 4294967295) ×
    (op_of (pack_op (Add 63 4294967295)) ≡ Add 63 4294967295) ×
    (op_of (pack_op (Copy 63 63)) ≡ Copy 63 63) ×
    (op_of (pack_op (AddVariable 63 63)) ≡ AddVariable 63 63) ×
    (op_of (pack_op (SubVariable 63 63)) ≡ SubVariable 63 63) ×
    (op_of (pack_op (Notify 31)) ≡ Notify 31)
unfolding computed
op_of-largest = (refl, refl, refl, refl, refl, refl)

-- those past them are not
pub op_of-past : (op_of (pack_op (Set 64 0)) ≡ Set 0 0) × (op_of (pack_op (Notify 32)) ≡ Notify 0)
unfolding computed
op_of-past = (refl, refl)

-- CLOSERS

abbrev onward : ℕ → ℕ → ℕ → ℕ → Next
onward a b test limit = record { a = a; b = b; test = test; limit = limit }

abbrev units : ℕ → Next → Closer
units k x = Time (record { 0 = k }) x

-- at most 32 statements, under each kind of closer
pub size_by-edge :
    (size_by (pack_end 31 End) ≡ 31) ×
    (size_by (pack_end 32 (units 1000000000 (onward 0 0 255 0))) ≡ 32) ×
    (size_by (pack_end 33 (Event 31 (onward 0 0 255 0))) ≡ 32)
unfolding computed
size_by-edge = (refl, refl, refl)

-- a segment's words: how it closes, its next segments, its first and its last statement
abbrev a_segment : Segment
a_segment =
    record {
      closer = units 7 (onward 3 7 1 5);
      n = 2;
      statements = record { op = Notify 3 } ∷ replicate 30 (record { op = Set 0 0 }) ++ (record { op = Add 1 9 } ∷ []);
    }

pub segment_word-edge :
    (segment_word a_segment 0 ≡ 1 + 4 * 2 + 1024 * 7) ×
    (segment_word a_segment 1 ≡ 3 + 256 * 7 + 65536 * 1 + 16777216 * 5) ×
    (segment_word a_segment 2 ≡ 5 + 8 * 3) ×
    (segment_word a_segment 33 ≡ 1 + 8 * 1 + 2048 * 9)
unfolding computed
segment_word-edge = (refl, refl, refl, refl)

-- "The next segment is A if the variable is below the limit after the statements, else B"; 255 is no test
pub next_by-edge :
    (next_by (pack_next (onward 3 7 1 5)) (9 ∷ 4 ∷ []) ≡ 3) ×
    (next_by (pack_next (onward 3 7 1 5)) (0 ∷ 5 ∷ []) ≡ 7) ×
    (next_by (pack_next (onward 3 7 1 5)) (0 ∷ 6 ∷ []) ≡ 7) ×
    (next_by (pack_next (onward 3 3 255 0)) [] ≡ 3) ×
    (next_by (pack_next (onward 63 62 0 4294967295)) (4294967294 ∷ []) ≡ 63) ×
    (next_by (pack_next (onward 63 62 0 4294967295)) (4294967295 ∷ []) ≡ 62)
unfolding computed
next_by-edge = (refl, refl, refl, refl, refl, refl)

-- SEGMENTS

-- segment 0 waits for event 31, then 9; one statement, and a word past it
abbrev waiting : List ℕ
waiting = pack_end 1 (Event 31 (onward 9 9 255 0)) ∷ pack_choice (Event 31 (onward 9 9 255 0)) ∷ pack_op (Set 0 5) ∷ pack_op (Set 1 6) ∷ replicate 30 0

-- segment 0 ends; it notifies event 1
abbrev ending : List ℕ
ending = pack_end 1 End ∷ 0 ∷ pack_op (Notify 1) ∷ pack_op (Notify 0) ∷ []

-- 34 words for each; 128 is read as 0
pub end_by-edge : (end_by waiting 0 ≡ 2 + 4 * 1 + 1024 * 31) × (end_by waiting 1 ≡ 0) × (end_by waiting 127 ≡ 0) × (end_by waiting 128 ≡ 2 + 4 * 1 + 1024 * 31)
unfolding computed
end_by-edge = (refl, refl, refl, refl)

-- no statement past the last
pub execute_by-edge : ((execute_by waiting 0 (shared (0 ∷ 0 ∷ []) [] [])).variables ≡ 5 ∷ 0 ∷ []) × ((execute_by ending 0 (shared [] (false ∷ false ∷ []) [])).told ≡ false ∷ true ∷ [])
unfolding computed
execute_by-edge = (refl, refl)

-- "in an ended thread, the last run"
pub follow_by-edge : (follow_by ending 0 [] ≡ 0) × (follow_by waiting 0 [] ≡ 9)
unfolding computed
follow_by-edge = (refl, refl)

-- RANGES OF THREADS

pub lesser_of-edge : (lesser_of 4 5 ≡ 4) × (lesser_of 5 5 ≡ 5) × (lesser_of 6 5 ≡ 5)
lesser_of-edge = (refl, refl, refl)

pub greater_of-edge : (greater_of 4 5 ≡ 5) × (greater_of 5 5 ≡ 5) × (greater_of 6 5 ≡ 6)
greater_of-edge = (refl, refl, refl)

-- range i, made the threads from a on and before b
abbrev holding : ℕ → ℕ → ℕ → List ℕ → List ℕ
holding i a b rs = set (set rs i a) (33 + i) b

-- event 0: threads 3 and 4; event 1: thread 7; event 31: all; none is reached
abbrev held : List ℕ
held = holding 0 3 5 (holding 1 7 8 (holding 31 0 32 (holding 32 32 0 (replicate 66 0))))

-- where a range begins, and the thread past its last
abbrev range : ℕ → List ℕ → ℕ × ℕ
range i rs = (get_or rs i 0, get_or rs (33 + i) 0)

pub Inside-edge : (Inside held 0 2 → ⊥) × Inside held 0 3 × Inside held 0 4 × (Inside held 0 5 → ⊥) × Inside held 31 31 × (Inside held 31 32 → ⊥)
Inside-edge = (λ h. let a = h.0 in omega arith, (omega arith, omega arith), (omega arith, omega arith), λ h. let a = h.1 in omega arith, (omega arith, omega arith), λ h. let a = h.1 in omega arith)

-- a range is made wider on either side, and never narrower; the others stay
pub widened-edge :
    (range 0 (widened 0 2 4 held) ≡ (2, 5)) ×
    (range 0 (widened 0 3 5 held) ≡ (3, 5)) ×
    (range 0 (widened 0 4 6 held) ≡ (3, 6)) ×
    (range 1 (widened 0 2 6 held) ≡ (7, 8)) ×
    (range 32 (widened 0 2 6 held) ≡ (32, 0)) ×
    (range 32 (widened 32 31 32 held) ≡ (31, 32))
unfolding computed
widened-edge = (refl, refl, refl, refl, refl, refl)

-- the range of the reached threads
abbrev reached_by : List ℕ → ℕ → ℕ × ℕ
reached_by code s = range 32 (execute_by code s (shared [] [] held)).ranges

-- a notification of event 0, of event 31, and another statement
pub execute_word-edge :
    (range 32 (execute_word (pack_op (Notify 0)) (shared [] [] held)).ranges ≡ (3, 5)) ×
    (range 32 (execute_word (pack_op (Notify 31)) (shared [] [] held)).ranges ≡ (0, 32)) ×
    (range 32 (execute_word (pack_op (Set 0 31)) (shared [] [] held)).ranges ≡ (32, 0))
unfolding computed
execute_word-edge = (refl, refl, refl)

-- no statement, one, two
pub execute_to-edge :
    (range 32 (execute_to ending 2 0 (shared [] [] held)).ranges ≡ (32, 0)) ×
    (range 32 (execute_to ending 2 1 (shared [] [] held)).ranges ≡ (7, 8)) ×
    (range 32 (execute_to ending 2 2 (shared [] [] held)).ranges ≡ (3, 8))
unfolding computed
execute_to-edge = (refl, refl, refl)

-- no statement past the last; 128 is read as 0
pub reached_by-edge : (reached_by ending 0 ≡ (7, 8)) × (reached_by ending 127 ≡ (32, 0)) × (reached_by ending 128 ≡ (7, 8))
unfolding computed
reached_by-edge = (refl, refl, refl)

-- PORTS

-- thread 0: port 0 is variable 5, port 7 is variable 63; thread 1: port 0 is variable 9; the others are unused
abbrev eight : ℕ → ℕ → List ℕ
eight first last = first ∷ replicate 6 255 ++ (last ∷ [])

-- behind the segments
abbrev both : List ℕ
both = replicate 2176 7 ++ (eight 5 63 ++ eight 9 255)

pub ports_by-edge : (ports_by both 0 ≡ eight 5 63) × (ports_by both 1 ≡ eight 9 255) × (ports_by both 2 ≡ replicate 8 0)
unfolding computed
ports_by-edge = (refl, refl, refl)

-- 127 and 136 are no ports; a number that is set or added and an event name none
pub map_word-edge :
    (map_word (eight 5 63) (pack_op (Set 127 128)) ≡ pack_op (Set 127 128)) ×
    (map_word (eight 5 63) (pack_op (Set 128 128)) ≡ pack_op (Set 5 128)) ×
    (map_word (eight 5 63) (pack_op (Add 135 135)) ≡ pack_op (Add 63 135)) ×
    (map_word (eight 5 63) (pack_op (Add 136 0)) ≡ pack_op (Add 136 0)) ×
    (map_word (eight 5 63) (pack_op (Copy 128 135)) ≡ pack_op (Copy 5 63)) ×
    (map_word (eight 5 63) (pack_op (Copy 0 136)) ≡ pack_op (Copy 0 136)) ×
    (map_word (eight 5 63) (pack_op (AddVariable 135 128)) ≡ pack_op (AddVariable 63 5)) ×
    (map_word (eight 5 63) (pack_op (SubVariable 1 128)) ≡ pack_op (SubVariable 1 5)) ×
    (map_word (eight 5 63) (pack_op (Notify 128)) ≡ pack_op (Notify 128))
unfolding computed
map_word-edge = (refl, refl, refl, refl, refl, refl, refl, refl, refl)

-- next segments are no ports, nor is a limit; 255 is no test
pub map_choice-edge :
    (map_choice (eight 5 63) (pack_next (onward 128 135 127 128)) ≡ pack_next (onward 128 135 127 128)) ×
    (map_choice (eight 5 63) (pack_next (onward 128 135 128 128)) ≡ pack_next (onward 128 135 5 128)) ×
    (map_choice (eight 5 63) (pack_next (onward 3 7 135 4294967295)) ≡ pack_next (onward 3 7 63 4294967295)) ×
    (map_choice (eight 5 63) (pack_next (onward 3 3 136 0)) ≡ pack_next (onward 3 3 136 0)) ×
    (map_choice (eight 5 63) (pack_next (onward 3 3 255 0)) ≡ pack_next (onward 3 3 255 0))
unfolding computed
map_choice-edge = (refl, refl, refl, refl, refl)

pub word_names-edge :
    (word_names (pack_op (Set 127 128)) ≡ false) ×
    (word_names (pack_op (Set 128 0)) ≡ true) ×
    (word_names (pack_op (Add 135 0)) ≡ true) ×
    (word_names (pack_op (Add 136 135)) ≡ false) ×
    (word_names (pack_op (Copy 0 127)) ≡ false) ×
    (word_names (pack_op (Copy 0 128)) ≡ true) ×
    (word_names (pack_op (SubVariable 0 135)) ≡ true) ×
    (word_names (pack_op (SubVariable 0 136)) ≡ false) ×
    (word_names (pack_op (Notify 128)) ≡ false)
unfolding computed
word_names-edge = (refl, refl, refl, refl, refl, refl, refl, refl, refl)

-- segment 1 adds to a port, tests another, and has a statement past its last that names one
abbrev ported : ℕ → List ℕ
ported test = replicate 34 0 ++ (pack_end 1 (units 3 (onward 1 2 test 2)) ∷ pack_next (onward 1 2 test 2) ∷ pack_op (Add 0 1) ∷ pack_op (Add 128 1) ∷ replicate 30 0)

-- its test, its last statement and the one past it
pub names_from-edge :
    (names_from (ported 127) 34 1 ≡ false) ×
    (names_from (ported 128) 34 1 ≡ true) ×
    (names_from (ported 127) 34 2 ≡ true) ×
    (names_from (ported 135) 0 32 ≡ false)
unfolding computed
names_from-edge = (refl, refl, refl, refl)

-- how a segment closes is not mapped, its next segments and its 32 statements are
pub map_at-edge :
    (map_at (eight 5 63) 0 (pack_op (Set 128 0)) ≡ pack_op (Set 128 0)) ×
    (map_at (eight 5 63) 1 (pack_next (onward 1 2 128 2)) ≡ pack_next (onward 1 2 5 2)) ×
    (map_at (eight 5 63) 2 (pack_op (Set 128 0)) ≡ pack_op (Set 5 0)) ×
    (map_at (eight 5 63) 33 (pack_op (Set 135 0)) ≡ pack_op (Set 63 0))
unfolding computed
map_at-edge = (refl, refl, refl, refl)

-- 34 words for each segment
pub code_for-edge :
    (get_or (code_for (eight 5 63) (ported 128)) 34 0 ≡ pack_end 1 (units 3 (onward 1 2 128 2))) ×
    (get_or (code_for (eight 5 63) (ported 128)) 35 0 ≡ pack_next (onward 1 2 5 2)) ×
    (get_or (code_for (eight 5 63) (ported 128)) 36 0 ≡ pack_op (Add 0 1)) ×
    (get_or (code_for (eight 5 63) (ported 128)) 37 0 ≡ pack_op (Add 5 1))
unfolding computed
code_for-edge = (refl, refl, refl, refl)

-- the mark is above the largest delay, and neither kind, size, delay nor event tell it
pub marked_if-edge :
    (pack_end 255 (units 4294967295 (onward 0 0 255 0)) < port_mark) ×
    (marked_if false (pack_end 2 (Event 31 (onward 0 0 255 0))) ≡ 2 + 4 * 2 + 1024 * 31) ×
    (marked_if true (pack_end 2 (Event 31 (onward 0 0 255 0))) ≡ 17592186044416 + 2 + 4 * 2 + 1024 * 31) ×
    (size_by (marked_if true (pack_end 31 End)) ≡ 31)
unfolding computed
marked_if-edge = (omega arith, refl, refl, refl)

-- a segment that names a port has the mark; past its statements it may name one
abbrev port_segment : ℕ → ℕ → Segment
port_segment n test = record { closer = units 7 (onward 3 7 test 5); n = n; statements = record { op = Notify 128 } ∷ record { op = Add 135 9 } ∷ replicate 30 (record { op = Set 0 0 }) }

pub segment_names-edge :
    (segment_word (port_segment 1 127) 0 ≡ 1 + 4 * 1 + 1024 * 7) ×
    (segment_word (port_segment 1 128) 0 ≡ 17592186044416 + 1 + 4 * 1 + 1024 * 7) ×
    (segment_word (port_segment 2 127) 0 ≡ 17592186044416 + 1 + 4 * 2 + 1024 * 7)
unfolding computed
segment_names-edge = (refl, refl, refl)

-- the last word of the last segment, then the ports of the first thread, and at last those of the last
abbrev whole : Model
whole =
    record {
      horizon = record { 0 = 1 };
      v = 64;
      e = 32;
      n = 64;
      t = 32;
      segments = replicate 63 no_segment ++ (a_segment ∷ []);
      starts = record { first = 0; ports = eight 5 63 } ∷ replicate 30 no_start ++ (record { first = 0; ports = eight 9 62 } ∷ []);
    }

pub model_word-edge :
    (model_word whole 2142 ≡ 1 + 4 * 2 + 1024 * 7) ×
    (model_word whole 2175 ≡ pack_op (Add 1 9)) ×
    (model_word whole 2176 ≡ 5) ×
    (model_word whole 2183 ≡ 63) ×
    (model_word whole 2184 ≡ 255) ×
    (model_word whole 2424 ≡ 9) ×
    (model_word whole 2431 ≡ 62) ×
    (model_word whole 2432 ≡ 0) ×
    (model_word whole 4383 ≡ 0)
unfolding computed
model_word-edge = (refl, refl, refl, refl, refl, refl, refl, refl, refl)

-- ROWS

-- the mark is looked for in the first word of each segment's row, and there alone
pub any_marked-edge :
    (any_marked (replicate 34 0 ++ (17592186044415 ∷ 17592186044416 ∷ [])) ≡ false) ×
    (any_marked (replicate 34 0 ++ (17592186044416 ∷ [])) ≡ true) ×
    (any_marked (replicate 2142 0 ++ (17592186044417 ∷ [])) ≡ true) ×
    (any_marked (replicate 2176 0 ++ (17592186044416 ∷ [])) ≡ false)
unfolding computed
any_marked-edge = (refl, refl, refl, refl)

-- rows 0 to 63 are the segments'
pub segment_by-edge : (segment_by 5 63 ≡ 63) × (segment_by 5 64 ≡ 5) × (segment_by 5 72 ≡ 5) × (segment_by 5 103 ≡ 5)
unfolding computed
segment_by-edge = (refl, refl, refl, refl)

-- 32 threads: the first in a segment's row, the last in its own
pub segments_by-edge :
    (get_or (segments_by (255 ∷ replicate 30 255 ++ (7 ∷ [])) (9 ∷ replicate 30 0 ++ (103 ∷ []))) 0 0 ≡ 9) ×
    (get_or (segments_by (255 ∷ replicate 30 255 ++ (7 ∷ [])) (9 ∷ replicate 30 0 ++ (103 ∷ []))) 31 0 ≡ 7)
unfolding computed
segments_by-edge = (refl, refl)
