-- Every comparison and limit of `specs/` at, below and above its edge: closed examples, worked out from document 01.
use Prim.Native.Nat.{ℕ}
use mathlib.Core.Path.{◌≡◌, refl}
use mathlib.Core.Bool.{true, false}
use mathlib.Core.List.{List, [], ◌∷◌}
use lib.ListN.{length, get_or, replicate}
use Rattle.clock.specs.declared.Bound.{Bound}
use Rattle.clock.specs.declared.Bound.TheVariants.{Never, At}
use Rattle.clock.specs.Cycle.{cycle_at}
use Rattle.model.specs.declared.Op.{Op}
use Rattle.model.specs.declared.Op.TheVariants.{Set, Copy, Notify}
use Rattle.model.specs.declared.Next.{Next}
use Rattle.model.specs.declared.Closer.{Closer}
use Rattle.model.specs.declared.Closer.TheVariants.{End, Time, Event}
use Rattle.model.specs.declared.Segment.{Segment}
use Rattle.model.specs.declared.Model.{Model}
use Rattle.model.specs.Port.{no_ports}
use Rattle.model.specs.Reach.{goes_to}
use Rattle.model.specs.Values.{no_statement, no_model, with_head, with_segment, with_start}
use Rattle.tables.specs.Conflict.{conflict, mark, marks_of, no_marks, mark_at}
use Rattle.tables.specs.Distance.{step_of, edge, cut, distance_of}
use Rattle.tables.specs.Word.{all_ones, word_of, bound_of, words_of, stored, distance_in}
use Rattle.tables.specs.Outcome.{conflict_number, conflict_marks, distances_number, distances_buffer, rows_number}
use Rattle.tables.proofs.Computed.{computed}

-- SMALL MODELS

abbrev bound_at : ℕ → ℕ → Bound
bound_at t d = At (cycle_at t d)

-- a or b next; the one next segment s, with no test
abbrev either : ℕ → ℕ → Next
either a b = record { a = a; b = b; test = 0; limit = 0 }

abbrev onward : ℕ → Next
onward s = record { a = s; b = s; test = 255; limit = 0 }

abbrev units : ℕ → Next → Closer
units k x = Time (record { 0 = k }) x

-- a segment of no statements, and of one
abbrev closing : Closer → Segment
closing x = record { closer = x; n = 0; statements = replicate 32 no_statement }

abbrev doing : Op → Closer → Segment
doing o x = record { closer = x; n = 1; statements = record { op = o } ∷ replicate 31 no_statement }

unfoldable pub with_segments : Model → List Segment → Model
with_segments m [] = m
with_segments m (g ∷ gs) = with_segments (with_segment m g) gs

-- v variables, one event, these segments
unfoldable pub model_of : ℕ → List Segment → Model
model_of v gs = with_segments (with_head no_model 100 v 1) gs

-- the same model with n segments only, the others held past them
abbrev cut_to : ℕ → Model → Model
cut_to n m = record { horizon = m.horizon; v = m.v; e = m.e; n = n; t = m.t; segments = m.segments; starts = m.starts }

-- from segment 0 to segment 2 over waits a, then b
unfoldable pub waits : ℕ → ℕ → Model
waits a b = model_of 0 (closing (units a (onward 1)) ∷ closing (units b (onward 2)) ∷ closing End ∷ [])

-- from segment 0 to segment 1 over a wait of a
unfoldable pub wait : ℕ → Model
wait a = model_of 0 (closing (units a (onward 1)) ∷ closing End ∷ [])

-- from segment 0 to segment 3 over 1, then a units, or over 2, then b units; both after 3 units
unfoldable pub forks : ℕ → ℕ → Model
forks a b =
    model_of 1 (closing (units 3 (either 1 2)) ∷ closing (units a (onward 3)) ∷ closing (units b (onward 3)) ∷ closing End ∷ [])

-- CONFLICT

-- segments 0 and 1 hold variable 0 as told, on so many variables
unfoldable pub pair : ℕ → Segment → Segment → Model
pair v g h = model_of v (g ∷ h ∷ [])

-- "two segments that both access a variable which at least one writes": both write; one writes and the other reads, either way round
pub conflict-written :
    (conflict (pair 3 (doing (Set 0 0) End) (doing (Set 0 1) End)) 0 1 ≡ true) ×
    (conflict (pair 3 (doing (Set 0 0) End) (doing (Copy 1 0) End)) 0 1 ≡ true) ×
    (conflict (pair 3 (doing (Copy 1 0) End) (doing (Set 0 0) End)) 0 1 ≡ true)
unfolding pair model_of with_segments computed
conflict-written = (refl, refl, refl)

-- both only read it; they write, and read, different variables
pub conflict-none :
    (conflict (pair 3 (doing (Copy 1 0) End) (doing (Copy 2 0) End)) 0 1 ≡ false) ×
    (conflict (pair 3 (doing (Set 0 0) End) (doing (Set 1 0) End)) 0 1 ≡ false) ×
    (conflict (pair 3 (doing (Set 0 0) End) (doing (Copy 1 2) End)) 0 1 ≡ false)
unfolding pair model_of with_segments computed
conflict-none = (refl, refl, refl)

-- "The test variable counts as read.": with a write of it, not with another test; 255 is no test
pub conflict-test :
    (conflict (pair 1 (closing (units 1 (either 0 1))) (doing (Set 0 0) End)) 0 1 ≡ true) ×
    (conflict (pair 1 (doing (Set 0 0) End) (closing (Event 0 (either 0 1)))) 0 1 ≡ true) ×
    (conflict (pair 1 (closing (units 1 (either 0 1))) (closing (units 2 (either 0 1)))) 0 1 ≡ false) ×
    (conflict (pair 1 (closing (units 1 (onward 1))) (doing (Set 0 0) End)) 0 1 ≡ false)
unfolding pair model_of with_segments computed
conflict-test = (refl, refl, refl, refl)

-- "A segment that writes conflicts with itself."; one that only reads does not
pub conflict-self :
    (conflict (pair 1 (doing (Set 0 0) End) (closing End)) 0 0 ≡ true) ×
    (conflict (pair 1 (closing (units 1 (either 0 1))) (closing End)) 0 0 ≡ false)
unfolding pair model_of with_segments computed
conflict-self = (refl, refl)

-- events make no conflict: notified by both; notified and waited for; beside a variable of the same number
pub conflict-events :
    (conflict (pair 1 (doing (Notify 0) End) (doing (Notify 0) End)) 0 1 ≡ false) ×
    (conflict (pair 1 (doing (Notify 0) End) (closing (Event 0 (onward 1)))) 0 1 ≡ false) ×
    (conflict (pair 1 (doing (Notify 0) End) (doing (Set 0 0) End)) 0 1 ≡ false)
unfolding pair model_of with_segments computed
conflict-events = (refl, refl, refl)

-- the last variable counts, the first past V does not
pub conflict-last :
    (conflict (pair 3 (doing (Set 2 0) End) (doing (Set 2 0) End)) 0 1 ≡ true) ×
    (conflict (pair 2 (doing (Set 2 0) End) (doing (Set 2 0) End)) 0 1 ≡ false)
unfolding pair model_of with_segments computed
conflict-last = (refl, refl)

unfoldable pub both : Model
both = pair 1 (doing (Set 0 0) End) (doing (Set 0 0) End)

-- "Marks past N are unset.": at N - 1 in row and column; at N in the row, the column, both
pub mark-last : (mark both 0 1 ≡ true) × (mark both 1 0 ≡ true) × (mark both 1 1 ≡ true)
unfolding both pair model_of with_segments computed
mark-last = (refl, refl, refl)

pub mark-past : (mark (cut_to 1 both) 0 0 ≡ true) × (mark (cut_to 1 both) 0 1 ≡ false) × (mark (cut_to 1 both) 1 0 ≡ false) × (mark (cut_to 1 both) 1 1 ≡ false)
unfolding both pair model_of with_segments computed
mark-past = (refl, refl, refl, refl)

-- "a table of 64 rows of 64 marks"
pub marks_of-size :
    (length (marks_of both) ≡ 64) ×
    (length (get_or (marks_of both) 63 []) ≡ 64) ×
    (length no_marks ≡ 64) ×
    (length (get_or no_marks 63 []) ≡ 64)
unfolding both pair model_of with_segments computed
marks_of-size = (refl, refl, refl, refl)

pub mark_at-edges :
    (mark_at (marks_of both) 0 1 ≡ true) ×
    (mark_at (marks_of both) 1 2 ≡ false) ×
    (mark_at (marks_of both) 63 63 ≡ false) ×
    (mark_at no_marks 0 0 ≡ false)
unfolding both pair model_of with_segments computed
mark_at-edges = (refl, refl, refl, refl)

-- row, then column
pub mark_at-row : mark_at ((false ∷ true ∷ []) ∷ (false ∷ false ∷ []) ∷ []) 0 1 ≡ true
unfolding computed
mark_at-row = refl

-- DISTANCE

-- both next segments, whatever the limit; no other
pub goes_to-edges : (goes_to (either 1 3) 1 ≡ true) × (goes_to (either 1 3) 3 ≡ true) × (goes_to (either 1 3) 2 ≡ false) × (goes_to (either 1 3) 0 ≡ false)
unfolding computed
goes_to-edges = (refl, refl, refl, refl)

-- "A step over a time wait counts as the clock says": 0 units are one delta, 1 is a unit
pub step_of-units :
    (step_of (units 0 (onward 1)) 1 ≡ bound_at 0 1) ×
    (step_of (units 1 (onward 1)) 1 ≡ bound_at 1 0) ×
    (step_of (units 7 (either 1 3)) 3 ≡ bound_at 7 0) ×
    (step_of (units 7 (either 1 3)) 2 ≡ Never)
unfolding computed
step_of-units = (refl, refl, refl, refl)

-- "over an event wait it is one delta"
pub step_of-event :
    (step_of (Event 0 (onward 1)) 1 ≡ bound_at 0 1) × (step_of (Event 5 (either 1 3)) 3 ≡ bound_at 0 1) × (step_of (Event 0 (onward 1)) 0 ≡ Never)
unfolding computed
step_of-event = (refl, refl, refl)

-- "With kind 0 the other twelve bytes .. name no event, next segment or variable": not even segment 0
pub step_of-end : step_of End 0 ≡ Never
unfolding computed
step_of-end = refl

-- from a segment, not to it
pub edge-edges : (edge (waits 5 7) 0 1 ≡ bound_at 5 0) × (edge (waits 5 7) 1 2 ≡ bound_at 7 0) × (edge (waits 5 7) 1 0 ≡ Never) × (edge (waits 5 7) 0 0 ≡ Never)
unfolding waits model_of with_segments computed
edge-edges = (refl, refl, refl, refl)

-- "0 to itself": with no step, and with one of 5 units
pub distance_of-self : (distance_of (waits 5 7) 2 2 ≡ bound_at 0 0) × (distance_of (model_of 0 (closing (units 5 (onward 0)) ∷ [])) 0 0 ≡ bound_at 0 0)
unfolding waits model_of with_segments computed
distance_of-self = (refl, refl)

-- case 10: "distance over waits 0 then 7 is (7, 0); over 7 then 0 it is (7, 1)"
pub distance_of-case-10 : (distance_of (waits 0 7) 0 2 ≡ bound_at 7 0) × (distance_of (waits 7 0) 0 2 ≡ bound_at 7 1)
unfolding waits model_of with_segments computed
distance_of-case-10 = (refl, refl)

pub distance_of-sums : (distance_of (waits 0 0) 0 2 ≡ bound_at 0 2) × (distance_of (waits 5 7) 0 2 ≡ bound_at 12 0)
unfolding waits model_of with_segments computed
distance_of-sums = (refl, refl)

-- "'never' with no path"
pub distance_of-no-path : (distance_of (waits 5 7) 2 0 ≡ Never) × (distance_of (waits 5 7) 1 0 ≡ Never)
unfolding waits model_of with_segments computed
distance_of-no-path = (refl, refl)

-- "the least advance over all paths": the first, the second; equal times by their deltas
pub distance_of-least :
    (distance_of (forks 2 4) 0 3 ≡ bound_at 5 0) ×
    (distance_of (forks 4 2) 0 3 ≡ bound_at 5 0) ×
    (distance_of (forks 0 1) 0 3 ≡ bound_at 3 1) ×
    (distance_of (forks 1 0) 0 3 ≡ bound_at 3 1)
unfolding forks model_of with_segments computed
distance_of-least = (refl, refl, refl, refl)

-- "'Never' begins above 1,000,000,000 units": not above (1,000,000,000, 0)
pub cut-edges :
    (cut (bound_at 999999999 1023) ≡ bound_at 999999999 1023) ×
    (cut (bound_at 1000000000 0) ≡ bound_at 1000000000 0) ×
    (cut (bound_at 1000000000 1023) ≡ bound_at 1000000000 1023) ×
    (cut (bound_at 1000000001 0) ≡ Never) ×
    (cut Never ≡ Never)
unfolding computed
cut-edges = (refl, refl, refl, refl, refl)

pub distance_of-cut :
    (distance_of (wait 1000000000) 0 1 ≡ bound_at 1000000000 0) ×
    (distance_of (wait 1000000001) 0 1 ≡ Never) ×
    (distance_of (waits 1000000000 0) 0 2 ≡ bound_at 1000000000 1) ×
    (distance_of (waits 500000000 500000000) 0 2 ≡ bound_at 1000000000 0) ×
    (distance_of (waits 500000000 500000001) 0 2 ≡ Never)
unfolding wait waits model_of with_segments computed
distance_of-cut = (refl, refl, refl, refl, refl)

-- WORDS

-- "time × 1,024 + delta in a 64-bit word, 'never' as all ones"
pub word_of-edges :
    (word_of (bound_at 0 0) ≡ 0) ×
    (word_of (bound_at 7 1) ≡ 7169) ×
    (word_of (bound_at 1000000000 63) ≡ 1024000000063) ×
    (word_of Never ≡ 18446744073709551615)
unfolding computed
word_of-edges = (refl, refl, refl, refl)

pub bound_of-edges :
    (bound_of 7169 ≡ bound_at 7 1) ×
    (bound_of 8191 ≡ bound_at 7 1023) ×
    (bound_of 8192 ≡ bound_at 8 0) ×
    (bound_of 18446744073709551614 ≡ bound_at 18014398509481983 1022) ×
    (bound_of 18446744073709551615 ≡ Never)
unfolding computed
bound_of-edges = (refl, refl, refl, refl, refl)

-- "The word from r to s stands at place r × N + s": 0 to 1 and 0 to 2 in the first three words
pub words_of-places : words_of (waits 5 7) ≡ 0 ∷ 5120 ∷ 12288 ∷ all_ones ∷ 0 ∷ 7168 ∷ all_ones ∷ all_ones ∷ 0 ∷ []
unfolding waits model_of with_segments computed
words_of-places = refl

-- "never" is stored as all ones, also where there is a path
pub words_of-cut :
    (words_of (wait 1000000000) ≡ 0 ∷ 1024000000000 ∷ all_ones ∷ 0 ∷ []) × (words_of (wait 1000000001) ≡ 0 ∷ all_ones ∷ all_ones ∷ 0 ∷ [])
unfolding wait model_of with_segments computed
words_of-cut = (refl, refl)

-- "words past them are not touched"
pub stored_past : stored (wait 7) (1 ∷ 2 ∷ 3 ∷ 4 ∷ 5 ∷ 6 ∷ []) ≡ 0 ∷ 7168 ∷ all_ones ∷ 0 ∷ 5 ∷ 6 ∷ []
unfolding wait model_of with_segments computed
stored_past = refl

pub stored-whole : stored (wait 7) (1 ∷ 2 ∷ 3 ∷ 4 ∷ []) ≡ 0 ∷ 7168 ∷ all_ones ∷ 0 ∷ []
unfolding wait model_of with_segments computed
stored-whole = refl

pub distance_in-places :
    (distance_in (wait 7) (0 ∷ 7168 ∷ 9217 ∷ 0 ∷ []) 0 1 ≡ bound_at 7 0) ×
    (distance_in (wait 7) (0 ∷ 7168 ∷ 9217 ∷ 0 ∷ []) 1 0 ≡ bound_at 9 1)
unfolding wait model_of with_segments computed
distance_in-places = (refl, refl)

-- NUMBERS

-- a model that keeps the file rules: one segment that ends, one thread
unfoldable pub kept : ℕ → Model
kept h = with_start (with_segments (with_head no_model h 0 0) (closing End ∷ [])) (record { first = 0; ports = no_ports })

-- "the tables refuse a held model with 11 if the file rules would refuse it": H = 0, no horizon
pub conflict_number-edges : (conflict_number (kept 0) ≡ 11) × (conflict_number (kept 1) ≡ 0)
unfolding kept with_segments computed
conflict_number-edges = (refl, refl)

-- the marks of one segment that writes: set, or all unset where the number is not 0
unfoldable pub writer : ℕ → Model
writer h = with_start (with_segments (with_head no_model h 1 0) (doing (Set 0 0) End ∷ [])) (record { first = 0; ports = no_ports })

pub conflict_marks-edges : (mark_at (conflict_marks (writer 1)) 0 0 ≡ true) × (mark_at (conflict_marks (writer 0)) 0 0 ≡ false) × (length (conflict_marks (writer 0)) ≡ 64)
unfolding writer with_segments computed
conflict_marks-edges = (refl, refl, refl)

-- 16, "table buffer below N × N words": none and one; 11 "before 16"
pub distances_number-edges :
    (distances_number (kept 1) [] ≡ 16) ×
    (distances_number (kept 1) (5 ∷ []) ≡ 0) ×
    (distances_number (kept 0) [] ≡ 11) ×
    (distances_number (kept 0) (5 ∷ []) ≡ 11)
unfolding kept with_segments computed
distances_number-edges = (refl, refl, refl, refl)

-- "Here 16 applies below 64 words", whatever N is; 11 before it
pub rows_number-edges :
    (rows_number (kept 1) 63 ≡ 16) × (rows_number (kept 1) 64 ≡ 0) × (rows_number (kept 1) 65 ≡ 0) × (rows_number (kept 0) 63 ≡ 11) × (rows_number (kept 0) 64 ≡ 11)
unfolding kept with_segments computed
rows_number-edges = (refl, refl, refl, refl, refl)

-- "the table buffer is not written" on a refusal
unfoldable pub two : ℕ → Model
two h = with_start (with_segments (with_head no_model h 0 0) (closing (units 7 (onward 1)) ∷ closing End ∷ [])) (record { first = 0; ports = no_ports })

pub distances_buffer-edges :
    (distances_buffer (two 1) (5 ∷ 6 ∷ 7 ∷ []) ≡ 5 ∷ 6 ∷ 7 ∷ []) ×
    (distances_buffer (two 0) (5 ∷ 6 ∷ 7 ∷ 8 ∷ 9 ∷ []) ≡ 5 ∷ 6 ∷ 7 ∷ 8 ∷ 9 ∷ []) ×
    (distances_buffer (two 1) (5 ∷ 6 ∷ 7 ∷ 8 ∷ 9 ∷ []) ≡ 0 ∷ 7168 ∷ all_ones ∷ 0 ∷ 9 ∷ [])
unfolding two with_segments computed
distances_buffer-edges = (refl, refl, refl)

pub distances_number-two : (distances_number (two 1) (5 ∷ 6 ∷ 7 ∷ []) ≡ 16) × (distances_number (two 1) (5 ∷ 6 ∷ 7 ∷ 8 ∷ []) ≡ 0)
unfolding two with_segments computed
distances_number-two = (refl, refl)
