-- Limits, and what looks ahead with them, at, below and above their edges: closed examples, worked out from document 01.
use Prim.Native.Nat.{ℕ, ◌-◌}
use mathlib.Core.Path.{◌≡◌, refl}
use mathlib.Core.Bool.{Bool, true, false, ◌&&◌}
use mathlib.Core.List.{List, [], ◌∷◌, ◌++◌}
use lib.Dec.{eqb}
use lib.ListN.{get_or, length, replicate}
use Rattle.clock.specs.declared.Bound.TheVariants.{Never}
use Rattle.clock.specs.Cycle.{cycle_at, stamp_at}
use Rattle.model.specs.Record.{nothing, awaits}
use Rattle.tables.specs.Conflict.{mark_at}
use Rattle.tables.specs.Word.{all_ones}
use Rattle.early.proofs.EdgeModels.{bound_at, note, ready_in, waiting_in, ended_in, segment_of, with_starts, sayers, far_words, one_mark}
use Rattle.early_limits.specs.declared.Crew.{Crew}
use Rattle.early_limits.specs.Limit.{top, limit_of, limit_of_cycle, limit_of_word, lesser, lesser_below, sum_of, raised_limit, is_sooner_limit, at_most}
use Rattle.early_limits.specs.Ahead.{nearest, reach_of, reach_in, forecast_at, relaxed_at, relaxed_limits, after_rounds, earliest_limits, threatens_limit, hazard_at, event_awaited, since_awaited, segments_of, events_of, since_of, source_limits}
use Rattle.early_limits.proofs.Computed.{computed}

-- never; "(0, 1,025) is a bound less than (1, 0)"; the last delta of a time, and the time after it
pub limit_of-edges :
    (limit_of Never ≡ all_ones) ×
    (limit_of (bound_at 0 0) ≡ 0) ×
    (limit_of (bound_at 0 1025) ≡ 1025) ×
    (limit_of (bound_at 0 65535) ≡ 65535) ×
    (limit_of (bound_at 1 0) ≡ 65536) ×
    (limit_of (bound_at 3 4) ≡ 196612)
unfolding computed
limit_of-edges = (refl, refl, refl, refl, refl, refl)

-- times below 2 ^ 46, at it and above
pub limit_of_cycle-edges :
    (limit_of_cycle (cycle_at 3 4) ≡ 196612) ×
    (limit_of_cycle (cycle_at 70368744177663 4) ≡ 4611686018427322372) ×
    (limit_of_cycle (cycle_at 70368744177664 4) ≡ all_ones) ×
    (limit_of_cycle (cycle_at 70368744177665 4) ≡ all_ones)
unfolding computed
limit_of_cycle-edges = (refl, refl, refl, refl)

-- words: time × 1,024 + delta; a time of 1,000,000,000 with its first and its last delta, and above; all ones
pub limit_of_word-edges :
    (limit_of_word 0 ≡ 0) ×
    (limit_of_word 1023 ≡ 1023) ×
    (limit_of_word 1024 ≡ 65536) ×
    (limit_of_word 1024000000000 ≡ 65536000000000) ×
    (limit_of_word 1024000001023 ≡ 65536000001023) ×
    (limit_of_word 1024000001024 ≡ all_ones) ×
    (limit_of_word all_ones ≡ all_ones)
unfolding computed
limit_of_word-edges = (refl, refl, refl, refl, refl, refl, refl)

pub lesser-edges : (lesser 4 5 ≡ 4) × (lesser 5 4 ≡ 4) × (lesser 5 5 ≡ 5)
unfolding computed
lesser-edges = (refl, refl, refl)

-- the last index below n counts, n itself does not; never, where there is none
pub lesser_below-edges :
    (lesser_below 3 (λ i. 9 - i) ≡ 7) × (lesser_below 3 (λ i. 4 - i) ≡ 2) × (lesser_below 0 (λ i. 9) ≡ all_ones)
unfolding computed
lesser_below-edges = (refl, refl, refl)

-- "a distance is added as the clock says": (1, 4) and a distance of 3 deltas, of 65,535, of one unit, of one unit and a delta
pub sum_of-edges :
    (sum_of 65540 0 ≡ 65540) ×
    (sum_of 65540 3 ≡ 65543) ×
    (sum_of 65540 65535 ≡ 131075) ×
    (sum_of 65540 65536 ≡ 131072) ×
    (sum_of 65540 65537 ≡ 131073)
unfolding computed
sum_of-edges = (refl, refl, refl, refl, refl)

-- never from 2 ^ 62 on, on either side
pub sum_of-never :
    (sum_of 4611686018427387903 0 ≡ 4611686018427387903) ×
    (sum_of top 0 ≡ all_ones) ×
    (sum_of 4611686018427387905 0 ≡ all_ones) ×
    (sum_of 0 4611686018427387903 ≡ 4611686018427387903) ×
    (sum_of 0 top ≡ all_ones) ×
    (sum_of 0 4611686018427387905 ≡ all_ones) ×
    (sum_of all_ones all_ones ≡ all_ones)
unfolding computed
sum_of-never = (refl, refl, refl, refl, refl, refl, refl)

-- raised to 5: below it, at it, above it, never
pub raised_limit-edges : (raised_limit 5 4 ≡ 5) × (raised_limit 5 5 ≡ 5) × (raised_limit 5 6 ≡ 6) × (raised_limit 5 all_ones ≡ all_ones)
unfolding computed
raised_limit-edges = (refl, refl, refl, refl)

-- "at a smaller stamp": sooner, later; tied, as a lower thread, the same and a higher one
pub is_sooner_limit-edges :
    (is_sooner_limit 4 2 5 1 ≡ true) ×
    (is_sooner_limit 6 0 5 1 ≡ false) ×
    (is_sooner_limit 5 0 5 1 ≡ true) ×
    (is_sooner_limit 5 1 5 1 ≡ false) ×
    (is_sooner_limit 5 2 5 1 ≡ false)
unfolding computed
is_sooner_limit-edges = (refl, refl, refl, refl, refl)

pub at_most-edges : (at_most 32 31 ≡ 31) × (at_most 32 32 ≡ 32) × (at_most 32 33 ≡ 32)
unfolding computed
at_most-edges = (refl, refl, refl)

-- the nearest segment that notifies an event: from segment 0 to 1 and to 2, from 1 and 2 at once, and never
pub nearest-edges :
    (nearest (sayers 2) far_words 0 0 ≡ 131072) ×
    (nearest (sayers 2) far_words 0 1 ≡ 3) ×
    (nearest (sayers 2) far_words 1 0 ≡ 0) ×
    (nearest (sayers 2) far_words 1 1 ≡ all_ones) ×
    (nearest (sayers 2) far_words 2 1 ≡ 0) ×
    (nearest (sayers 2) far_words 0 2 ≡ all_ones)
unfolding computed sayers with_starts segment_of
nearest-edges = (refl, refl, refl, refl, refl, refl)

-- place r × 32 + e, for the last segment and for N; 2,048 places
pub reach_of-edges :
    (get_or (reach_of (sayers 2) far_words) 0 0 ≡ 131072) ×
    (get_or (reach_of (sayers 2) far_words) 1 0 ≡ 3) ×
    (get_or (reach_of (sayers 2) far_words) 31 0 ≡ all_ones) ×
    (get_or (reach_of (sayers 2) far_words) 32 0 ≡ 0) ×
    (get_or (reach_of (sayers 2) far_words) 65 7 ≡ 0) ×
    (get_or (reach_of (sayers 2) far_words) 97 0 ≡ all_ones) ×
    (length (reach_of (sayers 2) far_words) ≡ 2048)
unfolding computed sayers with_starts segment_of
reach_of-edges = (refl, refl, refl, refl, refl, refl, refl)

-- a buffer of 2,047 places stays, one of 2,048 is filled, and what is past those places stays
pub reach_in-edges :
    (get_or (reach_in (sayers 2) far_words (replicate 2047 7)) 0 0 ≡ 7) ×
    (get_or (reach_in (sayers 2) far_words (replicate 2048 7)) 0 0 ≡ 131072) ×
    (get_or (reach_in (sayers 2) far_words (replicate 2049 7)) 2047 0 ≡ all_ones) ×
    (get_or (reach_in (sayers 2) far_words (replicate 2049 7)) 2048 0 ≡ 7)
unfolding computed sayers with_starts segment_of
reach_in-edges = (refl, refl, refl, refl)

-- "the least, over live threads ..": the last thread below T counts, and no thread past 32; never is no less than any
pub forecast_at-edges :
    (forecast_at (5 ∷ []) (0 ∷ 0 ∷ []) (9 ∷ 8 ∷ []) 2 0 ≡ 13) ×
    (forecast_at (5 ∷ []) (0 ∷ 0 ∷ []) (9 ∷ 8 ∷ []) 1 0 ≡ 14) ×
    (forecast_at (5 ∷ []) (0 ∷ 0 ∷ []) (all_ones ∷ 8 ∷ []) 2 0 ≡ 13) ×
    (forecast_at (5 ∷ 6 ∷ []) (0 ∷ 1 ∷ []) (9 ∷ 8 ∷ []) 2 1 ≡ 15) ×
    (forecast_at (replicate 32 all_ones ++ (6 ∷ 7 ∷ [])) (0 ∷ 1 ∷ []) (9 ∷ 8 ∷ []) 2 1 ≡ 15) ×
    (forecast_at (5 ∷ []) [] (replicate 31 all_ones ++ (8 ∷ [])) 32 0 ≡ 13) ×
    (forecast_at (5 ∷ []) [] (replicate 32 all_ones ++ (8 ∷ [])) 33 0 ≡ all_ones)
unfolding computed
forecast_at-edges = (refl, refl, refl, refl, refl, refl, refl)

-- segments, events and beginnings of waits
abbrev crew : List ℕ → List ℕ → List ℕ → Crew
crew segments events since = record { segments = segments; events = events; since = since }

-- "one delta after": thread 0 waits on event 31, on 32, on none; it keeps what it has, where that is less
pub relaxed_at-edges :
    (relaxed_at (replicate 31 all_ones ++ (4 ∷ 4 ∷ [])) (crew [] (31 ∷ []) []) (all_ones ∷ 10 ∷ []) 2 0 ≡ 15) ×
    (relaxed_at (replicate 31 all_ones ++ (4 ∷ 4 ∷ [])) (crew [] (32 ∷ []) []) (all_ones ∷ 10 ∷ []) 2 0 ≡ all_ones) ×
    (relaxed_at (replicate 256 4) (crew [] [] []) (all_ones ∷ 10 ∷ []) 2 0 ≡ all_ones) ×
    (relaxed_at (4 ∷ []) (crew [] (0 ∷ []) []) (14 ∷ 10 ∷ []) 2 0 ≡ 14) ×
    (relaxed_at (4 ∷ []) (crew [] (0 ∷ []) []) (16 ∷ 10 ∷ []) 2 0 ≡ 15)
unfolding computed
relaxed_at-edges = (refl, refl, refl, refl, refl)

-- "the delta after its wait began": event 0 may be notified at 14, and the wait began before, at it and after; never stays never
pub relaxed_at-raised :
    (relaxed_at (4 ∷ []) (crew [] (0 ∷ []) (13 ∷ 99 ∷ [])) (all_ones ∷ 10 ∷ []) 2 0 ≡ 15) ×
    (relaxed_at (4 ∷ []) (crew [] (0 ∷ []) (14 ∷ 99 ∷ [])) (all_ones ∷ 10 ∷ []) 2 0 ≡ 15) ×
    (relaxed_at (4 ∷ []) (crew [] (0 ∷ []) (15 ∷ 99 ∷ [])) (all_ones ∷ 10 ∷ []) 2 0 ≡ 16) ×
    (relaxed_at (4 ∷ []) (crew [] (0 ∷ []) (15 ∷ 99 ∷ [])) (15 ∷ 10 ∷ []) 2 0 ≡ 15) ×
    (relaxed_at (4 ∷ []) (crew [] (0 ∷ []) (15 ∷ 99 ∷ [])) (all_ones ∷ all_ones ∷ []) 2 0 ≡ all_ones)
unfolding computed
relaxed_at-raised = (refl, refl, refl, refl, refl)

-- threads below T: the last of them, and T itself; 32 places
pub relaxed_limits-edges :
    (get_or (relaxed_limits (4 ∷ []) (crew [] (255 ∷ 0 ∷ 0 ∷ []) []) 2 (10 ∷ all_ones ∷ all_ones ∷ [])) 0 7 ≡ 10) ×
    (get_or (relaxed_limits (4 ∷ []) (crew [] (255 ∷ 0 ∷ 0 ∷ []) []) 2 (10 ∷ all_ones ∷ all_ones ∷ [])) 1 7 ≡ 15) ×
    (get_or (relaxed_limits (4 ∷ []) (crew [] (255 ∷ 0 ∷ 0 ∷ []) []) 2 (10 ∷ all_ones ∷ all_ones ∷ [])) 2 7 ≡ all_ones) ×
    (get_or (relaxed_limits (4 ∷ []) (crew [] (255 ∷ 0 ∷ 0 ∷ []) []) 2 (10 ∷ all_ones ∷ all_ones ∷ [])) 31 7 ≡ all_ones) ×
    (get_or (relaxed_limits (4 ∷ []) (crew [] (255 ∷ 0 ∷ 0 ∷ []) []) 2 (10 ∷ all_ones ∷ all_ones ∷ [])) 32 7 ≡ 7)
unfolding computed
relaxed_limits-edges = (refl, refl, refl, refl, refl)

-- A chain of two links: thread 2 notifies event 0, on which thread 1 waits, which then notifies event 1, on which thread 0 waits.
pub after_rounds-edges :
    (get_or (after_rounds (reach_of (sayers 3) far_words) (crew (0 ∷ 2 ∷ 1 ∷ []) (1 ∷ 0 ∷ []) []) 3 0 (all_ones ∷ all_ones ∷ 10 ∷ [])) 1 7 ≡ all_ones) ×
    (get_or (after_rounds (reach_of (sayers 3) far_words) (crew (0 ∷ 2 ∷ 1 ∷ []) (1 ∷ 0 ∷ []) []) 3 1 (all_ones ∷ all_ones ∷ 10 ∷ [])) 1 7 ≡ 11) ×
    (get_or (after_rounds (reach_of (sayers 3) far_words) (crew (0 ∷ 2 ∷ 1 ∷ []) (1 ∷ 0 ∷ []) []) 3 1 (all_ones ∷ all_ones ∷ 10 ∷ [])) 0 7 ≡ all_ones) ×
    (get_or (after_rounds (reach_of (sayers 3) far_words) (crew (0 ∷ 2 ∷ 1 ∷ []) (1 ∷ 0 ∷ []) []) 3 2 (all_ones ∷ all_ones ∷ 10 ∷ [])) 0 7 ≡ 12) ×
    (get_or (earliest_limits (reach_of (sayers 3) far_words) (crew (0 ∷ 2 ∷ 1 ∷ []) (1 ∷ 0 ∷ []) []) 3 (all_ones ∷ all_ones ∷ 10 ∷ [])) 0 7 ≡ 12)
unfolding computed sayers with_starts segment_of
after_rounds-edges = (refl, refl, refl, refl, refl)

-- "along chains too": thread 1's wait began at 20, thread 0's at 5
pub after_rounds-raised :
    (get_or (after_rounds (reach_of (sayers 3) far_words) (crew (0 ∷ 2 ∷ 1 ∷ []) (1 ∷ 0 ∷ []) (5 ∷ 20 ∷ [])) 3 2 (all_ones ∷ all_ones ∷ 10 ∷ [])) 1 7 ≡ 21) ×
    (get_or (after_rounds (reach_of (sayers 3) far_words) (crew (0 ∷ 2 ∷ 1 ∷ []) (1 ∷ 0 ∷ []) (5 ∷ 20 ∷ [])) 3 2 (all_ones ∷ all_ones ∷ 10 ∷ [])) 0 7 ≡ 22)
unfolding computed sayers with_starts segment_of
after_rounds-raised = (refl, refl)

-- conflicts by a row of marks, by marks, and of thread 0 in segment 0 with thread 2 in segment 1 alone
abbrev marked : List Bool → ℕ → Bool
marked row s = get_or row s false

abbrev by_marks : List (List Bool) → ℕ → ℕ → ℕ → ℕ → Bool
by_marks marks i r j s = mark_at marks r s

abbrev alone : ℕ → ℕ → ℕ → ℕ → Bool
alone i r j s = (eqb i 0 && eqb r 0) && (eqb j 2 && eqb s 1)

-- a marked segment, sooner, tied as a lower thread and as a higher one, later; the last segment below N and N; by the second row, tied and
-- sooner; segment 63 and 64
pub threatens_limit-edges :
    (threatens_limit (marked (false ∷ true ∷ [])) (0 ∷ 3 ∷ []) 2 0 10 1 14 0 ≡ true) ×
    (threatens_limit (marked (false ∷ true ∷ [])) (0 ∷ 3 ∷ []) 2 0 10 0 13 1 ≡ true) ×
    (threatens_limit (marked (false ∷ true ∷ [])) (0 ∷ 3 ∷ []) 2 0 10 1 13 0 ≡ false) ×
    (threatens_limit (marked (false ∷ true ∷ [])) (0 ∷ 3 ∷ []) 2 0 10 0 12 1 ≡ false) ×
    (threatens_limit (marked (false ∷ true ∷ [])) (0 ∷ 3 ∷ []) 1 0 10 1 14 0 ≡ false) ×
    (threatens_limit (marked (false ∷ true ∷ [])) (0 ∷ 3 ∷ 0 ∷ 5 ∷ []) 2 2 10 1 15 0 ≡ false) ×
    (threatens_limit (marked (false ∷ true ∷ [])) (0 ∷ 3 ∷ 0 ∷ 5 ∷ []) 2 2 10 1 16 0 ≡ true) ×
    (threatens_limit (marked (replicate 63 false ++ (true ∷ []))) [] 64 0 10 1 14 0 ≡ true) ×
    (threatens_limit (marked (replicate 64 false ++ (true ∷ []))) [] 65 0 10 1 14 0 ≡ false)
unfolding computed
threatens_limit-edges = (refl, refl, refl, refl, refl, refl, refl, refl, refl)

-- "another live thread": not the asker; the last thread below T and T; thread 31 and 32; the row is that of the asker's segment
pub hazard_at-edges :
    (hazard_at (by_marks ((true ∷ []) ∷ [])) (0 ∷ []) 1 2 [] (9 ∷ 4 ∷ []) (stamp_at (cycle_at 0 5) 0) ≡ true) ×
    (hazard_at (by_marks ((true ∷ []) ∷ [])) (0 ∷ []) 1 2 [] (9 ∷ 4 ∷ []) (stamp_at (cycle_at 0 5) 1) ≡ false) ×
    (hazard_at (by_marks ((true ∷ []) ∷ [])) (0 ∷ []) 1 1 [] (9 ∷ 4 ∷ []) (stamp_at (cycle_at 0 5) 0) ≡ false) ×
    (hazard_at (by_marks ((true ∷ []) ∷ [])) (0 ∷ []) 1 32 [] (replicate 31 all_ones ++ (4 ∷ [])) (stamp_at (cycle_at 0 5) 0) ≡ true) ×
    (hazard_at (by_marks ((true ∷ []) ∷ [])) (0 ∷ []) 1 33 [] (replicate 32 all_ones ++ (4 ∷ [])) (stamp_at (cycle_at 0 5) 0) ≡ false) ×
    (hazard_at (by_marks one_mark) far_words 3 2 (0 ∷ 1 ∷ []) (9 ∷ 4 ∷ []) (stamp_at (cycle_at 0 5) 0) ≡ true) ×
    (hazard_at (by_marks one_mark) far_words 3 2 (1 ∷ 0 ∷ []) (9 ∷ 4 ∷ []) (stamp_at (cycle_at 0 5) 0) ≡ false)
unfolding computed
hazard_at-edges = (refl, refl, refl, refl, refl, refl, refl)

-- asked of the asker in its segment, and of each other thread: thread 2 could run segment 1 at (0, 4), or thread 1 does; the asker is in another segment
pub hazard_at-threads :
    (hazard_at alone far_words 3 3 (0 ∷ 2 ∷ 1 ∷ []) (9 ∷ 4 ∷ 4 ∷ []) (stamp_at (cycle_at 0 5) 0) ≡ true) ×
    (hazard_at alone far_words 3 3 (0 ∷ 1 ∷ 2 ∷ []) (9 ∷ 4 ∷ 4 ∷ []) (stamp_at (cycle_at 0 5) 0) ≡ false) ×
    (hazard_at alone far_words 3 3 (1 ∷ 2 ∷ 1 ∷ []) (9 ∷ 4 ∷ 4 ∷ []) (stamp_at (cycle_at 0 5) 0) ≡ false) ×
    (hazard_at alone far_words 3 3 (0 ∷ 0 ∷ 1 ∷ []) (4 ∷ 9 ∷ 4 ∷ []) (stamp_at (cycle_at 0 5) 1) ≡ false)
unfolding computed
hazard_at-threads = (refl, refl, refl, refl)

-- threads below T: the last of them, and T itself

pub event_awaited-edges : (event_awaited nothing ≡ 255) × (event_awaited (awaits 7 (cycle_at 1 0)) ≡ 7)
unfolding computed
event_awaited-edges = (refl, refl)

pub segments_of-edges :
    (get_or (segments_of 2 (ready_in 4 5 7 ∷ ended_in 5 1 0 ∷ ready_in 6 5 7 ∷ [])) 0 9 ≡ 4) ×
    (get_or (segments_of 2 (ready_in 4 5 7 ∷ ended_in 5 1 0 ∷ ready_in 6 5 7 ∷ [])) 1 9 ≡ 5) ×
    (get_or (segments_of 2 (ready_in 4 5 7 ∷ ended_in 5 1 0 ∷ ready_in 6 5 7 ∷ [])) 2 9 ≡ 0) ×
    (get_or (segments_of 2 []) 32 9 ≡ 9)
unfolding computed
segments_of-edges = (refl, refl, refl, refl)

pub events_of-edges :
    (get_or (events_of 2 (ready_in 4 5 7 ∷ waiting_in 5 3 1 0 ∷ waiting_in 6 4 1 0 ∷ [])) 0 9 ≡ 255) ×
    (get_or (events_of 2 (ready_in 4 5 7 ∷ waiting_in 5 3 1 0 ∷ waiting_in 6 4 1 0 ∷ [])) 1 9 ≡ 3) ×
    (get_or (events_of 2 (ready_in 4 5 7 ∷ waiting_in 5 3 1 0 ∷ waiting_in 6 4 1 0 ∷ [])) 2 9 ≡ 255) ×
    (get_or (events_of 2 []) 32 9 ≡ 9)
unfolding computed
events_of-edges = (refl, refl, refl, refl)

pub since_awaited-edges : (since_awaited nothing ≡ 0) × (since_awaited (awaits 7 (cycle_at 1 2)) ≡ 65538)
unfolding computed
since_awaited-edges = (refl, refl)

pub since_of-edges :
    (get_or (since_of 2 (ready_in 4 5 7 ∷ waiting_in 5 3 1 2 ∷ waiting_in 6 4 1 0 ∷ [])) 0 9 ≡ 0) ×
    (get_or (since_of 2 (ready_in 4 5 7 ∷ waiting_in 5 3 1 2 ∷ waiting_in 6 4 1 0 ∷ [])) 1 9 ≡ 65538) ×
    (get_or (since_of 2 (ready_in 4 5 7 ∷ waiting_in 5 3 1 2 ∷ waiting_in 6 4 1 0 ∷ [])) 2 9 ≡ 0) ×
    (get_or (since_of 2 []) 32 9 ≡ 9)
unfolding computed
since_of-edges = (refl, refl, refl, refl)

pub source_limits-edges :
    (get_or (source_limits 2 (note 3 1 0 ∷ []) (ready_in 4 5 7 ∷ waiting_in 5 3 1 0 ∷ ready_in 6 1 0 ∷ [])) 0 9 ≡ 327687) ×
    (get_or (source_limits 2 (note 3 1 0 ∷ []) (ready_in 4 5 7 ∷ waiting_in 5 3 1 0 ∷ ready_in 6 1 0 ∷ [])) 1 9 ≡ 65537) ×
    (get_or (source_limits 2 (note 3 1 0 ∷ []) (ready_in 4 5 7 ∷ waiting_in 5 3 1 0 ∷ ready_in 6 1 0 ∷ [])) 2 9 ≡ all_ones) ×
    (get_or (source_limits 2 [] []) 32 9 ≡ 9)
unfolding computed
source_limits-edges = (refl, refl, refl, refl)
