-- Each comparison at, below and above its edge, where each number stands: closed examples.
use Prim.Native.Nat.{◌^◌}
use mathlib.Core.Path.{◌≡◌, refl}
use mathlib.Core.Bool.{true, false}
use mathlib.Core.List.{[], ◌∷◌, ◌++◌}
use lib.ListN.{replicate}
use Rattle.clock.specs.Cycle.{cycle_at}
use Rattle.model.specs.declared.State.TheVariants.{Ended, Overrun, Ready, Waiting, Running}
use Rattle.early.proofs.EdgeModels.{note, in_state}
use Rattle.export_state.specs.Numbers.{log_words, record_words, pair_at, state_from, thread_from, variables_from, place_from, site_from, threads_from, held_threads, is_pair_held, is_event_held, is_record_held, is_log_held, are_records_held, are_held}
use Rattle.export_state.proofs.Computed.{computed}

-- the count, then event, time, delta of each place
pub log_words-order :
    log_words (record { variables = record { at = [] }; log = note 1 5 2 ∷ note 3 9 4 ∷ []; count = 6 }) ≡ 6 ∷ 1 ∷ 5 ∷ 2 ∷ 3 ∷ 9 ∷ 4 ∷ []
unfolding computed
log_words-order = refl

-- segment, state, event, time, delta
pub record_words-order :
    record_words (in_state 7 (Ended (cycle_at 5 2)) ∷ in_state 8 (Overrun (cycle_at 6 3)) ∷ in_state 9 (Ready (cycle_at 7 4)) ∷ in_state 10 (Waiting 11 (cycle_at 8 5)) ∷ in_state 12 (Running (cycle_at 9 6)) ∷ []) ≡
    7 ∷ 0 ∷ 0 ∷ 5 ∷ 2 ∷ 8 ∷ 1 ∷ 0 ∷ 6 ∷ 3 ∷ 9 ∷ 2 ∷ 0 ∷ 7 ∷ 4 ∷ 10 ∷ 3 ∷ 11 ∷ 8 ∷ 5 ∷ 12 ∷ 4 ∷ 0 ∷ 9 ∷ 6 ∷ []
unfolding computed
record_words-order = refl

-- the second place; an event modulo 2 ^ 8, a delta modulo 2 ^ 32
pub pair_at-edges :
    (pair_at (9 ∷ 1 ∷ 2 ∷ 3 ∷ 255 ∷ 5 ∷ 4294967295 ∷ []) 1 ≡ note 255 5 4294967295) ×
    (pair_at (9 ∷ 256 ∷ 2 ∷ 4294967296 ∷ []) 0 ≡ note 0 2 0)
unfolding computed
pair_at-edges = (refl, refl)

pub state_from-edges :
    (state_from 0 7 (cycle_at 5 2) ≡ Ended (cycle_at 5 2)) ×
    (state_from 1 7 (cycle_at 5 2) ≡ Overrun (cycle_at 5 2)) ×
    (state_from 2 7 (cycle_at 5 2) ≡ Ready (cycle_at 5 2)) ×
    (state_from 3 7 (cycle_at 5 2) ≡ Waiting 7 (cycle_at 5 2)) ×
    (state_from 4 7 (cycle_at 5 2) ≡ Running (cycle_at 5 2)) ×
    (state_from 5 7 (cycle_at 5 2) ≡ Running (cycle_at 5 2))
unfolding computed
state_from-edges = (refl, refl, refl, refl, refl, refl)

-- the second record; a segment and an event modulo 2 ^ 8, a delta modulo 2 ^ 32
pub thread_from-edges :
    (thread_from (0 ∷ 0 ∷ 0 ∷ 0 ∷ 0 ∷ 255 ∷ 3 ∷ 255 ∷ 6 ∷ 4294967295 ∷ []) 1 ≡ in_state 255 (Waiting 255 (cycle_at 6 4294967295))) ×
    (thread_from (256 ∷ 3 ∷ 257 ∷ 6 ∷ 4294967296 ∷ []) 0 ≡ in_state 0 (Waiting 1 (cycle_at 6 0)))
unfolding computed
thread_from-edges = (refl, refl)

-- 64 variables, 128 places, 0 past the end; a count modulo 2 ^ 8
pub from-lengths :
    ((variables_from (7 ∷ [])).at ≡ 7 ∷ replicate 63 0) ×
    ((site_from [] (257 ∷ [])).log ≡ replicate 128 (note 0 0 0)) ×
    ((site_from [] (257 ∷ [])).count ≡ 1) ×
    ((site_from [] (255 ∷ [])).count ≡ 255)
unfolding computed
from-lengths = (refl, refl, refl, refl)

-- the last place below the count, and the first past it; the last record of two threads, and the first past them
pub read-edges :
    (place_from (1 ∷ 2 ∷ 5 ∷ 3 ∷ 4 ∷ 6 ∷ 7 ∷ []) 0 ≡ note 2 5 3) ×
    (place_from (1 ∷ 2 ∷ 5 ∷ 3 ∷ 4 ∷ 6 ∷ 7 ∷ []) 1 ≡ note 0 0 0) ×
    (threads_from (replicate 15 2) 2 ≡ in_state 2 (Ready (cycle_at 2 2)) ∷ in_state 2 (Ready (cycle_at 2 2)) ∷ []) ×
    (held_threads (replicate 15 2) 2 ≡ in_state 2 (Ready (cycle_at 2 2)) ∷ in_state 2 (Ready (cycle_at 2 2)) ∷ replicate 38 (in_state 0 (Ended (cycle_at 0 0))))
unfolding computed
read-edges = (refl, refl, refl, refl)

pub is_pair_held-edges :
    (is_pair_held (0 ∷ 255 ∷ 2 ^ 64 ∷ 4294967295 ∷ []) 0 ≡ true) ×
    (is_pair_held (0 ∷ 256 ∷ 0 ∷ 0 ∷ []) 0 ≡ false) ×
    (is_pair_held (0 ∷ 0 ∷ 0 ∷ 4294967296 ∷ []) 0 ≡ false)
unfolding computed
is_pair_held-edges = (refl, refl, refl)

pub is_event_held-edges :
    (is_event_held 0 0 ≡ true) × (is_event_held 1 1 ≡ false) × (is_event_held 2 0 ≡ true) × (is_event_held 2 1 ≡ false) × (is_event_held 3 0 ≡ true) × (is_event_held 3 255 ≡ true) × (is_event_held 3 256 ≡ false) × (is_event_held 4 0 ≡ true) × (is_event_held 4 1 ≡ false)
unfolding computed
is_event_held-edges = (refl, refl, refl, refl, refl, refl, refl, refl, refl)

pub is_record_held-edges :
    (is_record_held (255 ∷ 3 ∷ 255 ∷ 2 ^ 64 ∷ 4294967295 ∷ []) 0 ≡ true) ×
    (is_record_held (256 ∷ 3 ∷ 0 ∷ 0 ∷ 0 ∷ []) 0 ≡ false) ×
    (is_record_held (0 ∷ 4 ∷ 0 ∷ 0 ∷ 0 ∷ []) 0 ≡ true) ×
    (is_record_held (0 ∷ 4 ∷ 1 ∷ 0 ∷ 0 ∷ []) 0 ≡ false) ×
    (is_record_held (0 ∷ 5 ∷ 0 ∷ 0 ∷ 0 ∷ []) 0 ≡ false) ×
    (is_record_held (0 ∷ 2 ∷ 1 ∷ 0 ∷ 0 ∷ []) 0 ≡ false) ×
    (is_record_held (0 ∷ 0 ∷ 0 ∷ 0 ∷ 4294967296 ∷ []) 0 ≡ false)
unfolding computed
is_record_held-edges = (refl, refl, refl, refl, refl, refl, refl)

-- 384, 385 words; a count of 128, 129; the last place below the count, and the first past it
pub is_log_held-edges :
    (is_log_held (replicate 384 0) ≡ false) ×
    (is_log_held (replicate 385 0) ≡ true) ×
    (is_log_held (128 ∷ replicate 384 0) ≡ true) ×
    (is_log_held (129 ∷ replicate 384 0) ≡ false) ×
    (is_log_held (2 ∷ 0 ∷ 0 ∷ 0 ∷ 0 ∷ 0 ∷ 4294967296 ∷ replicate 378 0) ≡ false) ×
    (is_log_held (1 ∷ 0 ∷ 0 ∷ 0 ∷ 0 ∷ 0 ∷ 4294967296 ∷ replicate 378 0) ≡ true)
unfolding computed
is_log_held-edges = (refl, refl, refl, refl, refl, refl)

-- of two threads 9, 10 words; the last record, and the first past it
pub are_records_held-edges :
    (are_records_held 2 (replicate 9 0) ≡ false) ×
    (are_records_held 2 (replicate 10 0) ≡ true) ×
    (are_records_held 2 (replicate 9 0 ++ (4294967296 ∷ [])) ≡ false) ×
    (are_records_held 2 (replicate 14 0 ++ (4294967296 ∷ [])) ≡ true) ×
    (are_records_held 0 [] ≡ true)
unfolding computed
are_records_held-edges = (refl, refl, refl, refl, refl)

-- 63, 64 variables; and each buffer
pub are_held-edges :
    (are_held 1 (replicate 63 0) (replicate 385 0) (replicate 5 0) ≡ false) ×
    (are_held 1 (replicate 64 0) (replicate 385 0) (replicate 5 0) ≡ true) ×
    (are_held 1 (replicate 64 0) (replicate 384 0) (replicate 5 0) ≡ false) ×
    (are_held 1 (replicate 64 0) (replicate 385 0) (replicate 4 0) ≡ false)
unfolding computed
are_held-edges = (refl, refl, refl, refl)
