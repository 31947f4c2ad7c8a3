-- Bounds of a waiting thread at, below and above the delta after its wait began: closed examples, worked out from document 02, "Forecast from
-- where the wait began".
use Prim.Native.Nat.{ℕ}
use mathlib.Core.Path.{◌≡◌, refl}
use mathlib.Core.Bool.{true, false}
use mathlib.Core.List.{List, [], ◌∷◌}
use Rattle.clock.specs.declared.Bound.TheVariants.{Never}
use Rattle.clock.specs.Cycle.{cycle_at}
use Rattle.model.specs.declared.Thread.{Thread}
use Rattle.early.specs.Earliest.{raised, link_to, earliest_of}
use Rattle.early.specs.Forecast.{forecast_of}
use Rattle.early.specs.Hazard.{hazard}
use Rattle.early.specs.Deliver.{looked_at}
use Rattle.early.proofs.Computed.{computed}
use Rattle.early.proofs.EdgeModels.{bound_at, note, ready_in, waiting_in, segment_of, with_starts, sayers, far_words, one_mark}

-- a delta before the wait's cycle, at it, after it; an earlier and a later time; a delta that is not cut; never
pub raised-edges :
    (raised (cycle_at 5 7) (bound_at 5 6) ≡ bound_at 5 7) ×
    (raised (cycle_at 5 7) (bound_at 5 7) ≡ bound_at 5 7) ×
    (raised (cycle_at 5 7) (bound_at 5 8) ≡ bound_at 5 8) ×
    (raised (cycle_at 5 7) (bound_at 4 1030) ≡ bound_at 5 7) ×
    (raised (cycle_at 5 7) (bound_at 6 0) ≡ bound_at 6 0) ×
    (raised (cycle_at 5 7) Never ≡ Never)
unfolding computed
raised-edges = (refl, refl, refl, refl, refl, refl)

-- Thread 0 notifies event 0 at (5, 7). Thread 1's wait began a delta before, then, a delta after, long after, and at the last delta of a time.
abbrev since : ℕ → ℕ → List Thread
since t d = ready_in 1 5 7 ∷ waiting_in 0 0 t d ∷ []

pub link_to-raised :
    (link_to (sayers 2) far_words (since 5 6) 0 1 (bound_at 5 7) ≡ bound_at 5 8) ×
    (link_to (sayers 2) far_words (since 5 7) 0 1 (bound_at 5 7) ≡ bound_at 5 8) ×
    (link_to (sayers 2) far_words (since 5 8) 0 1 (bound_at 5 7) ≡ bound_at 5 9) ×
    (link_to (sayers 2) far_words (since 9 0) 0 1 (bound_at 5 7) ≡ bound_at 9 1) ×
    (link_to (sayers 2) far_words (since 8 1023) 0 1 (bound_at 5 7) ≡ bound_at 8 1024) ×
    (link_to (sayers 2) far_words (since 9 0) 0 1 Never ≡ Never)
unfolding computed sayers with_starts segment_of
link_to-raised = (refl, refl, refl, refl, refl, refl)

-- A slow sounder: thread 0 waits since (5, 0) on what thread 1 may notify at (0, 0), and then runs what conflicts with segment 0.
abbrev slow : ℕ → ℕ → List Thread
slow t d = waiting_in 1 1 5 0 ∷ ready_in 2 0 0 ∷ ready_in 0 t d ∷ []

pub earliest_of-raised :
    (earliest_of (sayers 3) far_words [] (slow 4 0) ≡ bound_at 5 1 ∷ bound_at 0 0 ∷ bound_at 4 0 ∷ []) ×
    (forecast_of (sayers 3) far_words [] (slow 4 0) 0 ≡ bound_at 5 1) ×
    (forecast_of (sayers 3) far_words [] (slow 4 0) 1 ≡ bound_at 0 0)
unfolding computed sayers with_starts segment_of
earliest_of-raised = (refl, refl, refl)

-- Asked before the delta after the wait began: no hazard. In that delta: one for a higher thread, none for a lower; a delta later one for both.
pub hazard-raised :
    (hazard (sayers 3) one_mark far_words [] (slow 4 0) 2 (cycle_at 4 0) ≡ false) ×
    (hazard (sayers 3) one_mark far_words [] (slow 5 0) 2 (cycle_at 5 0) ≡ false) ×
    (hazard (sayers 3) one_mark far_words [] (slow 5 1) 2 (cycle_at 5 1) ≡ true) ×
    (hazard (sayers 3) one_mark far_words [] (ready_in 0 5 1 ∷ waiting_in 1 1 5 0 ∷ ready_in 2 0 0 ∷ []) 0 (cycle_at 5 1) ≡ false) ×
    (hazard (sayers 3) one_mark far_words [] (ready_in 0 5 2 ∷ waiting_in 1 1 5 0 ∷ ready_in 2 0 0 ∷ []) 0 (cycle_at 5 2) ≡ true)
unfolding computed sayers with_starts segment_of
hazard-raised = (refl, refl, refl, refl, refl)

-- "along chains too": thread 0 waits since (5, 0) and then notifies event 1, on which thread 1 waits since (2, 0)
pub earliest_of-along :
    earliest_of (sayers 3) far_words [] (waiting_in 2 0 5 0 ∷ waiting_in 1 1 2 0 ∷ ready_in 1 0 0 ∷ []) ≡ bound_at 5 1 ∷ bound_at 5 2 ∷ bound_at 0 0 ∷ []
unfolding computed sayers with_starts segment_of
earliest_of-along = refl

-- never stays never: nobody notifies event 0, on which thread 0 waits since (5, 0)
pub earliest_of-stays-never :
    (earliest_of (sayers 2) far_words [] (waiting_in 1 0 5 0 ∷ ready_in 2 0 0 ∷ []) ≡ Never ∷ bound_at 0 0 ∷ []) ×
    (hazard (sayers 2) one_mark far_words [] (waiting_in 1 1 5 0 ∷ ready_in 0 9 0 ∷ []) 1 (cycle_at 9 0) ≡ false)
unfolding computed sayers with_starts segment_of
earliest_of-stays-never = (refl, refl)

-- "deliveries follow the raised figure": event 0 is logged at (2, 0). Thread 1 could notify it, once it has heard event 1, which thread 2 may notify at
-- (0, 0); its wait began after (2, 0), at it, and a delta that is not cut before it.
abbrev held : ℕ → ℕ → List Thread
held t d = waiting_in 2 0 0 0 ∷ waiting_in 1 1 t d ∷ ready_in 2 0 0 ∷ []

pub looked_at-raised :
    (looked_at (sayers 3) far_words (note 0 2 0 ∷ []) (held 3 0) 0 ≡ ready_in 2 2 1 ∷ waiting_in 1 1 3 0 ∷ ready_in 2 0 0 ∷ []) ×
    (looked_at (sayers 3) far_words (note 0 2 0 ∷ []) (held 2 0) 0 ≡ ready_in 2 2 1 ∷ waiting_in 1 1 2 0 ∷ ready_in 2 0 0 ∷ []) ×
    (looked_at (sayers 3) far_words (note 0 2 0 ∷ []) (held 1 1023) 0 ≡ held 1 1023)
unfolding computed sayers with_starts segment_of
looked_at-raised = (refl, refl, refl)

-- What is about to be heard counts: thread 1 can hear event 0 of (2, 0) and would notify event 1 at (2, 1), so that thread 0, looked at first, does
-- not hear event 1 of (5, 0); it does where that is of (2, 1).
pub looked_at-logged :
    (looked_at (sayers 2) far_words (note 0 2 0 ∷ note 1 5 0 ∷ []) (waiting_in 1 1 0 0 ∷ waiting_in 2 0 0 0 ∷ []) 0 ≡ waiting_in 1 1 0 0 ∷ waiting_in 2 0 0 0 ∷ []) ×
    (looked_at (sayers 2) far_words (note 0 2 0 ∷ note 1 2 1 ∷ []) (waiting_in 1 1 0 0 ∷ waiting_in 2 0 0 0 ∷ []) 0 ≡ ready_in 1 2 2 ∷ waiting_in 2 0 0 0 ∷ [])
unfolding computed sayers with_starts segment_of
looked_at-logged = (refl, refl)
