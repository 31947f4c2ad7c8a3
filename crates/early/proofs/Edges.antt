-- The log, earliest, forecast, hazard and deliveries of `specs/` at, below and above their edges: closed examples, worked out from document 01.
use mathlib.Core.Path.{◌≡◌, refl}
use mathlib.Core.Bool.{true, false}
use mathlib.Core.List.{List, [], ◌∷◌}
use lib.ListN.{length}
use Rattle.clock.specs.declared.Bound.TheVariants.{Never}
use Rattle.clock.specs.Cycle.{cycle_at, stamp_at}
use Rattle.model.specs.declared.State.TheVariants.{Ended, Overrun, Ready, Waiting}
use Rattle.model.specs.declared.Thread.{Thread}
use Rattle.model.specs.Record.{nothing, awaits}
use Rattle.plain.specs.History.{heard}
use Rattle.early.specs.declared.Notification.{Notification}
use Rattle.early.specs.Log.{log_of, is_same_pair, with_pair, with_pairs, counted_places, is_heard, least_heard, is_dropped, drop_before}
use Rattle.early.specs.Earliest.{after_heard, source_of, soonest_notify, link_to, earliest_of}
use Rattle.early.specs.Forecast.{forecast_of}
use Rattle.early.specs.Hazard.{is_sooner, hazard}
use Rattle.early.specs.Deliver.{heard_now, after_hearing, looked_at, look_items, swept, settled, settled_items}
use Rattle.early.proofs.Computed.{computed}
use Rattle.early.proofs.EdgeModels.{bound_at, note, ready_in, waiting_in, ended_in, overrun_in, segment_of, with_starts, sayers, far_words, one_mark, doers, site_with, many_pairs}

-- "a log of 128 places .. an equal pair held once. New pairs go to its end in statement order"

-- the places below the count, whatever stands past it
pub log_of-count :
    log_of (record { variables = record { at = [] }; log = note 0 5 0 ∷ note 1 5 0 ∷ []; count = 1 }) ≡ note 0 5 0 ∷ []
unfolding computed
log_of-count = refl

-- "after a grant the places past its count are 0": 128 in all
pub site_of-places :
    (length (site_with (note 1 5 0 ∷ [])).log ≡ 128) × ((site_with (note 1 5 0 ∷ [])).count ≡ 1) × (length (site_with (many_pairs 128)).log ≡ 128)
unfolding computed many_pairs
site_of-places = (refl, refl, refl)

-- equal; another event; another delta; another time
pub is_same_pair-edges :
    (is_same_pair (note 1 5 7) (note 1 5 7) ≡ true) ×
    (is_same_pair (note 0 5 7) (note 1 5 7) ≡ false) ×
    (is_same_pair (note 1 5 6) (note 1 5 7) ≡ false) ×
    (is_same_pair (note 1 4 7) (note 1 5 7) ≡ false)
unfolding computed
is_same_pair-edges = (refl, refl, refl, refl)

-- a new pair goes to the end; an equal one is not held twice
pub with_pair-edges :
    (with_pair (note 0 9 0 ∷ note 0 5 0 ∷ []) (note 0 7 0) ≡ note 0 9 0 ∷ note 0 5 0 ∷ note 0 7 0 ∷ []) ×
    (with_pair (note 0 9 0 ∷ note 0 5 0 ∷ []) (note 0 5 0) ≡ note 0 9 0 ∷ note 0 5 0 ∷ [])
unfolding computed
with_pair-edges = (refl, refl)

-- notified at (5, 0): in statement order, each once
pub with_pairs-edges :
    (with_pairs (note 0 9 0 ∷ []) (cycle_at 5 0) (1 ∷ 0 ∷ []) ≡ note 0 9 0 ∷ note 1 5 0 ∷ note 0 5 0 ∷ []) ×
    (with_pairs (note 0 9 0 ∷ []) (cycle_at 5 0) (0 ∷ 1 ∷ 0 ∷ []) ≡ note 0 9 0 ∷ note 0 5 0 ∷ note 1 5 0 ∷ [])
unfolding computed
with_pairs-edges = (refl, refl)

-- "log plus new pairs": three notifications are two new pairs; one where the other is logged
pub counted_places-edges :
    (counted_places doers (site_with []) [] 0 0 (cycle_at 5 0) ≡ 2) ×
    (counted_places doers (site_with (note 1 5 0 ∷ [])) [] 0 0 (cycle_at 5 0) ≡ 2) ×
    (counted_places doers (site_with (note 1 5 1 ∷ [])) [] 0 0 (cycle_at 5 0) ≡ 3) ×
    (counted_places doers (site_with (note 1 5 1 ∷ [])) [] 0 1 (cycle_at 5 0) ≡ 1)
unfolding computed doers with_starts segment_of
counted_places-edges = (refl, refl, refl, refl)

-- "not before its wait": a notification a delta before the wait, at it, after it; at an earlier time; of another event
pub is_heard-edges :
    (is_heard 1 (cycle_at 5 7) (note 1 5 6) ≡ false) ×
    (is_heard 1 (cycle_at 5 7) (note 1 5 7) ≡ true) ×
    (is_heard 1 (cycle_at 5 7) (note 1 5 8) ≡ true) ×
    (is_heard 1 (cycle_at 5 7) (note 1 4 9) ≡ false) ×
    (is_heard 1 (cycle_at 5 7) (note 0 5 8) ≡ false)
unfolding computed
is_heard-edges = (refl, refl, refl, refl, refl)

-- "the least logged notification", which is neither the first logged nor the last, and no smaller one that cannot be heard
pub least_heard-edges :
    (least_heard (note 0 9 0 ∷ note 0 5 0 ∷ note 0 3 0 ∷ note 1 4 0 ∷ note 0 7 0 ∷ []) 0 (cycle_at 4 0) ≡ bound_at 5 0) ×
    (least_heard (note 0 9 0 ∷ note 0 3 0 ∷ []) 0 (cycle_at 9 1) ≡ Never) ×
    (least_heard [] 0 (cycle_at 0 0) ≡ Never)
unfolding computed
least_heard-edges = (refl, refl, refl)

-- "notifications before the floor .. are dropped": before it, at it, after it; "all of them if none is ready"
pub is_dropped-edges :
    (is_dropped (bound_at 5 7) (note 0 5 6) ≡ true) ×
    (is_dropped (bound_at 5 7) (note 0 5 7) ≡ false) ×
    (is_dropped (bound_at 5 7) (note 0 5 8) ≡ false) ×
    (is_dropped Never (note 0 5 8) ≡ true)
unfolding computed
is_dropped-edges = (refl, refl, refl, refl)

-- "dropped ones close up in order"
pub drop_before-edges :
    (drop_before (bound_at 5 7) (note 0 9 0 ∷ note 0 5 6 ∷ note 0 5 7 ∷ note 1 5 6 ∷ note 1 8 0 ∷ []) ≡ note 0 9 0 ∷ note 0 5 7 ∷ note 1 8 0 ∷ []) ×
    (drop_before Never (note 0 9 0 ∷ note 0 5 7 ∷ []) ≡ [])
unfolding computed
drop_before-edges = (refl, refl)

-- Earliest: "the delta after a logged notification of its event not before its wait began", delta not cut
pub after_heard-edges :
    (after_heard (note 0 5 1023 ∷ note 0 3 0 ∷ []) (awaits 0 (cycle_at 3 1)) ≡ bound_at 5 1024) ×
    (after_heard (note 0 5 1023 ∷ note 0 3 0 ∷ []) (awaits 0 (cycle_at 3 0)) ≡ bound_at 3 1) ×
    (after_heard (note 0 5 0 ∷ []) nothing ≡ Never)
unfolding computed
after_heard-edges = (refl, refl, refl)

-- "for a ready thread its cycle", whatever is logged; nothing for one that ended or overran
pub source_of-edges :
    (source_of (note 0 3 0 ∷ []) (Ready (cycle_at 5 7)) ≡ bound_at 5 7) ×
    (source_of (note 0 3 0 ∷ []) (Waiting 0 (cycle_at 2 0)) ≡ bound_at 3 1) ×
    (source_of (note 0 3 0 ∷ []) (Ended (cycle_at 2 0)) ≡ Never) ×
    (source_of (note 0 3 0 ∷ []) (Overrun (cycle_at 2 0)) ≡ Never)
unfolding computed
source_of-edges = (refl, refl, refl, refl)

-- a thread in segment 0, no sooner than (5, 7): event 0 after (2, 0), event 1 after (0, 3); from segment 1, event 0 at once and event 1 never
pub soonest_notify-edges :
    (soonest_notify (sayers 1) far_words (ready_in 0 5 7 ∷ []) 0 (bound_at 5 7) 0 ≡ bound_at 7 0) ×
    (soonest_notify (sayers 1) far_words (ready_in 0 5 7 ∷ []) 0 (bound_at 5 7) 1 ≡ bound_at 5 10) ×
    (soonest_notify (sayers 1) far_words (ready_in 1 5 7 ∷ []) 0 (bound_at 5 7) 0 ≡ bound_at 5 7) ×
    (soonest_notify (sayers 1) far_words (ready_in 1 5 7 ∷ []) 0 (bound_at 5 7) 1 ≡ Never)
unfolding computed sayers with_starts segment_of
soonest_notify-edges = (refl, refl, refl, refl)

-- "over all live threads": waiting ones, and none that ended or overran
pub soonest_notify-live :
    (soonest_notify (sayers 1) far_words (waiting_in 1 0 5 7 ∷ []) 0 (bound_at 5 7) 0 ≡ bound_at 5 7) ×
    (soonest_notify (sayers 1) far_words (ended_in 1 5 7 ∷ []) 0 (bound_at 5 7) 0 ≡ Never) ×
    (soonest_notify (sayers 1) far_words (overrun_in 1 5 7 ∷ []) 0 (bound_at 5 7) 0 ≡ Never)
unfolding computed sayers with_starts segment_of
soonest_notify-live = (refl, refl, refl)

-- "one delta after that thread's earliest plus the distance"; none to a thread that does not wait
pub link_to-edges :
    (link_to (sayers 2) far_words (ready_in 0 5 7 ∷ waiting_in 0 0 1 0 ∷ []) 0 1 (bound_at 5 7) ≡ bound_at 7 1) ×
    (link_to (sayers 2) far_words (ready_in 0 5 7 ∷ waiting_in 0 1 1 0 ∷ []) 0 1 (bound_at 5 7) ≡ bound_at 5 11) ×
    (link_to (sayers 2) far_words (ready_in 0 5 7 ∷ ready_in 0 9 0 ∷ []) 0 1 (bound_at 5 7) ≡ Never)
unfolding computed sayers with_starts segment_of
link_to-edges = (refl, refl, refl)

-- A chain of two links: thread 2 notifies event 0 at (5, 7), so that thread 1 comes to notify event 1 at (5, 11), on which thread 0 waits.
pub earliest_of-chain :
    earliest_of (sayers 3) far_words [] (waiting_in 0 1 1 0 ∷ waiting_in 0 0 1 0 ∷ ready_in 1 5 7 ∷ []) ≡ bound_at 5 12 ∷ bound_at 5 8 ∷ bound_at 5 7 ∷ []
unfolding computed sayers with_starts segment_of
earliest_of-chain = refl

-- a logged notification begins a chain too: heard at the wait and after it, and not before it
pub earliest_of-logged :
    (earliest_of (sayers 2) far_words (note 0 3 0 ∷ []) (waiting_in 0 0 3 0 ∷ ready_in 1 5 7 ∷ []) ≡ bound_at 3 1 ∷ bound_at 5 7 ∷ []) ×
    (earliest_of (sayers 2) far_words (note 0 3 0 ∷ []) (waiting_in 0 0 3 1 ∷ ready_in 1 5 7 ∷ []) ≡ bound_at 5 8 ∷ bound_at 5 7 ∷ []) ×
    (earliest_of (sayers 2) far_words (note 0 3 0 ∷ []) (waiting_in 0 0 3 0 ∷ waiting_in 1 1 1 0 ∷ []) ≡ bound_at 3 1 ∷ bound_at 3 5 ∷ [])
unfolding computed sayers with_starts segment_of
earliest_of-logged = (refl, refl, refl)

-- "without a chain it is never": two that wait on each other, and one on a thread that ended; a ready one's is its cycle
pub earliest_of-never :
    (earliest_of (sayers 2) far_words [] (waiting_in 2 0 1 0 ∷ waiting_in 1 1 1 0 ∷ []) ≡ Never ∷ Never ∷ []) ×
    (earliest_of (sayers 2) far_words [] (waiting_in 0 0 1 0 ∷ ended_in 1 1 0 ∷ []) ≡ Never ∷ Never ∷ []) ×
    (earliest_of (sayers 2) far_words (note 0 3 0 ∷ []) (ready_in 1 9 0 ∷ ready_in 1 5 7 ∷ []) ≡ bound_at 9 0 ∷ bound_at 5 7 ∷ [])
unfolding computed sayers with_starts segment_of
earliest_of-never = (refl, refl, refl)

-- "Forecast of an event: the least, over live threads and segments notifying it, of earliest plus distance."
-- Thread 1 waits, is ready at (3, 1) at the soonest, and so sooner than thread 0; where it ended, thread 0 is the least; where what it waits on is
-- not logged, it waits for thread 0.
pub forecast_of-edges :
    (forecast_of (sayers 2) far_words (note 1 3 0 ∷ []) (ready_in 0 5 7 ∷ waiting_in 0 1 1 0 ∷ []) 0 ≡ bound_at 5 0) ×
    (forecast_of (sayers 2) far_words (note 1 3 0 ∷ []) (ready_in 0 5 7 ∷ ended_in 0 1 0 ∷ []) 0 ≡ bound_at 7 0) ×
    (forecast_of (sayers 2) far_words [] (ready_in 2 5 7 ∷ waiting_in 1 1 1 0 ∷ []) 0 ≡ bound_at 5 8) ×
    (forecast_of (sayers 2) far_words [] (ready_in 0 5 7 ∷ ready_in 0 5 6 ∷ []) 1 ≡ bound_at 5 9) ×
    (forecast_of (sayers 2) far_words [] (ready_in 1 5 7 ∷ ready_in 1 5 6 ∷ []) 1 ≡ Never)
unfolding computed sayers with_starts segment_of
forecast_of-edges = (refl, refl, refl, refl, refl)

-- "at a smaller stamp": tied in the cycle, a lower, the same and a higher thread
pub is_sooner-tied :
    (is_sooner (bound_at 7 0) 0 (stamp_at (cycle_at 7 0) 1) ≡ true) ×
    (is_sooner (bound_at 7 0) 1 (stamp_at (cycle_at 7 0) 1) ≡ false) ×
    (is_sooner (bound_at 7 0) 2 (stamp_at (cycle_at 7 0) 1) ≡ false)
unfolding computed
is_sooner-tied = (refl, refl, refl)

-- a delta before and after, the thread the other way; never is not sooner
pub is_sooner-untied :
    (is_sooner (bound_at 7 0) 2 (stamp_at (cycle_at 7 1) 1) ≡ true) ×
    (is_sooner (bound_at 7 1) 0 (stamp_at (cycle_at 7 0) 1) ≡ false) ×
    (is_sooner Never 0 (stamp_at (cycle_at 7 0) 1) ≡ false)
unfolding computed
is_sooner-untied = (refl, refl, refl)

-- "Hazard: another live thread could run, at a smaller stamp by earliest plus distance, a segment that conflicts."
-- The other is in segment 0, which does not conflict, and comes to segment 1, which does, at (7, 0): tied, as a lower and as a higher thread.
pub hazard-tied :
    (hazard (sayers 2) one_mark far_words [] (ready_in 0 5 7 ∷ ready_in 0 7 0 ∷ []) 1 (cycle_at 7 0) ≡ true) ×
    (hazard (sayers 2) one_mark far_words [] (ready_in 0 7 0 ∷ ready_in 0 5 7 ∷ []) 0 (cycle_at 7 0) ≡ false)
unfolding computed sayers with_starts segment_of
hazard-tied = (refl, refl)

-- a delta sooner and later than the stamp
pub hazard-untied :
    (hazard (sayers 2) one_mark far_words [] (ready_in 0 7 1 ∷ ready_in 0 5 7 ∷ []) 0 (cycle_at 7 1) ≡ true) ×
    (hazard (sayers 2) one_mark far_words [] (ready_in 0 5 7 ∷ ready_in 0 6 9 ∷ []) 1 (cycle_at 6 9) ≡ false)
unfolding computed sayers with_starts segment_of
hazard-untied = (refl, refl)

-- the asker alone is no hazard, not even at a later stamp of its own; nor is a thread that ended or overran; a waiting one is, from its earliest on
pub hazard-live :
    (hazard (sayers 2) one_mark far_words [] (ready_in 0 5 7 ∷ ended_in 0 0 0 ∷ []) 0 (cycle_at 9 0) ≡ false) ×
    (hazard (sayers 2) one_mark far_words [] (ended_in 1 0 0 ∷ ready_in 0 7 0 ∷ []) 1 (cycle_at 7 0) ≡ false) ×
    (hazard (sayers 2) one_mark far_words [] (overrun_in 1 0 0 ∷ ready_in 0 7 0 ∷ []) 1 (cycle_at 7 0) ≡ false) ×
    (hazard (sayers 2) one_mark far_words (note 1 4 9 ∷ []) (waiting_in 0 1 1 0 ∷ ready_in 0 6 0 ∷ []) 1 (cycle_at 6 0) ≡ true) ×
    (hazard (sayers 2) one_mark far_words (note 1 4 9 ∷ []) (waiting_in 0 1 1 0 ∷ ready_in 0 5 9 ∷ []) 1 (cycle_at 5 9) ≡ false)
unfolding computed sayers with_starts segment_of
hazard-live = (refl, refl, refl, refl, refl)

-- marks as given, row the asker's segment and column the other's: set at (0, 1), unset at (1, 0)
pub hazard-row :
    (hazard (sayers 2) one_mark far_words [] (ready_in 1 5 0 ∷ ready_in 0 7 0 ∷ []) 1 (cycle_at 7 0) ≡ true) ×
    (hazard (sayers 2) one_mark far_words [] (ready_in 0 5 0 ∷ ready_in 1 7 0 ∷ []) 1 (cycle_at 7 0) ≡ false)
unfolding computed sayers with_starts segment_of
hazard-row = (refl, refl)

-- "it hears the least logged notification not before its wait, if the forecast of the event is not smaller": the forecast is (7, 0)
pub heard_now-forecast :
    (heard_now (sayers 2) far_words (note 0 6 9 ∷ []) (ready_in 0 5 7 ∷ waiting_in 1 0 1 0 ∷ []) (awaits 0 (cycle_at 1 0)) ≡ bound_at 6 9) ×
    (heard_now (sayers 2) far_words (note 0 7 0 ∷ []) (ready_in 0 5 7 ∷ waiting_in 1 0 1 0 ∷ []) (awaits 0 (cycle_at 1 0)) ≡ bound_at 7 0) ×
    (heard_now (sayers 2) far_words (note 0 7 1 ∷ []) (ready_in 0 5 7 ∷ waiting_in 1 0 1 0 ∷ []) (awaits 0 (cycle_at 1 0)) ≡ Never)
unfolding computed sayers with_starts segment_of
heard_now-forecast = (refl, refl, refl)

-- a delta before its wait, at it; the least and not the first logged
pub heard_now-least :
    (heard_now (sayers 1) far_words (note 0 6 8 ∷ []) (waiting_in 0 0 6 9 ∷ []) (awaits 0 (cycle_at 6 9)) ≡ Never) ×
    (heard_now (sayers 1) far_words (note 0 6 9 ∷ []) (waiting_in 0 0 6 9 ∷ []) (awaits 0 (cycle_at 6 9)) ≡ bound_at 6 9) ×
    (heard_now (sayers 1) far_words (note 0 9 0 ∷ note 0 7 0 ∷ note 0 8 0 ∷ []) (waiting_in 0 0 6 9 ∷ []) (awaits 0 (cycle_at 6 9)) ≡ bound_at 7 0) ×
    (heard_now (sayers 1) far_words (note 0 6 9 ∷ []) (ready_in 0 6 9 ∷ []) nothing ≡ Never)
unfolding computed sayers with_starts segment_of
heard_now-least = (refl, refl, refl, refl)

-- "It then becomes ready or overrun as in the plain run": at delta 1,022 and 1,023
pub after_hearing-edges :
    (after_hearing (bound_at 6 1022) (Waiting 0 (cycle_at 1 0)) ≡ Ready (cycle_at 6 1023)) ×
    (after_hearing (bound_at 6 1023) (Waiting 0 (cycle_at 1 0)) ≡ Overrun (cycle_at 6 1023)) ×
    (after_hearing Never (Waiting 0 (cycle_at 1 0)) ≡ Waiting 0 (cycle_at 1 0))
unfolding computed
after_hearing-edges = (refl, refl, refl)

-- "A delivery is looked for only if the thread waits": the segment stays, other threads stay
pub looked_at-edges :
    (looked_at (sayers 2) far_words (note 0 6 9 ∷ []) (ready_in 2 7 0 ∷ waiting_in 2 0 6 9 ∷ []) 1 ≡ ready_in 2 7 0 ∷ ready_in 2 6 10 ∷ []) ×
    (looked_at (sayers 2) far_words (note 0 6 9 ∷ []) (ready_in 2 7 0 ∷ waiting_in 2 0 6 9 ∷ []) 0 ≡ ready_in 2 7 0 ∷ waiting_in 2 0 6 9 ∷ []) ×
    (looked_at (sayers 2) far_words (note 0 6 9 ∷ []) (ended_in 2 6 9 ∷ overrun_in 2 6 9 ∷ []) 0 ≡ ended_in 2 6 9 ∷ overrun_in 2 6 9 ∷ []) ×
    (looked_at (sayers 2) far_words (note 0 6 9 ∷ []) (ended_in 2 6 9 ∷ overrun_in 2 6 9 ∷ []) 1 ≡ ended_in 2 6 9 ∷ overrun_in 2 6 9 ∷ [])
unfolding computed sayers with_starts segment_of
looked_at-edges = (refl, refl, refl, refl)

-- "and the event counts as heard in both": ready or overrun, in the history of the thread that is looked at
pub look_items-edges :
    (look_items (sayers 2) far_words (note 0 6 9 ∷ []) (ready_in 2 7 0 ∷ waiting_in 2 0 6 9 ∷ []) 1 1 ≡ heard 0 (cycle_at 6 9) ∷ []) ×
    (look_items (sayers 2) far_words (note 0 6 9 ∷ []) (ready_in 2 7 0 ∷ waiting_in 2 0 6 9 ∷ []) 1 0 ≡ []) ×
    (look_items (sayers 2) far_words (note 0 6 1023 ∷ []) (ready_in 2 7 0 ∷ waiting_in 2 0 6 9 ∷ []) 1 1 ≡ heard 0 (cycle_at 6 1023) ∷ []) ×
    (look_items (sayers 2) far_words (note 0 6 9 ∷ []) (ready_in 2 7 0 ∷ waiting_in 2 0 6 9 ∷ []) 0 0 ≡ [])
unfolding computed sayers with_starts segment_of
look_items-edges = (refl, refl, refl, refl)

-- "again and again until none hears anything": thread 0 waits for (9, 0), while thread 1 may notify event 1 at (3, 1,027). Thread 1, looked at
-- later, hears (3, 1,023), overruns and notifies no more; so that thread 0 hears in the next sweep.
abbrev two_sweeps : List Thread
two_sweeps = waiting_in 1 1 1 0 ∷ waiting_in 0 0 1 0 ∷ []

abbrev two_logged : List Notification
two_logged = note 1 9 0 ∷ note 0 3 1023 ∷ []

pub settled-again :
    (swept (sayers 2) far_words two_logged two_sweeps 2 ≡ waiting_in 1 1 1 0 ∷ overrun_in 0 3 1023 ∷ []) ×
    (settled (sayers 2) far_words two_logged two_sweeps ≡ ready_in 1 9 1 ∷ overrun_in 0 3 1023 ∷ []) ×
    (settled_items (sayers 2) far_words two_logged two_sweeps 0 ≡ heard 1 (cycle_at 9 0) ∷ []) ×
    (settled_items (sayers 2) far_words two_logged two_sweeps 1 ≡ heard 0 (cycle_at 3 1023) ∷ [])
unfolding computed sayers with_starts segment_of
settled-again = (refl, refl, refl, refl)
