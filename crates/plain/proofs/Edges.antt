-- Document 01, "Plain run": every comparison and limit of `specs/` at, below and above its edge, on places put together by hand.
use mathlib.Core.Path.{◌≡◌, refl}
use mathlib.Core.Bool.{true, false}
use mathlib.Core.List.{[], ◌∷◌}
use Rattle.clock.specs.declared.Bound.TheVariants.{Never, At}
use Rattle.clock.specs.Cycle.{cycle_at}
use Rattle.model.specs.declared.State.TheVariants.{Ended, Overrun, Ready, Waiting}
use Rattle.model.specs.Record.{no_thread, thread_at, nothing, awaits}
use Rattle.plain.specs.Wake.{is_woken, woken_state, floor_of, some_ready}
use Rattle.plain.specs.Step.{is_at, is_due, begun, stepped}
use Rattle.plain.specs.Run.{is_done, is_out}
use Rattle.plain.specs.History.{ran, heard, items_at}
use Rattle.plain.proofs.Computed.{computed}
use Rattle.plain.proofs.EdgeModels.{thread, placed, four, models}

-- "each thread waiting on an event notified in it": notified, another notified, none notified; not waiting
pub is_woken-event :
    (is_woken (3 ∷ 0 ∷ []) (cycle_at 5 1) (awaits 0 (cycle_at 5 1)) ≡ true) ×
    (is_woken (1 ∷ []) (cycle_at 5 1) (awaits 0 (cycle_at 5 1)) ≡ false) ×
    (is_woken [] (cycle_at 5 1) (awaits 0 (cycle_at 5 1)) ≡ false) ×
    (is_woken (0 ∷ []) (cycle_at 5 1) nothing ≡ false)
unfolding computed
is_woken-event = (refl, refl, refl, refl)

-- "its wait begun in that cycle or before": in it, a delta before, a time before, a delta after, a time after
pub is_woken-since :
    (is_woken (0 ∷ []) (cycle_at 5 1) (awaits 0 (cycle_at 5 1)) ≡ true) ×
    (is_woken (0 ∷ []) (cycle_at 5 1) (awaits 0 (cycle_at 5 0)) ≡ true) ×
    (is_woken (0 ∷ []) (cycle_at 5 1) (awaits 0 (cycle_at 4 2)) ≡ true) ×
    (is_woken (0 ∷ []) (cycle_at 5 1) (awaits 0 (cycle_at 5 2)) ≡ false) ×
    (is_woken (0 ∷ []) (cycle_at 5 1) (awaits 0 (cycle_at 6 0)) ≡ false)
unfolding computed
is_woken-since = (refl, refl, refl, refl, refl)

-- "becomes ready at the next delta": not in the same one
pub woken_state-next : woken_state (0 ∷ []) (cycle_at 5 0) (Waiting 0 (cycle_at 5 0)) ≡ Ready (cycle_at 5 1)
unfolding computed
woken_state-next = refl

-- "A thread whose next delta would be 1,024 is overrun, and keeps the cycle with delta 1,023."
pub woken_state-overrun :
    (woken_state (0 ∷ []) (cycle_at 5 1022) (Waiting 0 (cycle_at 5 0)) ≡ Ready (cycle_at 5 1023)) ×
    (woken_state (0 ∷ []) (cycle_at 5 1023) (Waiting 0 (cycle_at 5 0)) ≡ Overrun (cycle_at 5 1023))
unfolding computed
woken_state-overrun = (refl, refl)

-- who is not woken keeps his state: not waiting, or not on an event notified
pub woken_state-other :
    (woken_state (0 ∷ []) (cycle_at 5 0) (Ready (cycle_at 7 0)) ≡ Ready (cycle_at 7 0)) ×
    (woken_state (0 ∷ []) (cycle_at 5 0) (Waiting 1 (cycle_at 2 0)) ≡ Waiting 1 (cycle_at 2 0)) ×
    (woken_state (0 ∷ []) (cycle_at 5 0) (Ended (cycle_at 2 0)) ≡ Ended (cycle_at 2 0)) ×
    (woken_state (0 ∷ []) (cycle_at 5 0) (Overrun (cycle_at 2 1023)) ≡ Overrun (cycle_at 2 1023))
unfolding computed
woken_state-other = (refl, refl, refl, refl)

-- "The next cycle is the least among ready threads": waiting, ended and overrun ones and what stands past T do not count
pub floor_of-least :
    (floor_of four
    (thread 0 (Ready (cycle_at 7 0)) ∷ thread 0 (Ready (cycle_at 5 1)) ∷ thread 0 (Ready (cycle_at 5 2)) ∷ thread 0 (Ready (cycle_at 6 0)) ∷ thread 0 (Ready (cycle_at 1 0)) ∷ [])
    ≡ At (cycle_at 5 1)) ×
    (floor_of four
    (thread 0 (Ended (cycle_at 2 0)) ∷ thread 0 (Overrun (cycle_at 3 1023)) ∷ thread 0 (Waiting 0 (cycle_at 4 0)) ∷ thread 0 (Ready (cycle_at 8 0)) ∷ [])
    ≡ At (cycle_at 8 0)) ×
    (floor_of four (thread 0 (Waiting 0 (cycle_at 4 0)) ∷ []) ≡ Never)
unfolding models
floor_of-least = (refl, refl, refl)

-- "A thread ready at exactly H is therefore run": H - 1, H with its first and its last delta, H + 1; the last thread below T, and the first past it
pub some_ready-horizon :
    (some_ready four (thread 0 (Ready (cycle_at 9 1023)) ∷ []) ≡ true) ×
    (some_ready four (thread 0 (Ready (cycle_at 10 0)) ∷ []) ≡ true) ×
    (some_ready four (thread 0 (Ready (cycle_at 10 1023)) ∷ []) ≡ true) ×
    (some_ready four (thread 0 (Ready (cycle_at 11 0)) ∷ []) ≡ false) ×
    (some_ready four (no_thread ∷ no_thread ∷ no_thread ∷ thread 0 (Ready (cycle_at 0 0)) ∷ []) ≡ true) ×
    (some_ready four (no_thread ∷ no_thread ∷ no_thread ∷ no_thread ∷ thread 0 (Ready (cycle_at 0 0)) ∷ []) ≡ false) ×
    (some_ready four (thread 0 (Waiting 0 (cycle_at 0 0)) ∷ []) ≡ false)
unfolding models
some_ready-horizon = (refl, refl, refl, refl, refl, refl, refl)

pub begun-horizon :
    ((begun four (At (cycle_at 10 0)) (placed [] (cycle_at 5 0) 4 [])).now ≡ cycle_at 10 0) ×
    ((begun four (At (cycle_at 10 0)) (placed [] (cycle_at 5 0) 4 [])).turn ≡ 0) ×
    ((begun four (At (cycle_at 10 1023)) (placed [] (cycle_at 5 0) 4 [])).now ≡ cycle_at 10 1023) ×
    ((begun four (At (cycle_at 11 0)) (placed [] (cycle_at 5 0) 4 [])).now ≡ cycle_at 5 0) ×
    ((begun four (At (cycle_at 11 0)) (placed [] (cycle_at 5 0) 4 [])).turn ≡ 4) ×
    ((begun four Never (placed [] (cycle_at 5 0) 4 [])).turn ≡ 4)
unfolding models
begun-horizon = (refl, refl, refl, refl, refl, refl)

-- "the ready threads of that cycle": ready now; a delta later; a time later; not ready
pub is_at-edges :
    (is_at (cycle_at 5 1) (At (cycle_at 5 1)) ≡ true) ×
    (is_at (cycle_at 5 1) (At (cycle_at 5 2)) ≡ false) ×
    (is_at (cycle_at 5 1) (At (cycle_at 6 1)) ≡ false) ×
    (is_at (cycle_at 5 1) Never ≡ false)
unfolding computed
is_at-edges = (refl, refl, refl, refl)

-- it is the thread whose turn it is that counts
pub is_due-turn :
    (is_due (placed (thread 0 (Ready (cycle_at 5 1)) ∷ thread 0 (Waiting 0 (cycle_at 5 1)) ∷ []) (cycle_at 5 1) 0 []) ≡ true) ×
    (is_due (placed (thread 0 (Ready (cycle_at 5 1)) ∷ thread 0 (Waiting 0 (cycle_at 5 1)) ∷ []) (cycle_at 5 1) 1 []) ≡ false)
unfolding computed
is_due-turn = (refl, refl)

-- "runs its segment whole": a thread that is due runs at the cycle, the last one too; one that is not is passed over
pub stepped-looks :
    (thread_at (stepped four (placed (thread 0 (Ready (cycle_at 5 1)) ∷ []) (cycle_at 5 1) 0 [])).threads 0 ≡ thread 0 (Ended (cycle_at 5 1))) ×
    ((stepped four (placed (thread 0 (Ready (cycle_at 5 1)) ∷ []) (cycle_at 5 1) 0 [])).n ≡ 1) ×
    ((stepped four (placed (no_thread ∷ no_thread ∷ no_thread ∷ thread 0 (Ready (cycle_at 5 1)) ∷ []) (cycle_at 5 1) 3 [])).n ≡ 1) ×
    (thread_at (stepped four (placed (thread 0 (Ready (cycle_at 6 0)) ∷ []) (cycle_at 5 1) 0 [])).threads 0 ≡ thread 0 (Ready (cycle_at 6 0))) ×
    ((stepped four (placed (thread 0 (Ready (cycle_at 6 0)) ∷ []) (cycle_at 5 1) 0 [])).turn ≡ 1) ×
    ((stepped four (placed (thread 0 (Ready (cycle_at 6 0)) ∷ []) (cycle_at 5 1) 0 [])).n ≡ 0)
unfolding models
stepped-looks = (refl, refl, refl, refl, refl, refl)

-- "At the cycle's end": past the last thread the wakes are done, the next cycle begins, and its notifications are none
pub stepped-closes :
    ((stepped four (placed (thread 0 (Waiting 0 (cycle_at 5 1)) ∷ []) (cycle_at 5 1) 4 (0 ∷ []))).now ≡ cycle_at 5 2) ×
    ((stepped four (placed (thread 0 (Waiting 0 (cycle_at 5 1)) ∷ []) (cycle_at 5 1) 4 (0 ∷ []))).turn ≡ 0) ×
    ((stepped four (placed (thread 0 (Waiting 0 (cycle_at 5 1)) ∷ []) (cycle_at 5 1) 4 (0 ∷ []))).notified ≡ []) ×
    ((stepped four (placed (thread 0 (Waiting 0 (cycle_at 5 1)) ∷ []) (cycle_at 5 1) 3 (0 ∷ []))).now ≡ cycle_at 5 1) ×
    (thread_at (stepped four (placed (thread 0 (Waiting 0 (cycle_at 5 1)) ∷ []) (cycle_at 5 1023) 4 (0 ∷ []))).threads 0 ≡ thread 0 (Overrun (cycle_at 5 1023)))
unfolding models
stepped-closes = (refl, refl, refl, refl, refl)

-- "notifications at H are heard": a wake from (H, d) runs at (H, d + 1); at delta 1,023 it overruns, and nothing runs
pub stepped-horizon :
    (thread_at (stepped four (placed (thread 0 (Waiting 0 (cycle_at 9 0)) ∷ []) (cycle_at 10 1) 4 (0 ∷ []))).threads 0 ≡ thread 0 (Ready (cycle_at 10 2))) ×
    ((stepped four (placed (thread 0 (Waiting 0 (cycle_at 9 0)) ∷ []) (cycle_at 10 1) 4 (0 ∷ []))).now ≡ cycle_at 10 2) ×
    ((stepped four (placed (thread 0 (Waiting 0 (cycle_at 9 0)) ∷ []) (cycle_at 10 1) 4 (0 ∷ []))).turn ≡ 0) ×
    (thread_at (stepped four (placed (thread 0 (Waiting 0 (cycle_at 9 0)) ∷ []) (cycle_at 10 1023) 4 (0 ∷ []))).threads 0 ≡ thread 0 (Overrun (cycle_at 10 1023))) ×
    ((stepped four (placed (thread 0 (Waiting 0 (cycle_at 9 0)) ∷ []) (cycle_at 10 1023) 4 (0 ∷ []))).now ≡ cycle_at 10 1023) ×
    ((stepped four (placed (thread 0 (Waiting 0 (cycle_at 9 0)) ∷ []) (cycle_at 10 1023) 4 (0 ∷ []))).turn ≡ 4)
unfolding models
stepped-horizon = (refl, refl, refl, refl, refl, refl)

-- "The run is done when no thread is ready" and "not later than H": wakes to be done; a thread still to be looked at; one ready at H, at H + 1
pub is_done-edges :
    (is_done four (placed (thread 0 (Waiting 0 (cycle_at 5 1)) ∷ []) (cycle_at 5 1) 4 (0 ∷ [])) ≡ false) ×
    (is_done four (placed (thread 0 (Waiting 0 (cycle_at 5 1)) ∷ []) (cycle_at 5 1) 4 []) ≡ true) ×
    (is_done four (placed [] (cycle_at 5 1) 3 []) ≡ false) ×
    (is_done four (placed (thread 0 (Ready (cycle_at 10 0)) ∷ []) (cycle_at 5 1) 4 []) ≡ false) ×
    (is_done four (placed (thread 0 (Ready (cycle_at 11 0)) ∷ []) (cycle_at 5 1) 4 []) ≡ true)
unfolding models
is_done-edges = (refl, refl, refl, refl, refl)

-- "it runs at most that many segments": the next segment has a place, has none; no segment is next; the cycle is to be closed
pub is_out-edges :
    (is_out four 1 (placed (thread 0 (Ready (cycle_at 5 1)) ∷ []) (cycle_at 5 1) 0 []) ≡ false) ×
    (is_out four 0 (placed (thread 0 (Ready (cycle_at 5 1)) ∷ []) (cycle_at 5 1) 0 []) ≡ true) ×
    (is_out four 0 (placed (thread 0 (Ready (cycle_at 6 0)) ∷ []) (cycle_at 5 1) 0 []) ≡ false) ×
    (is_out four 0 (placed (no_thread ∷ no_thread ∷ no_thread ∷ no_thread ∷ thread 0 (Ready (cycle_at 5 1)) ∷ []) (cycle_at 5 1) 4 []) ≡ false)
unfolding models
is_out-edges = (refl, refl, refl, refl)

-- the event that is heard and not another, by who overruns on hearing too; a thread is passed over, or does not hear
pub items_at-edges :
    (items_at four (placed (thread 3 (Waiting 1 (cycle_at 4 0)) ∷ []) (cycle_at 5 1) 4 (0 ∷ 1 ∷ [])) 0 ≡ heard 1 (cycle_at 5 1) ∷ []) ×
    (items_at four (placed (thread 3 (Waiting 1 (cycle_at 4 0)) ∷ []) (cycle_at 5 1023) 4 (0 ∷ 1 ∷ [])) 0 ≡ heard 1 (cycle_at 5 1023) ∷ []) ×
    (items_at four (placed (thread 3 (Waiting 2 (cycle_at 4 0)) ∷ []) (cycle_at 5 1) 4 (0 ∷ 1 ∷ [])) 0 ≡ []) ×
    (items_at four (placed (thread 3 (Waiting 1 (cycle_at 4 0)) ∷ []) (cycle_at 5 1) 3 (0 ∷ 1 ∷ [])) 0 ≡ []) ×
    (items_at four (placed (thread 3 (Ready (cycle_at 5 1)) ∷ []) (cycle_at 5 1) 0 []) 0 ≡ ran 3 (cycle_at 5 1) ∷ []) ×
    (items_at four (placed (thread 3 (Ready (cycle_at 5 1)) ∷ []) (cycle_at 5 1) 0 []) 1 ≡ []) ×
    (items_at four (placed (thread 3 (Ready (cycle_at 6 0)) ∷ []) (cycle_at 5 1) 0 []) 0 ≡ [])
unfolding models
items_at-edges = (refl, refl, refl, refl, refl, refl, refl)
