-- Document 01, "Plain run": small models run from their start: who runs first, who wakes, the horizon, budgets, histories, number 11.
use Prim.Native.Nat.{◌*◌}
use mathlib.Core.Path.{◌≡◌, refl}
use mathlib.Core.Bool.{true, false}
use mathlib.Core.List.{[], ◌∷◌}
use lib.ListN.{length, take, replicate}
use Rattle.clock.specs.Cycle.{cycle_at}
use Rattle.model.specs.declared.State.TheVariants.{Ended, Ready, Waiting}
use Rattle.model.specs.Record.{no_thread}
use Rattle.plain.specs.Start.{start_of}
use Rattle.plain.specs.Run.{last_step, no_run, plain_run}
use Rattle.plain.specs.History.{ran, heard, history_at}
use Rattle.plain.proofs.EdgeModels.{thread, writers, wakes, ends, waits, again, run_of, counts_of, end_of, models}

-- "lowest number first": of two threads that set variable 0, in one cycle, the higher's value stands, whichever segment it has
pub run_of-lowest-first :
    (take 2 (run_of (writers (0 ∷ 1 ∷ [])) 10).variables.at ≡ 9 ∷ 0 ∷ []) ×
    (take 2 (run_of (writers (1 ∷ 0 ∷ [])) 10).variables.at ≡ 7 ∷ 0 ∷ [])
unfolding models
run_of-lowest-first = (refl, refl)

-- "its wait begun in that cycle or before": begun in it by the lower-numbered, by the higher-numbered; begun a delta later;
-- on another event
pub run_of-wakes :
    (end_of (wakes (0 ∷ 2 ∷ [])) 10 ≡ thread 1 (Ended (cycle_at 0 1)) ∷ thread 2 (Ended (cycle_at 0 0)) ∷ no_thread ∷ []) ×
    (end_of (wakes (2 ∷ 0 ∷ [])) 10 ≡ thread 2 (Ended (cycle_at 0 0)) ∷ thread 1 (Ended (cycle_at 0 1)) ∷ no_thread ∷ []) ×
    (end_of (wakes (2 ∷ 3 ∷ [])) 10 ≡ thread 2 (Ended (cycle_at 0 0)) ∷ thread 1 (Waiting 0 (cycle_at 0 1)) ∷ no_thread ∷ []) ×
    (end_of (wakes (2 ∷ 4 ∷ [])) 10 ≡ thread 2 (Ended (cycle_at 0 0)) ∷ thread 1 (Waiting 1 (cycle_at 0 0)) ∷ no_thread ∷ [])
unfolding models
run_of-wakes = (refl, refl, refl, refl)

-- the history of a thread so far, "its segments with their cycles and each event heard with the notifying cycle"
pub history_at-edges :
    (history_at (wakes (0 ∷ 2 ∷ [])) 0 6 ≡ ran 0 (cycle_at 0 0) ∷ heard 0 (cycle_at 0 0) ∷ ran 1 (cycle_at 0 1) ∷ []) ×
    (history_at (wakes (0 ∷ 2 ∷ [])) 1 6 ≡ ran 2 (cycle_at 0 0) ∷ []) ×
    (history_at (wakes (0 ∷ 2 ∷ [])) 2 6 ≡ []) ×
    (history_at (wakes (0 ∷ 2 ∷ [])) 0 0 ≡ []) ×
    (history_at (wakes (0 ∷ 2 ∷ [])) 0 2 ≡ ran 0 (cycle_at 0 0) ∷ []) ×
    (history_at (wakes (0 ∷ 2 ∷ [])) 0 3 ≡ ran 0 (cycle_at 0 0) ∷ heard 0 (cycle_at 0 0) ∷ []) ×
    (history_at (wakes (2 ∷ 3 ∷ [])) 1 9 ≡ ran 3 (cycle_at 0 0) ∷ ran 0 (cycle_at 0 1) ∷ [])
unfolding models
history_at-edges = (refl, refl, refl, refl, refl, refl, refl)

-- Budgets on threads that wait on event 0, notify it, and end: 0 runs nothing; 2 is met inside the first cycle, its wakes undone;
-- 3 is met at its end, "the wakes of a completed cycle included"; 4 is exactly enough, and 5 is more than enough: "and only then"
pub run_of-budgets :
    (counts_of (run_of (wakes (0 ∷ 2 ∷ 1 ∷ [])) 0) ≡ (0, true)) ×
    (end_of (wakes (0 ∷ 2 ∷ 1 ∷ [])) 0 ≡ thread 0 (Ready (cycle_at 0 0)) ∷ thread 2 (Ready (cycle_at 0 0)) ∷ thread 1 (Ready (cycle_at 0 0)) ∷ []) ×
    (counts_of (run_of (wakes (0 ∷ 2 ∷ 1 ∷ [])) 2) ≡ (2, true)) ×
    (end_of (wakes (0 ∷ 2 ∷ 1 ∷ [])) 2 ≡ thread 1 (Waiting 0 (cycle_at 0 0)) ∷ thread 2 (Ended (cycle_at 0 0)) ∷ thread 1 (Ready (cycle_at 0 0)) ∷ []) ×
    (counts_of (run_of (wakes (0 ∷ 2 ∷ 1 ∷ [])) 3) ≡ (3, true)) ×
    (end_of (wakes (0 ∷ 2 ∷ 1 ∷ [])) 3 ≡ thread 1 (Ready (cycle_at 0 1)) ∷ thread 2 (Ended (cycle_at 0 0)) ∷ thread 1 (Ended (cycle_at 0 0)) ∷ []) ×
    (counts_of (run_of (wakes (0 ∷ 2 ∷ 1 ∷ [])) 4) ≡ (4, false)) ×
    (counts_of (run_of (wakes (0 ∷ 2 ∷ 1 ∷ [])) 5) ≡ (4, false))
unfolding models
run_of-budgets = (refl, refl, refl, refl, refl, refl, refl, refl)

-- "A thread ready at exactly H is therefore run": waits of 3 units, H = 2, H = 3 and H = 4; the longest wait, H = 999,999,999 and H = 1,000,000,000
pub run_of-horizon :
    (counts_of (run_of (waits 3 2) 10) ≡ (1, false)) ×
    (end_of (waits 3 2) 10 ≡ thread 1 (Ready (cycle_at 3 0)) ∷ no_thread ∷ no_thread ∷ []) ×
    (counts_of (run_of (waits 3 3) 10) ≡ (2, false)) ×
    (end_of (waits 3 3) 10 ≡ thread 1 (Ended (cycle_at 3 0)) ∷ no_thread ∷ no_thread ∷ []) ×
    (counts_of (run_of (waits 3 4) 10) ≡ (2, false)) ×
    (counts_of (run_of (waits 1000000000 999999999) 10) ≡ (1, false)) ×
    (end_of (waits 1000000000 1000000000) 10 ≡ thread 1 (Ended (cycle_at 1000000000 0)) ∷ no_thread ∷ no_thread ∷ [])
unfolding models
run_of-horizon = (refl, refl, refl, refl, refl, refl, refl)

-- a wait of 1,000,000,000 units that comes again, H = 1,000,000,000: it runs twice, and its record is at 2,000,000,000
pub run_of-longest :
    (counts_of (run_of (again 1000000000 1000000000) 10) ≡ (2, false)) ×
    (end_of (again 1000000000 1000000000) 10 ≡ thread 0 (Ready (cycle_at 2000000000 0)) ∷ no_thread ∷ no_thread ∷ [])
unfolding models
run_of-longest = (refl, refl)

-- "All threads start ready at (0, 0)." "Variables start at 0." Records past T are zero, and there are 32.
pub start_of-edges :
    (take 3 (start_of (wakes (2 ∷ 3 ∷ []))).threads ≡ thread 2 (Ready (cycle_at 0 0)) ∷ thread 3 (Ready (cycle_at 0 0)) ∷ no_thread ∷ []) ×
    (length (start_of (wakes (2 ∷ 3 ∷ []))).threads ≡ 32) ×
    ((start_of (wakes (2 ∷ 3 ∷ []))).variables ≡ replicate 64 0) ×
    ((start_of (wakes (2 ∷ 3 ∷ []))).now ≡ cycle_at 0 0) ×
    ((start_of (wakes (2 ∷ 3 ∷ []))).turn ≡ 0)
unfolding models
start_of-edges = (refl, refl, refl, refl, refl)

-- "refuse a held model with 11 if the file rules would refuse it": H = 0, and a first segment that is not below N; all else zero
pub plain_run-unfit :
    (plain_run (ends 0) 10 ≡ no_run 11) ×
    (plain_run (wakes (0 ∷ 5 ∷ [])) 10 ≡ no_run 11) ×
    ((plain_run (wakes (0 ∷ 4 ∷ [])) 10).number ≡ 0) ×
    ((no_run 11).n ≡ 0) ×
    ((no_run 11).spent ≡ false) ×
    ((no_run 11).variables.at ≡ replicate 64 0) ×
    ((no_run 11).threads.at ≡ replicate 32 no_thread)
unfolding models
plain_run-unfit = (refl, refl, refl, refl, refl, refl, refl)

-- "With a budget it runs at most that many segments": case 1 with H = 1, and case 13; two segments in two deltas
pub plain_run-budget :
    (counts_of (plain_run (ends 1) 1) ≡ (1, false)) ×
    (take 1 (plain_run (ends 1) 1).threads.at ≡ thread 0 (Ended (cycle_at 0 0)) ∷ []) ×
    (counts_of (plain_run (ends 1) 0) ≡ (0, true)) ×
    (counts_of (plain_run (waits 0 1) 2) ≡ (2, false))
unfolding models
plain_run-budget = (refl, refl, refl, refl)

-- steps after which every run is done: T + 1 for each of 1,024 deltas of each time from 0 to H
pub last_step-edge : last_step (ends 3) ≡ 1024 * 4 * 2
unfolding models
last_step-edge = refl
