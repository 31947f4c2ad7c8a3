-- Grants and finishes, what they hold, count and refuse, at, below and above their edges: closed examples, worked out from document 02, slip 7.
use Prim.Native.Nat.{ℕ}
use mathlib.Core.Path.{◌≡◌, refl}
use mathlib.Core.Bool.{true, false}
use mathlib.Core.List.{List, [], ◌∷◌, ◌++◌}
use lib.ListN.{get_or, replicate}
use Rattle.clock.specs.Cycle.{cycle_at}
use Rattle.model.specs.declared.Thread.{Thread}
use Rattle.plain.specs.Wake.{floor_of}
use Rattle.plain.specs.History.{ran, heard}
use Rattle.early.specs.declared.Site.{Site}
use Rattle.early.specs.declared.Answer.TheVariants.{Granted, Refused}
use Rattle.early.specs.declared.Call.TheVariants.{Both, Grant, Finish}
use Rattle.early.specs.Log.{log_of, site_of, counted_log, counted_places}
use Rattle.early.specs.Forecast.{forecast_of}
use Rattle.early.specs.Hazard.{hazard}
use Rattle.early.specs.Fit.{is_fit_thread, is_unfit_places}
use Rattle.early.specs.Request.{is_full, request_of}
use Rattle.early.specs.Call.{held_at, is_unfit_held, Called, call_of, call_by_rows, calls_of, call_at}
use Rattle.early.proofs.Computed.{computed}
use Rattle.early.proofs.EdgeModels.{bound_at, note, ready_in, waiting_in, ended_in, running_in, segment_of, with_starts, sayers, far_words, one_mark, no_mark, doers, apart_words, site_with, many_pairs}

-- thread 0 in segment 0, thread 1 in segment 1; held values that nobody has set
abbrev two : List Thread
two = ready_in 0 5 0 ∷ ready_in 1 6 0 ∷ []

abbrev junk : List ℕ
junk = replicate 64 71 ++ replicate 64 72

abbrev granted : Called
granted = call_of doers no_mark apart_words (site_with (note 0 4 0 ∷ [])) two junk (Grant 0)

-- a grant: the thread is running at its cycle, its set holds all variables, and variables, log, the other record and the other set stay
pub grant-edges :
    (granted.left.answer ≡ Granted 0 (cycle_at 5 0)) ×
    (granted.left.threads ≡ running_in 0 5 0 ∷ ready_in 1 6 0 ∷ []) ×
    (granted.left.site ≡ site_with (note 0 4 0 ∷ [])) ×
    (granted.held ≡ replicate 64 0 ++ replicate 64 72) ×
    (granted.left.items 0 ≡ ran 0 (cycle_at 5 0) ∷ []) ×
    (granted.left.items 1 ≡ [])
unfolding computed doers with_starts segment_of
grant-edges = (refl, refl, refl, refl, refl, refl)

-- Segment 0 adds 1 to variable 0. It ran on held values 3 and 4; meanwhile the variables are 7 and 9.
abbrev meanwhile : Site
meanwhile = site_of (7 ∷ 9 ∷ replicate 62 0) []

abbrev finished : Called
finished = call_of doers no_mark apart_words meanwhile (running_in 0 5 0 ∷ waiting_in 1 0 2 0 ∷ []) (3 ∷ 4 ∷ replicate 62 0 ++ replicate 64 72) (Finish 0)

-- a finish: what it reads are the held values, what it stores is what it writes; logged, closed, delivered; its set is empty, the other stays
pub finish-edges :
    (finished.left.answer ≡ Granted 0 (cycle_at 5 0)) ×
    (finished.left.site.variables.at ≡ 4 ∷ 9 ∷ replicate 62 0) ×
    (log_of finished.left.site ≡ []) ×
    (finished.left.threads ≡ ready_in 0 15 0 ∷ ready_in 1 5 1 ∷ []) ×
    (finished.held ≡ replicate 64 0 ++ replicate 64 72) ×
    (finished.left.items 0 ≡ []) ×
    (finished.left.items 1 ≡ heard 0 (cycle_at 5 0) ∷ [])
unfolding computed doers with_starts segment_of
finish-edges = (refl, refl, refl, refl, refl, refl, refl)

-- "Deliveries and drops follow a finish": a grant leaves a thread that could hear, and a pair before the floor
pub grant-delivers-nothing :
    ((call_of doers no_mark apart_words (site_with (note 0 4 0 ∷ [])) (ready_in 0 5 0 ∷ waiting_in 1 0 2 0 ∷ []) junk (Grant 0)).left.threads
    ≡ running_in 0 5 0 ∷ waiting_in 1 0 2 0 ∷ []) ×
    ((request_of doers no_mark apart_words (site_with (note 0 4 0 ∷ [])) (ready_in 0 5 0 ∷ waiting_in 1 0 2 0 ∷ []) 0).threads
    ≡ ready_in 0 15 0 ∷ ready_in 1 4 1 ∷ [])
unfolding computed doers with_starts segment_of
grant-delivers-nothing = (refl, refl)

-- "19 when a thread already running is granted or one not running is finished, checked after 10", and before 12; of a combined request too
abbrev one_runs : List Thread
one_runs = running_in 0 5 0 ∷ ended_in 1 6 0 ∷ []

pub refusal-19 :
    ((call_of doers no_mark apart_words (site_with []) one_runs junk (Grant 0)).left.answer ≡ Refused 19) ×
    ((call_of doers no_mark apart_words (site_with []) one_runs junk (Both 0)).left.answer ≡ Refused 19) ×
    ((request_of doers no_mark apart_words (site_with []) one_runs 0).answer ≡ Refused 19) ×
    ((call_of doers no_mark apart_words (site_with []) one_runs junk (Finish 1)).left.answer ≡ Refused 19) ×
    ((call_of doers no_mark apart_words (site_with []) one_runs junk (Grant 1)).left.answer ≡ Refused 12) ×
    ((call_of doers no_mark apart_words (site_with []) two junk (Finish 0)).left.answer ≡ Refused 19) ×
    ((call_of doers no_mark apart_words (site_with []) one_runs junk (Finish 2)).left.answer ≡ Refused 10) ×
    ((call_of doers no_mark apart_words (site_with []) one_runs junk (Grant 2)).left.answer ≡ Refused 10)
unfolding computed doers with_starts segment_of
refusal-19 = (refl, refl, refl, refl, refl, refl, refl, refl)

-- a record past T is no thread
pub refusal-10 :
    ((call_of doers no_mark apart_words (site_with []) (running_in 0 5 0 ∷ ended_in 1 6 0 ∷ running_in 1 7 0 ∷ []) junk (Grant 2)).left.answer ≡ Refused 10) ×
    ((call_of doers no_mark apart_words (site_with []) (running_in 0 5 0 ∷ ended_in 1 6 0 ∷ running_in 1 7 0 ∷ []) junk (Finish 2)).left.answer ≡ Refused 10)
unfolding computed doers with_starts segment_of
refusal-10 = (refl, refl)

-- "no later number refuses a finish": not the hazard of thread 1 at (4, 0), nor a log of 100 pairs at a cycle later than the floor
pub finish-never-later :
    ((call_of (sayers 2) one_mark far_words (site_with []) (ready_in 0 5 0 ∷ ready_in 1 4 0 ∷ []) junk (Grant 0)).left.answer ≡ Refused 14) ×
    ((call_of (sayers 2) one_mark far_words (site_with []) (running_in 0 5 0 ∷ ready_in 1 4 0 ∷ []) junk (Finish 0)).left.answer ≡ Granted 0 (cycle_at 5 0)) ×
    ((call_of (sayers 2) no_mark far_words (site_with (many_pairs 100)) (ready_in 1 5 0 ∷ ready_in 1 4 0 ∷ []) junk (Grant 0)).left.answer ≡ Refused 15) ×
    ((call_of (sayers 2) no_mark far_words (site_with (many_pairs 100)) (running_in 1 5 0 ∷ ready_in 1 4 0 ∷ []) junk (Finish 0)).left.answer ≡ Granted 1 (cycle_at 5 0))
unfolding computed sayers with_starts segment_of many_pairs
finish-never-later = (refl, refl, refl, refl)

-- "The combined request stays": it leaves nothing running and holds nothing
pub both-edges :
    ((call_of doers no_mark apart_words (site_with []) two junk (Both 0)).left.threads ≡ ready_in 0 15 0 ∷ ready_in 1 6 0 ∷ []) ×
    ((call_of doers no_mark apart_words (site_with []) two junk (Both 0)).held ≡ junk) ×
    ((call_of doers no_mark apart_words (site_with []) two junk (Both 0)).left.site ≡ (request_of doers no_mark apart_words (site_with []) two 0).site)
unfolding computed doers with_starts segment_of
both-edges = (refl, refl, refl)

-- "11 also refuses a running record later than H", which is 100 here; no later number refuses a finish
pub is_fit_run-edges :
    (is_fit_thread doers 0 (running_in 0 100 1023) ≡ true) ×
    (is_fit_thread doers 0 (running_in 0 101 0) ≡ false) ×
    (is_fit_thread doers 0 (ready_in 0 101 0) ≡ true) ×
    (is_fit_thread doers 0 (running_in 2 100 0) ≡ false)
unfolding computed doers with_starts segment_of
is_fit_run-edges = (refl, refl, refl, refl)

-- what is counted for running threads: "an equal pair once", in the log or of another thread
pub counted-edges :
    (counted_log (sayers 2) (running_in 1 5 0 ∷ ready_in 1 5 0 ∷ []) [] ≡ note 0 5 0 ∷ []) ×
    (counted_log (sayers 2) (running_in 1 5 0 ∷ running_in 1 5 0 ∷ []) [] ≡ note 0 5 0 ∷ []) ×
    (counted_log (sayers 2) (running_in 1 5 0 ∷ running_in 1 5 1 ∷ []) [] ≡ note 0 5 0 ∷ note 0 5 1 ∷ []) ×
    (counted_log (sayers 2) (running_in 1 5 0 ∷ running_in 2 5 0 ∷ []) (note 1 5 0 ∷ []) ≡ note 1 5 0 ∷ note 0 5 0 ∷ []) ×
    (counted_log (sayers 2) (running_in 0 5 0 ∷ ended_in 1 5 0 ∷ running_in 1 6 0 ∷ []) [] ≡ []) ×
    (counted_places (sayers 2) (site_with []) (running_in 1 5 0 ∷ ready_in 1 5 0 ∷ []) 1 1 (cycle_at 5 0) ≡ 1) ×
    (counted_places (sayers 2) (site_with []) (running_in 1 5 0 ∷ ready_in 1 6 0 ∷ []) 1 1 (cycle_at 6 0) ≡ 2)
unfolding computed sayers with_starts segment_of
counted-edges = (refl, refl, refl, refl, refl, refl, refl)

-- "log and counted places above 128 together"
pub is_unfit_places-edges :
    (is_unfit_places (sayers 1) (site_with (many_pairs 127)) (running_in 1 5 0 ∷ []) ≡ false) ×
    (is_unfit_places (sayers 1) (site_with (many_pairs 128)) (running_in 1 5 0 ∷ []) ≡ true) ×
    (is_unfit_places (sayers 1) (site_with (many_pairs 128)) (running_in 1 50 0 ∷ []) ≡ false) ×
    (is_unfit_places (sayers 1) (site_with (many_pairs 128)) (ready_in 1 5 0 ∷ []) ≡ false)
unfolding computed sayers with_starts segment_of many_pairs
is_unfit_places-edges = (refl, refl, refl, refl)

-- 15 counts them: thread 1 would log one pair at (6, 0), later than the floor (5, 0), at which thread 0 runs and has one pair counted
pub is_full-running :
    (is_full (sayers 2) (site_with (many_pairs 94)) (running_in 1 5 0 ∷ ready_in 1 6 0 ∷ []) 1 (cycle_at 6 0) ≡ false) ×
    (is_full (sayers 2) (site_with (many_pairs 95)) (running_in 1 5 0 ∷ ready_in 1 6 0 ∷ []) 1 (cycle_at 6 0) ≡ true) ×
    (is_full (sayers 2) (site_with (many_pairs 95)) (ready_in 1 5 0 ∷ ready_in 1 6 0 ∷ []) 1 (cycle_at 6 0) ≡ false)
unfolding computed sayers with_starts segment_of many_pairs
is_full-running = (refl, refl, refl)

-- "counts as live at its cycle for hazards, earliest, forecasts and the floor": as a ready thread, by its own segment and by what follows
pub live-edges :
    (hazard (sayers 2) one_mark far_words [] (ready_in 0 5 1 ∷ running_in 1 5 0 ∷ []) 0 (cycle_at 5 1) ≡ true) ×
    (hazard (sayers 2) one_mark far_words [] (ready_in 0 5 0 ∷ running_in 1 5 0 ∷ []) 0 (cycle_at 5 0) ≡ false) ×
    (hazard (sayers 2) one_mark far_words [] (ready_in 0 7 1 ∷ running_in 0 5 0 ∷ []) 0 (cycle_at 7 1) ≡ true) ×
    (hazard (sayers 2) one_mark far_words [] (ready_in 0 7 1 ∷ ended_in 0 5 0 ∷ []) 0 (cycle_at 7 1) ≡ false) ×
    (forecast_of (sayers 1) far_words [] (running_in 1 5 0 ∷ []) 0 ≡ bound_at 5 0) ×
    (forecast_of (sayers 1) far_words [] (running_in 0 5 0 ∷ []) 0 ≡ bound_at 7 0) ×
    (floor_of (sayers 2) (ready_in 0 7 0 ∷ running_in 0 5 0 ∷ []) ≡ bound_at 5 0)
unfolding computed sayers with_starts segment_of
live-edges = (refl, refl, refl, refl, refl, refl, refl)

-- 64 numbers for each thread: 128 here, more are not read
pub is_unfit_held-edges :
    (is_unfit_held doers (replicate 127 0) ≡ true) ×
    (is_unfit_held doers (replicate 128 0) ≡ false) ×
    ((call_of doers no_mark apart_words (site_with []) two (replicate 127 0) (Finish 9)).left.answer ≡ Refused 11) ×
    (held_at junk 1 ≡ replicate 64 72)
unfolding computed doers with_starts segment_of
is_unfit_held-edges = (refl, refl, refl, refl)

-- by rows: 11, 16, 10, 19, then the rest
pub rows-edges :
    ((call_by_rows doers no_mark 63 (site_with []) two (replicate 127 0) (Finish 9)).left.answer ≡ Refused 11) ×
    ((call_by_rows doers no_mark 63 (site_with []) two junk (Finish 9)).left.answer ≡ Refused 16) ×
    ((call_by_rows doers no_mark 64 (site_with []) two junk (Finish 9)).left.answer ≡ Refused 10) ×
    ((call_by_rows doers no_mark 64 (site_with []) two junk (Finish 1)).left.answer ≡ Refused 19) ×
    ((call_by_rows doers no_mark 64 (site_with []) two junk (Grant 1)).left.answer ≡ Granted 1 (cycle_at 6 0))
unfolding computed doers with_starts segment_of
rows-edges = (refl, refl, refl, refl, refl)

-- a list: both run at once, thread 1 is finished first, and thread 0's finish stores what it writes
pub list-edges :
    ((calls_of doers no_mark apart_words (site_with []) two junk (Grant 0 ∷ Grant 1 ∷ Grant 0 ∷ Finish 1 ∷ Finish 0 ∷ Finish 0 ∷ [])).listed.answers
    ≡ Granted 0 (cycle_at 5 0) ∷ Granted 1 (cycle_at 6 0) ∷ Refused 19 ∷ Granted 1 (cycle_at 6 0) ∷ Granted 0 (cycle_at 5 0) ∷ Refused 19 ∷ []) ×
    (get_or (calls_of doers no_mark apart_words (site_with []) two junk (Grant 0 ∷ Grant 1 ∷ Finish 1 ∷ Finish 0 ∷ [])).listed.site.variables.at 0 9 ≡ 1) ×
    ((calls_of doers no_mark apart_words (site_with []) two junk (Grant 0 ∷ Grant 1 ∷ Finish 1 ∷ Finish 0 ∷ [])).held ≡ replicate 128 0)
unfolding computed doers with_starts segment_of
list-edges = (refl, refl, refl)

-- a call as a word
pub call_at-edges :
    (call_at 0 ≡ Both 0) × (call_at 255 ≡ Both 255) × (call_at 256 ≡ Grant 0) × (call_at 511 ≡ Grant 255) × (call_at 512 ≡ Finish 0) × (call_at 767 ≡ Finish 255) ×
    (call_at 768 ≡ Finish 255) × (call_at 65535 ≡ Finish 255)
unfolding computed
call_at-edges = (refl, refl, refl, refl, refl, refl, refl, refl)
