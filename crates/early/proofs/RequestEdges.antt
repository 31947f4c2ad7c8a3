-- What is fit, a grant, the refusals and their order, of `specs/` at, below and above their edges: closed examples, worked out from document 01.
use Prim.Native.Nat.{ℕ, ◌+◌, ◌*◌}
use mathlib.Core.Path.{◌≡◌, refl}
use mathlib.Core.Bool.{true, false}
use mathlib.Core.List.{List, [], ◌∷◌}
use lib.ListN.{get_or, replicate}
use Rattle.clock.specs.Cycle.{cycle_at}
use Rattle.model.specs.declared.Model.{Model}
use Rattle.model.specs.declared.Thread.{Thread}
use Rattle.model.specs.Values.{with_head}
use Rattle.model.specs.Record.{nothing, awaits}
use Rattle.plain.specs.History.{ran, heard}
use Rattle.early.specs.declared.Notification.{Notification}
use Rattle.early.specs.declared.Site.{Site}
use Rattle.early.specs.declared.Answer.{Answer}
use Rattle.early.specs.declared.Answer.TheVariants.{Granted, Refused}
use Rattle.early.specs.Log.{log_of}
use Rattle.early.specs.Fit.{is_fit_cycle, is_fit_wait, is_fit_thread, is_fit_pair, is_fit_word, is_unfit_threads, is_unfit_log, is_unfit_words, is_unfit}
use Rattle.early.specs.Grant.{log_after, closed_threads, threads_after, site_after, items_after}
use Rattle.early.specs.Answer.{number_of, values_of}
use Rattle.early.specs.Request.{is_full, request_of, fresh_site, requests_of}
use Rattle.early.proofs.Computed.{computed}
use Rattle.early.proofs.EdgeModels.{note, ready_in, waiting_in, ended_in, overrun_in, segment_of, with_starts, sayers, far_words, one_mark, no_mark, doers, apart_words, site_with, many_pairs}

-- "delta above 1,023"; a time at its limit
pub is_fit_cycle-edges :
    (is_fit_cycle 500 (cycle_at 499 1023) ≡ true) × (is_fit_cycle 500 (cycle_at 499 1024) ≡ false) × (is_fit_cycle 500 (cycle_at 500 0) ≡ false)
unfolding computed
is_fit_cycle-edges = (refl, refl, refl)

-- "event not below E", which is 2 here
pub is_fit_wait-edges :
    (is_fit_wait doers (awaits 1 (cycle_at 0 0)) ≡ true) × (is_fit_wait doers (awaits 2 (cycle_at 0 0)) ≡ false) × (is_fit_wait doers nothing ≡ true)
unfolding computed doers with_starts segment_of
is_fit_wait-edges = (refl, refl, refl)

-- "segment not below N", which is 2 here; "a record time of exactly 2,000,000,000" is allowed; "delta above 1,023", in every state
pub is_fit_thread-edges :
    (is_fit_thread doers 0 (ready_in 1 2000000000 1023) ≡ true) ×
    (is_fit_thread doers 0 (ready_in 2 2000000000 1023) ≡ false) ×
    (is_fit_thread doers 0 (ready_in 1 2000000001 0) ≡ false) ×
    (is_fit_thread doers 0 (ready_in 1 2000000000 1024) ≡ false) ×
    (is_fit_thread doers 0 (ended_in 1 2000000001 0) ≡ false) ×
    (is_fit_thread doers 0 (overrun_in 1 2000000001 0) ≡ false) ×
    (is_fit_thread doers 0 (waiting_in 1 1 2000000001 0) ≡ false) ×
    (is_fit_thread doers 0 (waiting_in 1 2 0 0) ≡ false)
unfolding computed doers with_starts segment_of
is_fit_thread-edges = (refl, refl, refl, refl, refl, refl, refl, refl)

-- "11 allows a log time .. of exactly 1,000,000,000"
pub is_fit_pair-edges :
    (is_fit_pair doers (note 1 1000000000 1023) ≡ true) ×
    (is_fit_pair doers (note 2 1000000000 1023) ≡ false) ×
    (is_fit_pair doers (note 1 1000000001 0) ≡ false) ×
    (is_fit_pair doers (note 1 1000000000 1024) ≡ false)
unfolding computed doers with_starts segment_of
is_fit_pair-edges = (refl, refl, refl, refl)

-- "11 allows .. a distance word's time of exactly 1,000,000,000", with any delta; all ones apart no later one
pub is_fit_word-edges :
    (is_fit_word (1000000000 * 1024 + 1023) ≡ true) ×
    (is_fit_word (1000000001 * 1024) ≡ false) ×
    (is_fit_word 18446744073709551614 ≡ false) ×
    (is_fit_word 18446744073709551615 ≡ true)
unfolding computed
is_fit_word-edges = (refl, refl, refl, refl)

-- "records below T", which is 2 here; a record past T is not judged
pub is_unfit_threads-edges :
    (is_unfit_threads doers (ready_in 0 0 0 ∷ []) ≡ true) ×
    (is_unfit_threads doers (ready_in 0 0 0 ∷ ready_in 0 0 0 ∷ []) ≡ false) ×
    (is_unfit_threads doers (ready_in 0 0 0 ∷ ready_in 2 0 0 ∷ []) ≡ true) ×
    (is_unfit_threads doers (ready_in 0 0 0 ∷ ready_in 0 0 0 ∷ ready_in 2 0 0 ∷ []) ≡ false)
unfolding computed doers with_starts segment_of
is_unfit_threads-edges = (refl, refl, refl, refl)

-- a state with so many places in use, of those that stand there
abbrev site_of_places : List Notification → ℕ → Site
site_of_places l n = record { variables = record { at = [] }; log = l; count = n }

-- "log count above 128"; a place past the count is not judged
pub is_unfit_log-edges :
    (is_unfit_log doers (site_of_places (many_pairs 128) 128) ≡ false) ×
    (is_unfit_log doers (site_of_places (many_pairs 128) 129) ≡ true) ×
    (is_unfit_log doers (site_of_places (note 1 5 0 ∷ note 2 5 0 ∷ []) 1) ≡ false) ×
    (is_unfit_log doers (site_of_places (note 1 5 0 ∷ note 2 5 0 ∷ []) 2) ≡ true)
unfolding computed doers with_starts segment_of many_pairs
is_unfit_log-edges = (refl, refl, refl, refl)

-- "distance words below N × N", which is 4 here; a word past them is not judged
pub is_unfit_words-edges :
    (is_unfit_words doers (0 ∷ 0 ∷ 0 ∷ []) ≡ true) ×
    (is_unfit_words doers (0 ∷ 0 ∷ 0 ∷ 0 ∷ []) ≡ false) ×
    (is_unfit_words doers (0 ∷ 0 ∷ 0 ∷ 1000000001 * 1024 ∷ []) ≡ true) ×
    (is_unfit_words doers (0 ∷ 0 ∷ 0 ∷ 0 ∷ 1000000001 * 1024 ∷ []) ≡ false)
unfolding computed doers with_starts segment_of
is_unfit_words-edges = (refl, refl, refl, refl)

abbrev two_ready : List Thread
two_ready = ready_in 0 5 0 ∷ ready_in 1 6 0 ∷ []

-- "held model against the file rules": with H = 0; then each part alone
pub is_unfit-edges :
    (is_unfit doers apart_words (site_with []) two_ready ≡ false) ×
    (is_unfit (with_head doers 0 1 2) apart_words (site_with []) two_ready ≡ true) ×
    (is_unfit doers [] (site_with []) two_ready ≡ true) ×
    (is_unfit doers apart_words (site_with (note 2 0 0 ∷ [])) two_ready ≡ true) ×
    (is_unfit doers apart_words (site_with []) [] ≡ true)
unfolding computed doers with_starts segment_of
is_unfit-edges = (refl, refl, refl, refl, refl)

-- 15 for an early segment: "cycle later than the floor and log plus new pairs above 96". Thread 1 of two would log one pair at (6, 0), the floor is (5, 0).
abbrev say_ready : ℕ → List Thread
say_ready t = ready_in 1 5 0 ∷ ready_in 1 t 0 ∷ []

pub is_full-early :
    (is_full (sayers 2) (site_with (many_pairs 95)) (say_ready 6) 1 (cycle_at 6 0) ≡ false) ×
    (is_full (sayers 2) (site_with (many_pairs 96)) (say_ready 6) 1 (cycle_at 6 0) ≡ true) ×
    (is_full (sayers 2) (site_with (many_pairs 96)) (say_ready 60) 1 (cycle_at 60 0) ≡ false) ×
    (is_full (sayers 2) (site_with (many_pairs 97)) (say_ready 60) 1 (cycle_at 60 0) ≡ true)
unfolding computed sayers with_starts segment_of many_pairs
is_full-early = (refl, refl, refl, refl)

-- "or above 128 for any thread": at the floor, also tied with another thread, 96 does not count
pub is_full-floor :
    (is_full (sayers 2) (site_with (many_pairs 96)) (say_ready 6) 0 (cycle_at 5 0) ≡ false) ×
    (is_full (sayers 2) (site_with (many_pairs 96)) (say_ready 5) 1 (cycle_at 5 0) ≡ false) ×
    (is_full (sayers 2) (site_with (many_pairs 127)) (say_ready 6) 0 (cycle_at 5 0) ≡ false) ×
    (is_full (sayers 2) (site_with (many_pairs 128)) (say_ready 6) 0 (cycle_at 5 0) ≡ true)
unfolding computed sayers with_starts segment_of many_pairs
is_full-floor = (refl, refl, refl, refl)

-- A grant of thread 0 at (5, 0): its pairs go to the end in statement order, its wait ends at (15, 0), thread 1 hears event 0 and is ready at (5, 1).
-- So (4, 0) is dropped, (5, 0) too, and (7, 0) stays, although thread 0 is ready later than that.
abbrev one_waits : List Thread
one_waits = ready_in 0 5 0 ∷ waiting_in 1 0 5 0 ∷ []

abbrev two_pairs : Site
two_pairs = site_with (note 1 4 0 ∷ note 1 7 0 ∷ [])

pub grant-log : log_after doers two_pairs one_waits 0 (cycle_at 5 0) ≡ note 1 4 0 ∷ note 1 7 0 ∷ note 1 5 0 ∷ note 0 5 0 ∷ []
unfolding computed doers with_starts segment_of
grant-log = refl

pub grant-threads :
    (closed_threads doers two_pairs one_waits 0 (cycle_at 5 0) ≡ ready_in 0 15 0 ∷ waiting_in 1 0 5 0 ∷ []) ×
    (threads_after doers apart_words two_pairs one_waits 0 (cycle_at 5 0) ≡ ready_in 0 15 0 ∷ ready_in 1 5 1 ∷ [])
unfolding computed doers with_starts segment_of
grant-threads = (refl, refl)

pub grant-site :
    (log_of (site_after doers apart_words two_pairs one_waits 0 (cycle_at 5 0)) ≡ note 1 7 0 ∷ []) ×
    ((site_after doers apart_words two_pairs one_waits 0 (cycle_at 5 0)).log ≡ note 1 7 0 ∷ replicate 127 (note 0 0 0)) ×
    (get_or (site_after doers apart_words two_pairs one_waits 0 (cycle_at 5 0)).variables.at 0 0 ≡ 1)
unfolding computed doers with_starts segment_of
grant-site = (refl, refl, refl)

-- "the segments are those granted to it and the events those delivered to it"
pub grant-items :
    (items_after doers apart_words two_pairs one_waits 0 (cycle_at 5 0) 0 ≡ ran 0 (cycle_at 5 0) ∷ []) ×
    (items_after doers apart_words two_pairs one_waits 0 (cycle_at 5 0) 1 ≡ heard 0 (cycle_at 5 0) ∷ [])
unfolding computed doers with_starts segment_of
grant-items = (refl, refl)

pub answer-edges :
    (number_of (Granted 3 (cycle_at 5 7)) ≡ 0) ×
    (values_of (Granted 3 (cycle_at 5 7)) ≡ 3 ∷ 5 ∷ 7 ∷ []) ×
    (number_of (Refused 14) ≡ 14) ×
    (values_of (Refused 14) ≡ [])
answer-edges = (refl, refl, refl, refl)

-- the answer to one request on the words and marks of `sayers` and `doers`
abbrev asked : Model → List ℕ → Site → List Thread → ℕ → Answer
asked m ws site ts k = (request_of m one_mark ws site ts k).answer

-- "13 applies to a time later than H (its example: ready at 6)": H is 5; a record at 2,000,000,000 is fit and gets 13, one later is 11
abbrev asked_at : ℕ → ℕ → ℕ → Answer
asked_at h t d = asked (with_head doers h 1 2) apart_words (site_with []) (ready_in 0 t d ∷ ended_in 0 0 0 ∷ []) 0

pub request-horizon :
    (asked_at 5 4 1023 ≡ Granted 0 (cycle_at 4 1023)) ×
    (asked_at 5 5 0 ≡ Granted 0 (cycle_at 5 0)) ×
    (asked_at 5 5 1023 ≡ Granted 0 (cycle_at 5 1023)) ×
    (asked_at 5 6 0 ≡ Refused 13) ×
    (asked_at 1000000000 1000000000 0 ≡ Granted 0 (cycle_at 1000000000 0)) ×
    (asked_at 1000000000 2000000000 0 ≡ Refused 13) ×
    (asked_at 1000000000 2000000001 0 ≡ Refused 11)
unfolding computed doers with_starts segment_of
request-horizon = (refl, refl, refl, refl, refl, refl, refl)

-- 10, "thread number not below T", which is 2 here; 12, "thread not ready"
pub request-thread :
    (asked doers apart_words (site_with []) two_ready 1 ≡ Granted 1 (cycle_at 6 0)) ×
    (asked doers apart_words (site_with []) two_ready 2 ≡ Refused 10) ×
    (asked doers apart_words (site_with []) (ended_in 0 5 0 ∷ ready_in 1 6 0 ∷ []) 0 ≡ Refused 12) ×
    (asked doers apart_words (site_with []) (overrun_in 0 5 0 ∷ ready_in 1 6 0 ∷ []) 0 ≡ Refused 12) ×
    (asked doers apart_words (site_with []) (waiting_in 0 0 5 0 ∷ ready_in 1 6 0 ∷ []) 0 ≡ Refused 12)
unfolding computed doers with_starts segment_of
request-thread = (refl, refl, refl, refl, refl)

-- "Requests: 11, 10, 12, 13, 14, 15": where two apply, the first; 10 also for a number whose record stands past T and is not ready,
-- 12 for an ended thread whose cycle is past the horizon
pub request-order :
    (asked doers [] (site_with []) two_ready 2 ≡ Refused 11) ×
    (asked doers apart_words (site_with []) (ready_in 0 5 0 ∷ ready_in 1 6 0 ∷ ended_in 0 0 0 ∷ []) 2 ≡ Refused 10) ×
    (asked doers apart_words (site_with []) (ended_in 0 101 0 ∷ ready_in 1 6 0 ∷ []) 0 ≡ Refused 12) ×
    (asked (sayers 2) far_words (site_with []) (ready_in 1 5 0 ∷ ready_in 0 101 0 ∷ []) 1 ≡ Refused 13) ×
    (asked (sayers 2) far_words (site_with (many_pairs 97)) (ready_in 1 5 0 ∷ ready_in 0 6 0 ∷ []) 1 ≡ Refused 14) ×
    (asked (sayers 2) far_words (site_with (many_pairs 97)) (ready_in 2 5 0 ∷ ready_in 0 6 0 ∷ []) 1 ≡ Refused 15)
unfolding computed doers sayers with_starts segment_of many_pairs
request-order = (refl, refl, refl, refl, refl, refl)

-- "A refused request returns the number with state and thread records as handed in": also the places past the count
abbrev untidy : Site
untidy = site_of_places (note 1 9 0 ∷ note 1 8 0 ∷ []) 1

pub request-refused :
    ((request_of doers no_mark apart_words untidy two_ready 2).site ≡ untidy) ×
    ((request_of doers no_mark apart_words untidy two_ready 2).threads ≡ two_ready) ×
    ((request_of doers no_mark apart_words untidy two_ready 2).items 0 ≡ [])
unfolding computed doers with_starts segment_of
request-refused = (refl, refl, refl)

-- "after a grant the places past its count are 0": segment 1 waits on event 0 and logs nothing; a record past T is not written
pub request-granted :
    ((request_of doers no_mark apart_words untidy (ready_in 0 7 0 ∷ ready_in 1 6 0 ∷ ready_in 1 3 0 ∷ []) 1).site.log ≡ note 1 9 0 ∷ replicate 127 (note 0 0 0)) ×
    ((request_of doers no_mark apart_words untidy (ready_in 0 7 0 ∷ ready_in 1 6 0 ∷ ready_in 1 3 0 ∷ []) 1).threads ≡ ready_in 0 7 0 ∷ waiting_in 1 0 6 0 ∷ ready_in 1 3 0 ∷ [])
unfolding computed doers with_starts segment_of
request-granted = (refl, refl)

-- "the state and thread records that the last one left": two grants of thread 0, a refusal between them, then thread 1 hears of the first
pub requests-handed-on :
    ((requests_of doers no_mark apart_words fresh_site one_waits (0 ∷ 2 ∷ 0 ∷ [])).answers ≡ Granted 0 (cycle_at 5 0) ∷ Refused 10 ∷ Granted 0 (cycle_at 15 0) ∷ []) ×
    (get_or (requests_of doers no_mark apart_words fresh_site one_waits (0 ∷ 2 ∷ 0 ∷ [])).site.variables.at 0 0 ≡ 2) ×
    (log_of (requests_of doers no_mark apart_words fresh_site one_waits (0 ∷ 2 ∷ 0 ∷ [])).site ≡ note 1 15 0 ∷ note 0 15 0 ∷ []) ×
    ((requests_of doers no_mark apart_words fresh_site one_waits (0 ∷ 2 ∷ 0 ∷ [])).threads ≡ ready_in 0 25 0 ∷ ready_in 1 5 1 ∷ []) ×
    ((requests_of doers no_mark apart_words fresh_site one_waits (0 ∷ 2 ∷ 0 ∷ [])).history 0 ≡ ran 0 (cycle_at 5 0) ∷ ran 0 (cycle_at 15 0) ∷ []) ×
    ((requests_of doers no_mark apart_words fresh_site one_waits (0 ∷ 2 ∷ 0 ∷ [])).history 1 ≡ heard 0 (cycle_at 5 0) ∷ [])
unfolding computed doers with_starts segment_of
requests-handed-on = (refl, refl, refl, refl, refl, refl)
