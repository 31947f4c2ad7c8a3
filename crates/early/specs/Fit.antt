-- Document 01, "Numbers of refusal", 11 in a request: what a fit state is.
use Rattle.std.specs.Prelude.{ℕ, ◌*◌, ◌/◌, Bool, true, not, ◌&&◌, ◌||◌, List, ltb, leb, eqb, length, get_or}
use Rattle.base.specs.Index.{any_below}
use Rattle.clock.specs.declared.Cycle.{Cycle}
use Rattle.clock.specs.Cycle.{cycle_at}
use Rattle.clock.specs.Wait.{last_delta}
use Rattle.model.specs.declared.Model.{Model}
use Rattle.model.specs.declared.State.{State}
use Rattle.model.specs.declared.Thread.{Thread}
use Rattle.model.specs.Refusal.{accepted}
use Rattle.model.specs.Limits.{cut_time, record_time, is_up_to_horizon}
use Rattle.model.specs.Record.{thread_at, cycle_of, is_running, Awaited, nothing, awaits, awaited_by}
use Rattle.model.specs.Reach.{lacks_from}
use Rattle.model.specs.Rules.{model_fault}
use Rattle.tables.specs.Word.{all_ones}
use Rattle.early.specs.declared.Notification.{Notification}
use Rattle.early.specs.declared.Site.{Site}
use Rattle.early.specs.Log.{places, pair_of, log_of, counted_log}

-- a time below a limit, and no "delta above 1,023"
unfoldable pub is_fit_cycle : ℕ → Cycle → Bool
is_fit_cycle limit c = ltb c.time.0 limit && leb c.delta.0 last_delta

-- no "event not below E"
unfoldable pub is_fit_wait : Model → Awaited → Bool
is_fit_wait m nothing = true
is_fit_wait m (awaits e since) = ltb e m.e

-- Document 02, slip 7: no "running record later than H"
unfoldable pub is_fit_run : Model → State → Bool
is_fit_run m s = not (is_running s) || is_up_to_horizon m (cycle_of s)

-- the record of thread k: no "segment not below N"; "a record time of exactly 2,000,000,000" is the last; no "record from whose
-- segment its thread could reach such a port"
unfoldable pub is_fit_thread : Model → ℕ → Thread → Bool
is_fit_thread m k t =
    ltb t.segment m.n
    && ((is_fit_cycle record_time (cycle_of t.state) && (is_fit_wait m (awaited_by t.state) && is_fit_run m t.state)) && not (lacks_from m k t.segment))

-- "a log time .. of exactly 1,000,000,000" is the last
unfoldable pub is_fit_pair : Model → Notification → Bool
is_fit_pair m x = ltb x.event m.e && is_fit_cycle cut_time x.cycle

-- "all ones apart", "a distance word's time of exactly 1,000,000,000" is the last
unfoldable pub is_fit_word : ℕ → Bool
is_fit_word w = eqb w all_ones || ltb (w / 1024) cut_time

-- "records below T": all that the threads' count asks for are lent
unfoldable pub is_unfit_threads : Model → List Thread → Bool
is_unfit_threads m ts = ltb (length ts) m.t || any_below m.t (λ k. not (is_fit_thread m k (thread_at ts k)))

-- no "log count above 128"; the places past the count are not judged
unfoldable pub is_unfit_log : Model → Site → Bool
is_unfit_log m s = ltb places s.count || any_below s.count (λ i. not (is_fit_pair m (get_or s.log i (pair_of 0 (cycle_at 0 0)))))

-- no "log and counted places above 128 together"
unfoldable pub is_unfit_places : Model → Site → List Thread → Bool
is_unfit_places m s ts = ltb places (length (counted_log m ts (log_of s)))

-- "distance words below N × N"
unfoldable pub is_unfit_words : Model → List ℕ → Bool
is_unfit_words m ws = ltb (length ws) (m.n * m.n) || any_below (m.n * m.n) (λ i. not (is_fit_word (get_or ws i 0)))

-- whether 11 applies to the model, the records and the state
unfoldable pub is_unfit_state : Model → Site → List Thread → Bool
is_unfit_state m s ts = not (eqb (model_fault m) accepted) || (is_unfit_threads m ts || (is_unfit_log m s || is_unfit_places m s ts))

-- whether 11 applies
unfoldable pub is_unfit : Model → List ℕ → Site → List Thread → Bool
is_unfit m ws s ts = is_unfit_state m s ts || is_unfit_words m ws
