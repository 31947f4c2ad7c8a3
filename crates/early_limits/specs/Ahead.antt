-- Document 01, "Early issue": earliest, forecast and hazard on limits. The laws of this crate say that on a fit state they are those of `early`.
use Rattle.std.specs.Prelude.{ℕ, zero, suc, ◌+◌, ◌*◌, ◌/◌, ◌%◌, Bool, cond, not, ◌&&◌, List, ◌++◌, ltb, eqb, get_or, length, drop}
use Rattle.base.specs.Index.{any_below, tabulate}
use Rattle.clock.specs.declared.Stamp.{Stamp}
use Rattle.model.specs.declared.Model.{Model}
use Rattle.model.specs.declared.Thread.{Thread}
use Rattle.model.specs.Values.{segment_at, body_of}
use Rattle.model.specs.Statement.{notified_by}
use Rattle.model.specs.Footprint.{has}
use Rattle.model.specs.Record.{thread_at, Awaited, nothing, awaits, awaited_by}
use Rattle.tables.specs.Word.{all_ones}
use Rattle.early.specs.declared.Notification.{Notification}
use Rattle.early.specs.Earliest.{source_of}
use Rattle.early_limits.specs.declared.Crew.{Crew}
use Rattle.early_limits.specs.Limit.{limit_of, limit_of_cycle, limit_of_word, lesser, lesser_below, sum_of, raised_limit, is_sooner_limit, at_most}

-- the limit from segment r to the nearest one that notifies e, by the words of the table
unfoldable pub nearest : Model → List ℕ → ℕ → ℕ → ℕ
nearest m ws r e =
    lesser_below m.n (λ s. cond (has (notified_by (body_of (segment_at m s))) e) (limit_of_word (get_or ws (r * m.n + s) 0)) all_ones)

-- 64 rows of 32 places: from segment r to event e at r × 32 + e; never past N
unfoldable pub reach_of : Model → List ℕ → List ℕ
reach_of m ws = tabulate 2048 0 (λ i. cond (ltb (i / 32) m.n) (nearest m ws (i / 32) (i % 32)) all_ones)

-- a buffer with those places stored; one that is too short stays
unfoldable pub reach_in : Model → List ℕ → List ℕ → List ℕ
reach_in m ws buffer = cond (ltb (length buffer) 2048) buffer (reach_of m ws ++ drop 2048 buffer)

-- the least, over the first t threads, of their limit and the way to a segment that notifies e
unfoldable pub forecast_at : List ℕ → List ℕ → List ℕ → ℕ → ℕ → ℕ
forecast_at reach segments xs t e =
    lesser_below (at_most 32 t) (λ j. sum_of (get_or xs j all_ones) (get_or reach (get_or segments j 0 * 32 + e) all_ones))

-- the limit x of a thread after one round: one that waits on event e is woken one delta after that, and the event is not before its wait
unfoldable pub relaxed_by : List ℕ → List ℕ → List ℕ → ℕ → ℕ → ℕ → ℕ → ℕ
relaxed_by reach segments xs t x e since =
    cond (ltb e 32) (lesser x (sum_of (raised_limit since (forecast_at reach segments xs t e)) 1)) x

unfoldable pub relaxed_at : List ℕ → Crew → List ℕ → ℕ → ℕ → ℕ
relaxed_at reach crew xs t k =
    relaxed_by reach crew.segments xs t (get_or xs k all_ones) (get_or crew.events k 255) (get_or crew.since k 0)

unfoldable pub relaxed_limits : List ℕ → Crew → ℕ → List ℕ → List ℕ
relaxed_limits reach crew t xs = tabulate 32 0 (λ k. cond (ltb k t) (relaxed_at reach crew xs t k) (get_or xs k all_ones))

-- after n rounds
unfoldable pub after_rounds : List ℕ → Crew → ℕ → ℕ → List ℕ → List ℕ
after_rounds reach crew t zero xs = xs
after_rounds reach crew t (suc n) xs = relaxed_limits reach crew t (after_rounds reach crew t n xs)

unfoldable pub earliest_limits : List ℕ → Crew → ℕ → List ℕ → List ℕ
earliest_limits reach crew t xs = after_rounds reach crew t t xs

-- whether thread j, no sooner than b and in the segment whose row of words begins at p, could run one of the segments that conflict before
-- thread i at c
unfoldable pub threatens_limit : (ℕ → Bool) → List ℕ → ℕ → ℕ → ℕ → ℕ → ℕ → ℕ → Bool
threatens_limit conflicts ws n p b j c i =
    any_below (at_most 64 n) (λ s. conflicts s && is_sooner_limit (sum_of b (limit_of_word (get_or ws (p + s) 0))) j c i)

-- by which threads conflict: thread i in segment r with thread j in segment s
unfoldable pub hazard_at : (ℕ → ℕ → ℕ → ℕ → Bool) → List ℕ → ℕ → ℕ → List ℕ → List ℕ → Stamp → Bool
hazard_at conflicts ws n t segments xs x =
    let i = x.thread.0 in
    let r = get_or segments i 0 in
    any_below (at_most 32 t) (λ j. not (eqb j i) && threatens_limit (conflicts i r j) ws n (get_or segments j 0 * n) (get_or xs j all_ones) j (limit_of_cycle x.cycle) i)

-- the crew and the first limits of thread records
unfoldable pub event_awaited : Awaited → ℕ
event_awaited nothing = 255
event_awaited (awaits e since) = e

unfoldable pub since_awaited : Awaited → ℕ
since_awaited nothing = 0
since_awaited (awaits e since) = limit_of_cycle since

unfoldable pub segments_of : ℕ → List Thread → List ℕ
segments_of t ts = tabulate 32 0 (λ k. cond (ltb k t) (thread_at ts k).segment 0)

unfoldable pub events_of : ℕ → List Thread → List ℕ
events_of t ts = tabulate 32 0 (λ k. cond (ltb k t) (event_awaited (awaited_by (thread_at ts k).state)) 255)

unfoldable pub since_of : ℕ → List Thread → List ℕ
since_of t ts = tabulate 32 0 (λ k. cond (ltb k t) (since_awaited (awaited_by (thread_at ts k).state)) 0)

unfoldable pub crew_of : ℕ → List Thread → Crew
crew_of t ts = record { segments = segments_of t ts; events = events_of t ts; since = since_of t ts }

unfoldable pub source_limits : ℕ → List Notification → List Thread → List ℕ
source_limits t l ts = tabulate 32 0 (λ k. cond (ltb k t) (limit_of (source_of l (thread_at ts k).state)) all_ones)
