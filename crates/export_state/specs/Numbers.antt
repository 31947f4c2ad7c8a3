-- A state and thread records as numbers in buffers, as a caller in C or Rust keeps them.
-- Variables: 64 words. Log: 385 words, the count, then 128 places of event, time, delta. Records: five words for each thread: segment, state, event, time, delta.
use Rattle.std.specs.Prelude.{ℕ, ◌+◌, ◌*◌, ◌%◌, ◌^◌, Bool, cond, not, ◌&&◌, List, [], ◌∷◌, ◌++◌, ltb, leb, eqb, length, get_or}
use Rattle.base.specs.Index.{any_below, tabulate}
use Rattle.clock.specs.declared.Cycle.{Cycle}
use Rattle.clock.specs.Cycle.{cycle_at}
use Rattle.model.specs.declared.Variables.{Variables}
use Rattle.model.specs.declared.State.{State}
use Rattle.model.specs.declared.State.TheVariants.{Ended, Overrun, Ready, Waiting, Running}
use Rattle.model.specs.declared.Thread.{Thread}
use Rattle.model.specs.Record.{no_thread}
use Rattle.early.specs.declared.Notification.{Notification}
use Rattle.early.specs.declared.Site.{Site}
use Rattle.early.specs.Log.{places, pair_of}

-- what is written: event, time, delta
abbrev pub pair_words : Notification → List ℕ
pair_words x = x.event ∷ x.cycle.time.0 ∷ x.cycle.delta.0 ∷ []

-- segment s, state (0 ended, 1 overrun, 2 ready, 3 waiting, 4 running), event (0 unless waiting), time, delta
abbrev pub record_of : ℕ → State → List ℕ
record_of s (Ended c) = s ∷ 0 ∷ 0 ∷ c.time.0 ∷ c.delta.0 ∷ []
record_of s (Overrun c) = s ∷ 1 ∷ 0 ∷ c.time.0 ∷ c.delta.0 ∷ []
record_of s (Ready c) = s ∷ 2 ∷ 0 ∷ c.time.0 ∷ c.delta.0 ∷ []
record_of s (Waiting e c) = s ∷ 3 ∷ e ∷ c.time.0 ∷ c.delta.0 ∷ []
record_of s (Running c) = s ∷ 4 ∷ 0 ∷ c.time.0 ∷ c.delta.0 ∷ []

abbrev pub thread_words : Thread → List ℕ
thread_words x = record_of x.segment x.state

-- the words of each, one after the other
unfoldable pub in_turn : {A : Type 0} → (A → List ℕ) → List A → List ℕ
in_turn f [] = []
in_turn f (x ∷ xs) = f x ++ in_turn f xs

-- the count, then the places
unfoldable pub log_words : Site → List ℕ
log_words s = s.count ∷ in_turn pair_words s.log

abbrev pub record_words : List Thread → List ℕ
record_words ts = in_turn thread_words ts

-- what is read: the place numbered i of a log, an event modulo 2 ^ 8 and a delta modulo 2 ^ 32
unfoldable pub pair_at : List ℕ → ℕ → Notification
pair_at ws i = pair_of (get_or ws (3 * i + 1) 0 % 2 ^ 8) (cycle_at (get_or ws (3 * i + 2) 0) (get_or ws (3 * i + 3) 0 % 2 ^ 32))

-- a state by its number; from 4 on, running
unfoldable pub state_from : ℕ → ℕ → Cycle → State
state_from n e c = cond (eqb n 0) (Ended c) (cond (eqb n 1) (Overrun c) (cond (eqb n 2) (Ready c) (cond (eqb n 3) (Waiting e c) (Running c))))

-- the record of thread k
unfoldable pub thread_from : List ℕ → ℕ → Thread
thread_from ws k =
    record {
      segment = get_or ws (5 * k) 0 % 2 ^ 8;
      state =
          state_from (get_or ws (5 * k + 1) 0) (get_or ws (5 * k + 2) 0 % 2 ^ 8) (cycle_at (get_or ws (5 * k + 3) 0) (get_or ws (5 * k + 4) 0 % 2 ^ 32));
    }

unfoldable pub variables_from : List ℕ → Variables
variables_from vs = record { at = tabulate 64 0 (λ i. get_or vs i 0) }

-- places past the log's count are not read, and are 0
unfoldable pub place_from : List ℕ → ℕ → Notification
place_from ws i = cond (ltb i (get_or ws 0 0)) (pair_at ws i) (pair_of 0 (cycle_at 0 0))

unfoldable pub site_from : List ℕ → List ℕ → Site
site_from vs ws = record { variables = variables_from vs; log = tabulate 128 0 (place_from ws); count = get_or ws 0 0 % 2 ^ 8 }

-- the records of the first t threads; none past them is read
unfoldable pub threads_from : List ℕ → ℕ → List Thread
threads_from ws t = tabulate t 0 (thread_from ws)

-- the same at the front of 40 records by value, of which the others are 0
unfoldable pub held_threads : List ℕ → ℕ → List Thread
held_threads ws t = tabulate 40 0 (λ k. cond (ltb k t) (thread_from ws k) no_thread)

-- whether the numbers are those of a state, each in its range: event and delta of a place
unfoldable pub is_pair_held : List ℕ → ℕ → Bool
is_pair_held ws i = ltb (get_or ws (3 * i + 1) 0) (2 ^ 8) && ltb (get_or ws (3 * i + 3) 0) (2 ^ 32)

-- an event beside the state's number: 0 unless waiting
unfoldable pub is_event_held : ℕ → ℕ → Bool
is_event_held n e = cond (eqb n 3) (ltb e (2 ^ 8)) (eqb e 0)

unfoldable pub is_record_held : List ℕ → ℕ → Bool
is_record_held ws k =
    ltb (get_or ws (5 * k) 0) (2 ^ 8) &&
    (ltb (get_or ws (5 * k + 1) 0) 5 && (is_event_held (get_or ws (5 * k + 1) 0) (get_or ws (5 * k + 2) 0) && ltb (get_or ws (5 * k + 4) 0) (2 ^ 32)))

-- long enough, no "log count above 128", and every place below the count
unfoldable pub is_log_held : List ℕ → Bool
is_log_held ws = leb 385 (length ws) && (leb (get_or ws 0 0) places && not (any_below (get_or ws 0 0) (λ i. not (is_pair_held ws i))))

-- as many as the threads, and every one of those: "records below T"
unfoldable pub are_records_held : ℕ → List ℕ → Bool
are_records_held t ws = leb (5 * t) (length ws) && not (any_below t (λ k. not (is_record_held ws k)))

unfoldable pub are_held : ℕ → List ℕ → List ℕ → List ℕ → Bool
are_held t vs log records = leb 64 (length vs) && (is_log_held log && are_records_held t records)
