-- Private contracts of the plain run's code: thread states as words, and what the code does to them.
-- A cycle (t, d) is the number 1,024 t + d, below 2 ^ 44. A ready thread's word is its cycle; one that waits, is over or
-- is overrun stands above every cycle, with its event and its cycle in it. `word_of` and `state_from` alone say so.
use Rattle.std.specs.Prelude.{ℕ, zero, suc, ◌+◌, ◌-◌, ◌*◌, ◌/◌, ◌%◌, Bool, false, cond, not, ◌&&◌, List, ◌++◌, ltb, eqb, get_or, replicate}
use Rattle.base.specs.Index.{tabulate}
use Rattle.clock.specs.declared.Cycle.{Cycle}
use Rattle.clock.specs.declared.Wait.TheVariants as wait
use Rattle.clock.specs.Cycle.{cycle_at, is_before}
use Rattle.clock.specs.Wait.{wait_ends}
use Rattle.model.specs.declared.Model.{Model}
use Rattle.model.specs.declared.State.{State}
use Rattle.model.specs.declared.State.TheVariants.{Ended, Overrun, Ready, Waiting, Running}
use Rattle.model.specs.declared.Thread.{Thread}
use Rattle.model.specs.Limits.{end_time}
use Rattle.model.specs.Record.{no_thread, Awaited, nothing, awaits, awaited_by, state_after}
use Rattle.plain_words.specs.Reach.{lesser_of}
use Rattle.plain.specs.declared.PlainRun.{PlainRun}

abbrev pub waiting : ℕ
waiting = 4611686018427387904

abbrev pub ended : ℕ
ended = 9223372036854775808

abbrev pub overrun : ℕ
overrun = 13835058055282163712

-- how many cycles there are
abbrev pub span : ℕ
span = 17592186044416

abbrev pub key_of : Cycle → ℕ
key_of c = 1024 * c.time.0 + c.delta.0

-- the cycle of a number
abbrev pub cycle_from : ℕ → Cycle
cycle_from k = cycle_at (k / 1024) (k % 1024)

-- the first cycle that is not run, after "a thread ready at exactly H"
abbrev pub limit_of : Model → ℕ
limit_of m = 1024 * end_time m

-- no thread of the plain run is running; to a cycle it would be as a ready one
abbrev pub word_of : State → ℕ
word_of (Ended c) = ended + key_of c
word_of (Overrun c) = overrun + key_of c
word_of (Ready c) = key_of c
word_of (Waiting e c) = waiting + span * e + key_of c
word_of (Running c) = key_of c

-- the state of a word
unfoldable pub state_from : ℕ → State
state_from w =
    let c = cycle_from (w % span) in
    cond (ltb w waiting) (Ready c) (cond (ltb w ended) (Waiting ((w - waiting) / span % 32) c) (cond (ltb w overrun) (Ended c) (Overrun c)))

-- the first k threads of their words; zero past them
unfoldable pub threads_to : List ℕ → List ℕ → ℕ → List Thread
threads_to ws ss k = tabulate k 0 (λ j. record { segment = get_or ss j 0; state = state_from (get_or ws j 0) }) ++ replicate (32 - k) no_thread

-- what a run that is not refused leaves
abbrev pub answer : List ℕ → List Thread → ℕ → Bool → PlainRun
answer v ts n spent = record { number = 0; variables = record { at = v }; threads = record { at = ts }; n = n; spent = spent }

-- "becomes ready at the next delta", or is overrun
unfoldable pub next_word : ℕ → ℕ
next_word now = word_of (state_after (wait_ends wait.Event (cycle_from now)))

-- a thread whose segment ends so, at a cycle
unfoldable pub ended_by : ℕ → Cycle → State
ended_by end c =
    cond (eqb (end % 4) 0)
    (Ended c)
    (cond (eqb (end % 4) 2)
    (Waiting (end / 1024 % 32) c)
    (state_after (wait_ends (wait.Time (record { 0 = end / 1024 % 4294967296 })) c)))

unfoldable pub close_word : ℕ → ℕ → ℕ
close_word end now = word_of (ended_by end (cycle_from now))

-- whether what a thread waits for is among the marked events of a cycle, "its wait begun in that cycle or before"
unfoldable pub is_told : List Bool → Cycle → Awaited → Bool
is_told fs c nothing = false
is_told fs c (awaits e since) = get_or fs e false && not (is_before c since)

-- a thread at the end of a cycle, where the marked events were notified
unfoldable pub wake_word : List Bool → ℕ → ℕ → ℕ
wake_word fs now w = cond (is_told fs (cycle_from now) (awaited_by (state_from w))) (next_word now) w

-- the least of the first k words
unfoldable pub least_word : ℕ → List ℕ → ℕ
least_word zero ws = 18446744073709551615
least_word (suc k) ws = lesser_of (get_or ws k 0) (least_word k ws)
