-- Document 01, "Cases": the sheet that the program prints of a plain run, byte by byte, in ASCII.
use Rattle.std.specs.Prelude.{ℕ, zero, suc, min, Bool, true, false, cond, List, [], ◌∷◌, ◌++◌, eqb, get_or}
use Rattle.clock.specs.declared.Cycle.{Cycle}
use Rattle.model.specs.declared.State.{State}
use Rattle.model.specs.declared.State.TheVariants.{Ended, Overrun, Ready, Waiting, Running}
use Rattle.model.specs.declared.Thread.{Thread}
use Rattle.model.specs.Refusal.{accepted}
use Rattle.model.specs.Record.{thread_at}
use Rattle.plain.specs.declared.PlainRun.{PlainRun}
use Rattle.buffers.specs.Digits.{digits_of}
use Rattle.buffers.specs.Line.{line_of}

-- a cycle: its time, its delta
unfoldable pub cycle_words : Cycle → List (List ℕ)
cycle_words c = digits_of c.time.0 ∷ digits_of c.delta.0 ∷ []

-- "state, then the cycle (for wait: event, cycle begun); other states are ready and overrun": the words are
-- `ended`, `overrun`, `ready` and `wait`, and after document 02, slip 7, `running`
unfoldable pub state_words : State → List (List ℕ)
state_words (Ended c) = (101 ∷ 110 ∷ 100 ∷ 101 ∷ 100 ∷ []) ∷ cycle_words c
state_words (Overrun c) = (111 ∷ 118 ∷ 101 ∷ 114 ∷ 114 ∷ 117 ∷ 110 ∷ []) ∷ cycle_words c
state_words (Ready c) = (114 ∷ 101 ∷ 97 ∷ 100 ∷ 121 ∷ []) ∷ cycle_words c
state_words (Waiting e c) = (119 ∷ 97 ∷ 105 ∷ 116 ∷ []) ∷ digits_of e ∷ cycle_words c
state_words (Running c) = (114 ∷ 117 ∷ 110 ∷ 110 ∷ 105 ∷ 110 ∷ 103 ∷ []) ∷ cycle_words c

-- "v: variable, value."
unfoldable pub v_line : ℕ → ℕ → List ℕ
v_line i x = line_of (118 ∷ []) (digits_of i ∷ digits_of x ∷ [])

-- "t: thread, segment, state, then the cycle"
unfoldable pub t_line : ℕ → Thread → List ℕ
t_line k x = line_of (116 ∷ []) (digits_of k ∷ digits_of x.segment ∷ state_words x.state)

-- "n: segments run."
unfoldable pub n_line : ℕ → List ℕ
n_line n = line_of (110 ∷ []) (digits_of n ∷ [])

-- "a spent run has `spent` as a further last line"
unfoldable pub spent_line : Bool → List ℕ
spent_line true = line_of (115 ∷ 112 ∷ 101 ∷ 110 ∷ 116 ∷ []) []
spent_line false = []

-- "A refused file prints only `refused` and its number."
unfoldable pub refused_line : ℕ → List ℕ
refused_line number = line_of (114 ∷ 101 ∷ 102 ∷ 117 ∷ 115 ∷ 101 ∷ 100 ∷ []) (digits_of number ∷ [])

-- the lines of the first so many variables, and of the first so many threads
unfoldable pub v_lines : ℕ → List ℕ → List ℕ
v_lines zero xs = []
v_lines (suc i) xs = v_lines i xs ++ v_line i (get_or xs i 0)

unfoldable pub t_lines : ℕ → List Thread → List ℕ
t_lines zero xs = []
t_lines (suc k) xs = t_lines k xs ++ t_line k (thread_at xs k)

-- the sheet of a run that was made: of a model with v variables and t threads, or as many as there are places
unfoldable pub run_sheet : ℕ → ℕ → PlainRun → List ℕ
run_sheet v t run =
    v_lines (min v 64) run.variables.at ++ (t_lines (min t 32) run.threads.at ++ (n_line run.n ++ spent_line run.spent))

unfoldable pub sheet_of : ℕ → ℕ → PlainRun → List ℕ
sheet_of v t run = cond (eqb run.number accepted) (run_sheet v t run) (refused_line run.number)

-- how many bytes a sheet has at most: 64 lines of 44, 32 of 112, and the last two, with 20 digits for each number
abbrev pub longest_sheet : ℕ
longest_sheet = 6429
