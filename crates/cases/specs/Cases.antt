-- Document 01, "Cases": those marked P, in one table.
use Rattle.std.specs.Prelude.{ℕ, Bool, true, false, cond, not, ◌&&◌, List, [], ◌∷◌, eqb, get_or, length}
use Rattle.clock.specs.declared.Cycle.{Cycle}
use Rattle.clock.specs.declared.Bound.{Bound}
use Rattle.clock.specs.declared.Bound.TheVariants.{Never, At}
use Rattle.clock.specs.Cycle.{cycle_at, is_same}
use Rattle.clock.specs.Advance.{◌⊕◌}
use Rattle.model.specs.declared.Model.{Model}
use Rattle.model.specs.declared.State.{State}
use Rattle.model.specs.declared.State.TheVariants.{Ended, Overrun, Ready, Waiting, Running}
use Rattle.model.specs.declared.Thread.{Thread}
use Rattle.model.specs.Record.{thread_at}
use Rattle.model.specs.Effect.{effect_of}
use Rattle.reader.specs.File.{read_file}
use Rattle.tables.specs.Conflict.{mark_at, marks_of}
use Rattle.tables.specs.Distance.{distance_of}
use Rattle.tables.specs.Word.{words_of, distance_in}
use Rattle.plain.specs.Start.{fresh_variables}
use Rattle.plain.specs.Run.{plain_run}
use Rattle.early.specs.declared.Notification.{Notification}
use Rattle.early.specs.declared.Answer.{Answer}
use Rattle.early.specs.declared.Answer.TheVariants.{Granted, Refused}
use Rattle.early.specs.Log.{log_of}
use Rattle.early.specs.Earliest.{earliest_of}
use Rattle.early.specs.Answer.{number_of}
use Rattle.order.specs.Claim.{after_list}
use Rattle.cases.specs.Models.{file1, file_m, setters, notifiers, waits, subtracts, zero_wait}

-- the answer to the last of a list of requests
unfoldable pub last_answer : List Answer → Answer
last_answer [] = Refused 0
last_answer (a ∷ []) = a
last_answer (a ∷ b ∷ rest) = last_answer (b ∷ rest)

abbrev pub answer_to : Model → List ℕ → Answer
answer_to m ks = last_answer (after_list m ks).answers

abbrev pub state_of : ℕ → List Thread → State
state_of k ts = (thread_at ts k).state

-- whether a state is what the case says
abbrev pub is_ended : Cycle → State → Bool
is_ended c (Ended d) = is_same c d
is_ended c (Overrun d) = false
is_ended c (Ready d) = false
is_ended c (Waiting e d) = false
is_ended c (Running d) = false

abbrev pub is_overrun : Cycle → State → Bool
is_overrun c (Ended d) = false
is_overrun c (Overrun d) = is_same c d
is_overrun c (Ready d) = false
is_overrun c (Waiting e d) = false
is_overrun c (Running d) = false

abbrev pub is_ready : Cycle → State → Bool
is_ready c (Ended d) = false
is_ready c (Overrun d) = false
is_ready c (Ready d) = is_same c d
is_ready c (Waiting e d) = false
is_ready c (Running d) = false

abbrev pub is_waiting : ℕ → Cycle → State → Bool
is_waiting w c (Ended d) = false
is_waiting w c (Overrun d) = false
is_waiting w c (Ready d) = false
is_waiting w c (Waiting e d) = eqb w e && is_same c d
is_waiting w c (Running d) = false

abbrev pub is_bound : Cycle → Bound → Bool
is_bound c Never = false
is_bound c (At d) = is_same c d

abbrev pub is_granted : ℕ → Cycle → Answer → Bool
is_granted s c (Granted r d) = eqb s r && is_same c d
is_granted s c (Refused n) = false

-- a log that holds one pair
abbrev pub is_logged : ℕ → Cycle → List Notification → Bool
is_logged e c [] = false
is_logged e c (x ∷ []) = eqb e x.event && is_same c x.cycle
is_logged e c (x ∷ y ∷ rest) = false

-- the earliest that thread k could run segment s, after a list of requests
abbrev pub could_run : Model → List ℕ → ℕ → ℕ → Bound
could_run m ks k s =
    let a = after_list m ks in
    get_or (earliest_of m (words_of m) (log_of a.site) a.threads) k Never ⊕ distance_in m (words_of m) (thread_at a.threads k).segment s

-- a case's number, and whether it holds
pub record Row : Type 0 where
  pub number : ℕ
  pub holds : Bool

abbrev pub row : ℕ → Bool → Row
row n b = record { number = n; holds = b }

abbrev pub model1 : Model
model1 = (read_file file1).model

abbrev pub model_m : Model
model_m = (read_file file_m).model

-- the rest of the cases is run by the test program
unfoldable pub cases : List Row
cases =
    row 1 (eqb (length file1) 36 && eqb (read_file file1).number 0)
    ∷ row 1 (is_ended (cycle_at 0 0) (state_of 0 (plain_run model1 1000000).threads.at))
    ∷ row 1 (eqb (plain_run model1 1000000).n 1 && not (plain_run model1 1000000).spent)
    ∷ row 4 (eqb (length file_m) 116 && eqb (read_file file_m).number 0)
    ∷ row 4 (is_granted 2 (cycle_at 0 0) (answer_to model_m (1 ∷ [])))
    ∷ row 5 (is_granted 0 (cycle_at 0 0) (answer_to model_m (0 ∷ [])))
    ∷ row 5 (eqb (number_of (answer_to model_m (0 ∷ 0 ∷ []))) 14)
    ∷ row 5 (mark_at (marks_of model_m) 0 3 && is_bound (cycle_at 0 1) (could_run model_m (0 ∷ []) 1 3))
    ∷ row 6 (eqb (number_of (answer_to (setters 0) (0 ∷ 1 ∷ 1 ∷ []))) 14)
    ∷ row 6 (is_ready (cycle_at 5 0) (state_of 0 (after_list (setters 0) (0 ∷ 1 ∷ 1 ∷ [])).threads))
    ∷ row 6 (is_granted 2 (cycle_at 5 0) (answer_to (setters 0) (0 ∷ 1 ∷ 1 ∷ 0 ∷ [])))
    ∷ row 6 (is_granted 3 (cycle_at 10 0) (answer_to (setters 0) (0 ∷ 1 ∷ 1 ∷ 0 ∷ 1 ∷ [])))
    ∷ row 6 (eqb (get_or (after_list (setters 0) (0 ∷ 1 ∷ 1 ∷ 0 ∷ 1 ∷ [])).site.variables.at 0 0) 1)
    ∷ row 7 (is_granted 3 (cycle_at 10 0) (answer_to (setters 1) (0 ∷ 1 ∷ 1 ∷ [])))
    ∷ row 8 (is_granted 4 (cycle_at 5 0) (answer_to notifiers (0 ∷ 1 ∷ 2 ∷ 1 ∷ [])))
    ∷ row 8 (is_waiting 0 (cycle_at 0 0) (state_of 0 (after_list notifiers (0 ∷ 1 ∷ 2 ∷ 1 ∷ [])).threads))
    ∷ row 8 (is_logged 0 (cycle_at 5 0) (log_of (after_list notifiers (0 ∷ 1 ∷ 2 ∷ 1 ∷ [])).site))
    ∷ row 9 (is_ready (cycle_at 2 1) (state_of 0 (after_list notifiers (0 ∷ 1 ∷ 2 ∷ 1 ∷ 2 ∷ [])).threads))
    ∷ row 10 (is_bound (cycle_at 7 0) (distance_of (waits 0 7) 0 2))
    ∷ row 10 (is_bound (cycle_at 7 1) (distance_of (waits 7 0) 0 2))
    ∷ row 10 (is_bound (cycle_at 7 1) (distance_in (waits 7 0) (words_of (waits 7 0)) 0 2))
    ∷ row 11 (eqb (get_or (plain_run subtracts 1).variables.at 0 0) 4294967295)
    ∷ row 12 (is_overrun (cycle_at 0 1023) (effect_of zero_wait 0 0 (cycle_at 0 1023) fresh_variables).thread.state)
    ∷ row 12 (is_ready (cycle_at 0 1023) (effect_of zero_wait 0 0 (cycle_at 0 1022) fresh_variables).thread.state)
    ∷ row 13 ((plain_run model1 0).spent && eqb (plain_run model1 0).n 0)
    ∷ []

-- the cases marked P
abbrev pub marked : List ℕ
marked = 1 ∷ 4 ∷ 5 ∷ 6 ∷ 7 ∷ 8 ∷ 9 ∷ 10 ∷ 11 ∷ 12 ∷ 13 ∷ []

-- the numbers of a table's rows, those of neighbours once
unfoldable pub numbers_from : ℕ → List Row → List ℕ
numbers_from last [] = []
numbers_from last (r ∷ rs) = let rest = numbers_from r.number rs in cond (eqb last r.number) rest (r.number ∷ rest)

unfoldable pub all_hold : List Row → Bool
all_hold [] = true
all_hold (r ∷ rs) = r.holds && all_hold rs
