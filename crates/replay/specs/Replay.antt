-- A model or a file's bytes, a table buffer, held values, a list of calls as words and a buffer for the answers: what is left of them.
-- "The first gets the fresh state, each later one the state and thread records that the last one left".
use Rattle.std.specs.Prelude.{ℕ, ◌*◌, ◌≡◌, Bool, cond, ◌||◌, List, ◌++◌, map, eqb, length, drop, replicate}
use Rattle.model.specs.declared.Model.{Model}
use Rattle.model.specs.Refusal.{accepted, unfit}
use Rattle.model.specs.Record.{no_thread}
use Rattle.reader.specs.File.{read_file}
use Rattle.tables.specs.Conflict.{marks_of}
use Rattle.tables.specs.Word.{words_of}
use Rattle.tables.specs.Outcome.{distances_number, distances_buffer, rows_number}
use Rattle.plain.specs.Start.{fresh_threads}
use Rattle.early.specs.Request.{fresh_site}
use Rattle.early.specs.Call.{Served, is_unfit_held, call_at}
use Rattle.early_list.specs.Answers.{answers_words, granted_in, is_short}
use Rattle.order.specs.Claim.{after_calls, CallClaim}
use Rattle.replay.specs.declared.Replayed.{Replayed}

-- beside a number: all else zero
abbrev pub refused_with : ℕ → Replayed
refused_with number =
    record { number = number; granted = 0; v = 0; t = 0; site = fresh_site; threads = record { at = replicate 32 no_thread } }

-- all calls, on the model's fresh state, with its own tables
abbrev pub served_on : Model → List ℕ → List ℕ → Served
served_on m held calls = after_calls m held (map call_at calls)

unfoldable pub done_on : Model → List ℕ → List ℕ → Replayed
done_on m held calls =
    let r = (served_on m held calls).listed in
    record { number = accepted; granted = granted_in r.answers; v = m.v; t = m.t; site = r.site; threads = record { at = r.threads } }

-- 11 before the tables': a short buffer of answers, or too few held values
unfoldable pub is_unfit_lent : Model → List ℕ → List ℕ → List ℕ → Bool
is_unfit_lent m held calls answers = is_short calls answers || is_unfit_held m held

-- of a held model, by the number of its tables
abbrev pub number_with : ℕ → Model → List ℕ → List ℕ → List ℕ → ℕ
number_with tables m held calls answers = cond (is_unfit_lent m held calls answers) unfit tables

-- what is left by a number; the held values that the list leaves; the answers: five words each, words past them are not touched. Nothing
-- is written beside a number
abbrev pub replayed_by : ℕ → Model → List ℕ → List ℕ → Replayed
replayed_by n m held calls = cond (eqb n accepted) (done_on m held calls) (refused_with n)

abbrev pub held_by : ℕ → Model → List ℕ → List ℕ → List ℕ
held_by n m held calls = cond (eqb n accepted) (served_on m held calls).held held

abbrev pub answers_by : ℕ → Model → List ℕ → List ℕ → List ℕ → List ℕ
answers_by n m held calls answers =
    cond (eqb n accepted) (answers_words calls (served_on m held calls).listed.answers ++ drop (5 * length calls) answers) answers

-- with a table buffer: then 11 and 16 of the tables
unfoldable pub number_on : Model → List ℕ → List ℕ → List ℕ → List ℕ → ℕ
number_on m words held calls answers = number_with (distances_number m words) m held calls answers

unfoldable pub replayed_on : Model → List ℕ → List ℕ → List ℕ → List ℕ → Replayed
replayed_on m words held calls answers = replayed_by (number_on m words held calls answers) m held calls

-- the table buffer at the end
unfoldable pub words_on : Model → List ℕ → List ℕ → List ℕ → List ℕ → List ℕ
words_on m words held calls answers = cond (is_unfit_lent m held calls answers) words (distances_buffer m words)

unfoldable pub held_on : Model → List ℕ → List ℕ → List ℕ → List ℕ → List ℕ
held_on m words held calls answers = held_by (number_on m words held calls answers) m held calls

unfoldable pub answers_on : Model → List ℕ → List ℕ → List ℕ → List ℕ → List ℕ
answers_on m words held calls answers = answers_by (number_on m words held calls answers) m held calls answers

-- by rows, with so many words lent: then 11, and 16 below 64
unfoldable pub number_by_rows : Model → ℕ → List ℕ → List ℕ → List ℕ → ℕ
number_by_rows m lent held calls answers = number_with (rows_number m lent) m held calls answers

unfoldable pub replayed_by_rows : Model → ℕ → List ℕ → List ℕ → List ℕ → Replayed
replayed_by_rows m lent held calls answers = replayed_by (number_by_rows m lent held calls answers) m held calls

unfoldable pub held_by_rows : Model → ℕ → List ℕ → List ℕ → List ℕ → List ℕ
held_by_rows m lent held calls answers = held_by (number_by_rows m lent held calls answers) m held calls

unfoldable pub answers_by_rows : Model → ℕ → List ℕ → List ℕ → List ℕ → List ℕ
answers_by_rows m lent held calls answers = answers_by (number_by_rows m lent held calls answers) m held calls answers

-- of a file: its number, then the same of its model
unfoldable pub replayed_of : List ℕ → List ℕ → List ℕ → List ℕ → List ℕ → Replayed
replayed_of file words held calls answers =
    let read = read_file file in
    cond (eqb read.number accepted) (replayed_on read.model words held calls answers) (refused_with read.number)

unfoldable pub words_after : List ℕ → List ℕ → List ℕ → List ℕ → List ℕ → List ℕ
words_after file words held calls answers =
    let read = read_file file in
    cond (eqb read.number accepted) (words_on read.model words held calls answers) words

unfoldable pub held_after : List ℕ → List ℕ → List ℕ → List ℕ → List ℕ → List ℕ
held_after file words held calls answers =
    let read = read_file file in
    cond (eqb read.number accepted) (held_on read.model words held calls answers) held

unfoldable pub answers_after : List ℕ → List ℕ → List ℕ → List ℕ → List ℕ → List ℕ
answers_after file words held calls answers =
    let read = read_file file in
    cond (eqb read.number accepted) (answers_on read.model words held calls answers) answers

-- Demand 3, of what was left: the state, the records and the held values are those of the whole list, of which the claim speaks
pub record Keeps (m : Model) (held calls : List ℕ) (r : Replayed) (left : List ℕ) : Type 0 where
  pub site : r.site ≡ (served_on m held calls).listed.site
  pub threads : r.threads.at ≡ (served_on m held calls).listed.threads
  pub values : left ≡ (served_on m held calls).held
  pub claim : CallClaim m (marks_of m) (words_of m) (fresh_threads m) held (map call_at calls)
