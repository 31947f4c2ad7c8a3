-- A state that the caller keeps as numbers, from call to call: what each call answers, and what it leaves of the lent buffers.
use Rattle.std.specs.Prelude.{ℕ, ◌*◌, ◌≡◌, Bool, cond, ◌&&◌, List, map, leb, eqb, length, take}
use Rattle.base.specs.Index.{or_else}
use Rattle.model.specs.declared.Model.{Model}
use Rattle.model.specs.declared.Thread.{Thread}
use Rattle.model.specs.Refusal.{accepted, unfit}
use Rattle.model.specs.Rules.{unless}
use Rattle.reader.specs.File.{read_file}
use Rattle.tables.specs.Conflict.{marks_of}
use Rattle.tables.specs.Word.{words_of}
use Rattle.tables.specs.Outcome.{conflict_marks}
use Rattle.plain.specs.Start.{fresh_threads}
use Rattle.buffers.specs.Write.{placed_in}
use Rattle.early.specs.declared.Site.{Site}
use Rattle.early.specs.declared.Answer.{Answer}
use Rattle.early.specs.declared.Answer.TheVariants.{Granted, Refused}
use Rattle.early.specs.Answer.{number_of, values_of}
use Rattle.early.specs.Request.{Requested, request_of, fresh_site}
use Rattle.early.specs.ByRows.{request_by_rows}
use Rattle.early.specs.declared.Call.{Call}
use Rattle.early.specs.declared.Call.TheVariants.{Both, Grant, Finish}
use Rattle.early.specs.Call.{Called, call_of, call_by_rows, call_at}
use Rattle.order.specs.Claim.{CallClaim}
use Rattle.replay.specs.declared.Replayed.{Replayed}
use Rattle.replay.specs.Replay.{served_on}
use Rattle.export_state.specs.Numbers.{log_words, record_words, site_from, threads_from, are_held}

-- the buffers of a state
pub record Kept : Type 0 where
  pub variables : List ℕ
  pub log : List ℕ
  pub records : List ℕ

abbrev pub keeps : List ℕ → List ℕ → List ℕ → Kept
keeps vs ws rs = record { variables = vs; log = ws; records = rs }

-- 64 and 385 words, and 5 for each of t threads
unfoldable pub has_room : ℕ → Kept → Bool
has_room t b = leb 64 (length b.variables) && (leb 385 (length b.log) && leb (5 * t) (length b.records))

-- the buffers with a state and so many records in them
unfoldable pub holding : Site → List Thread → Kept → Kept
holding site ts b =
    keeps (placed_in site.variables.at b.variables) (placed_in (log_words site) b.log) (placed_in (record_words ts) b.records)

-- One order of tests in all calls: the file's number; 11 for a buffer of the state or of the answers; 16; then the request's own.
-- fresh
unfoldable pub fresh_number : List ℕ → Kept → ℕ
fresh_number file b = or_else (read_file file).number (unless (has_room (read_file file).model.t b) unfit)

-- the records of all threads
abbrev pub own_records : Model → List Thread → List Thread
own_records m ts = take m.t ts

unfoldable pub fresh_kept : List ℕ → Kept → Kept
fresh_kept file b =
    let m = (read_file file).model in
    cond (eqb (fresh_number file b) accepted) (holding fresh_site (own_records m (fresh_threads m)) b) b

-- a request: the file's number, then 11 where the numbers are not those of a state or the answer has no room
unfoldable pub asked_number : List ℕ → Kept → List ℕ → ℕ
asked_number file b answer =
    or_else (read_file file).number (unless (are_held (read_file file).model.t b.variables b.log b.records && leb 3 (length answer)) unfit)

-- the request of thread k, on the file's own marks and the records of its threads: with these words, and by rows in so many words
unfoldable pub request_by : List ℕ → List ℕ → Kept → ℕ → Requested
request_by file words b k =
    let m = (read_file file).model in
    request_of m (conflict_marks m) words (site_from b.variables b.log) (threads_from b.records m.t) k

unfoldable pub rows_by : List ℕ → ℕ → Kept → ℕ → Requested
rows_by file lent b k =
    let m = (read_file file).model in
    request_by_rows m (conflict_marks m) lent (site_from b.variables b.log) (threads_from b.records m.t) k

-- document 02, slip 7: a call, on the same and on the values that are held
unfoldable pub call_by : List ℕ → List ℕ → Kept → List ℕ → Call → Called
call_by file words b held call =
    let m = (read_file file).model in
    call_of m (conflict_marks m) words (site_from b.variables b.log) (threads_from b.records m.t) held call

unfoldable pub call_rows_by : List ℕ → ℕ → Kept → List ℕ → Call → Called
call_rows_by file lent b held call =
    let m = (read_file file).model in
    call_by_rows m (conflict_marks m) lent (site_from b.variables b.log) (threads_from b.records m.t) held call

-- what a call answers by the request q that it makes
unfoldable pub request_number : List ℕ → Requested → Kept → List ℕ → ℕ
request_number file q b answer = or_else (asked_number file b answer) (number_of q.answer)

-- what a grant leaves; on a refusal the buffers are as they were
abbrev pub kept_by : Answer → Site → List Thread → Kept → Kept
kept_by (Granted s c) site ts b = holding site ts b
kept_by (Refused n) site ts b = b

-- what a grant that is apart from its finish leaves: the thread's record runs, variables and log are as handed in
abbrev pub started_by : Answer → List Thread → Kept → Kept
started_by (Granted s c) ts b = keeps b.variables b.log (placed_in (record_words ts) b.records)
started_by (Refused n) ts b = b

-- what a call leaves
abbrev pub left_by : Call → Answer → Site → List Thread → Kept → Kept
left_by (Both k) a site ts b = kept_by a site ts b
left_by (Grant k) a site ts b = started_by a ts b
left_by (Finish k) a site ts b = kept_by a site ts b

unfoldable pub request_kept : List ℕ → Requested → Kept → List ℕ → Kept
request_kept file q b answer = cond (eqb (asked_number file b answer) accepted) (kept_by q.answer q.site q.threads b) b

unfoldable pub call_kept : List ℕ → Call → Called → Kept → List ℕ → Kept
call_kept file call q b answer =
    cond (eqb (asked_number file b answer) accepted) (left_by call q.left.answer q.left.site q.left.threads b) b

-- segment, time and delta of a grant
unfoldable pub request_answer : List ℕ → Requested → Kept → List ℕ → List ℕ
request_answer file q b answer = cond (eqb (asked_number file b answer) accepted) (placed_in (values_of q.answer) answer) answer

-- the values that are held, as a call q leaves them; on a refusal they are as they were
unfoldable pub call_held : List ℕ → Called → Kept → List ℕ → List ℕ → List ℕ
call_held file q b held answer = cond (eqb (request_number file q.left b answer) accepted) q.held held

-- a whole list of calls from the fresh state on, by what its replay d on the model leaves: the file's number, 11 for a short buffer of
-- the state, then the replay's
unfoldable pub replay_number : List ℕ → Replayed → Kept → ℕ
replay_number file d b = or_else (fresh_number file b) d.number

unfoldable pub replay_kept : List ℕ → Replayed → Kept → Kept
replay_kept file d b =
    cond (eqb (replay_number file d b) accepted) (holding d.site (own_records (read_file file).model d.threads.at) b) b

-- a buffer as the replay leaves it, or as it was where there is none
unfoldable pub replay_buffer : List ℕ → Kept → List ℕ → List ℕ → List ℕ
replay_buffer file b after before = cond (eqb (fresh_number file b) accepted) after before

-- what a call ensures: its number r, and what it leaves. A fresh state
pub record Freshens (file : List ℕ) (b : Kept) (r : ℕ) (kept : Kept) : Type 0 where
  pub number : r ≡ fresh_number file b
  pub state : kept ≡ fresh_kept file b

-- a request q
pub record Requests (file : List ℕ) (q : Requested) (b : Kept) (answer : List ℕ) (r : ℕ) (kept : Kept) (written : List ℕ) : Type 0 where
  pub number : r ≡ request_number file q b answer
  pub state : kept ≡ request_kept file q b answer
  pub answered : written ≡ request_answer file q b answer

-- a grant, a finish or a combined request q: answered as a request, with what it leaves of the state and of the values that are held
pub record Calls (file : List ℕ) (call : Call) (q : Called) (b : Kept) (held answer : List ℕ) (r : ℕ) (kept : Kept) (holds written : List ℕ) : Type 0 where
  pub number : r ≡ request_number file q.left b answer
  pub state : kept ≡ call_kept file call q b answer
  pub answered : written ≡ request_answer file q.left b answer
  pub values : holds ≡ call_held file q b held answer

-- Demand 3, of a list that was made: the buffers hold the state, the records and the held values of the whole list, of which the claim speaks
pub record HoldsList (m : Model) (held calls : List ℕ) (b kept : Kept) (holds : List ℕ) : Type 0 where
  pub state : kept ≡ holding (served_on m held calls).listed.site (own_records m (served_on m held calls).listed.threads) b
  pub values : holds ≡ (served_on m held calls).held
  pub claim : CallClaim m (marks_of m) (words_of m) (fresh_threads m) held (map call_at calls)

-- a list of calls, of which the claim is said where it was made: by what its replay leaves
pub record Replays (file held calls : List ℕ) (d : Replayed) (b : Kept) (r : ℕ) (kept : Kept) (holds : List ℕ) : Type 0 where
  pub number : r ≡ replay_number file d b
  pub state : kept ≡ replay_kept file d b
  pub listed : r ≡ accepted → HoldsList (read_file file).model held calls b kept holds
