-- Each call on a small file, at, below and above its edges: closed examples.
use Prim.Native.Nat.{ℕ}
use mathlib.Core.Path.{◌≡◌, refl}
use mathlib.Core.Bool.{true, false}
use mathlib.Core.List.{List, [], ◌∷◌, ◌++◌}
use lib.ListN.{replicate, set}
use Rattle.base.specs.Index.{or_else}
use Rattle.reader.proofs.Computed as reader
use Rattle.tables.specs.Outcome as tables
use Rattle.reader.specs.File.{read_file}
use Rattle.early.specs.Request.{Requested}
use Rattle.early.specs.declared.Call.{Call}
use Rattle.early.specs.declared.Call.TheVariants.{Both, Grant, Finish}
use Rattle.early.specs.Call.{Called}
use Rattle.early_list.specs.Answers.{answers_words, granted_in, is_short}
use Rattle.order.specs.Claim.{after_calls}
use Rattle.replay.specs.Replay.{done_on, is_unfit_lent, number_on, replayed_on, held_on, number_by_rows, replayed_by_rows, held_by_rows}
use Rattle.replay.specs.declared.Replayed.{Replayed}
use Rattle.export_step.specs.Step.{Kept, keeps, has_room, fresh_number, fresh_kept, asked_number, request_by, rows_by, call_by, call_rows_by, request_number, request_kept, call_kept, request_answer, call_held, replay_number, replay_kept, replay_buffer}
use Rattle.export_step.proofs.Computed.{computed}

-- case 1: "the 36-byte file of H = 10, V = E = 0, one ending segment, one thread"
abbrev one : List ℕ
one = 10 ∷ 0 ∷ 1 ∷ 0 ∷ 10 ∷ 0 ∷ 0 ∷ 0 ∷ 0 ∷ 0 ∷ 17 ∷ 0 ∷ 2 ∷ 0 ∷ 0 ∷ 0 ∷ 0 ∷ 0 ∷ 0 ∷ 0 ∷ 0 ∷ 0 ∷ 0 ∷ 0 ∷ 0 ∷ 0 ∷ 0 ∷ 5 ∷ 0 ∷ 3 ∷ 0 ∷ 0 ∷ 4 ∷ 0 ∷ 4 ∷ 0 ∷ []

-- buffers of so many words, all 7
abbrev sevens : ℕ → ℕ → ℕ → Kept
sevens v l r = keeps (replicate v 7) (replicate l 7) (replicate r 7)

-- the numbers of its fresh state: thread 0 ready at (0, 0)
abbrev start : Kept
start = keeps (replicate 64 0) (replicate 385 0) (0 ∷ 2 ∷ 0 ∷ 0 ∷ 0 ∷ [])

-- the same with a word past it
abbrev start_and_one : Kept
start_and_one = keeps (replicate 64 0) (replicate 385 0) (0 ∷ 2 ∷ 0 ∷ 0 ∷ 0 ∷ 7 ∷ [])

-- thread 0 granted, and not yet finished
abbrev running : Kept
running = keeps (replicate 64 0) (replicate 385 0) (0 ∷ 4 ∷ 0 ∷ 0 ∷ 0 ∷ [])

-- the fresh state, and thread 0 granted, with 7 in all variables, of which the file has none, and past the log's count
abbrev junk : Kept
junk = keeps (replicate 64 7) (0 ∷ replicate 384 7) (0 ∷ 2 ∷ 0 ∷ 0 ∷ 0 ∷ [])

abbrev junk_running : Kept
junk_running = keeps (replicate 64 7) (0 ∷ replicate 384 7) (0 ∷ 4 ∷ 0 ∷ 0 ∷ 0 ∷ [])

-- thread 0 has ended
abbrev ended : Kept
ended = keeps (replicate 64 0) (replicate 385 0) (0 ∷ 0 ∷ 0 ∷ 0 ∷ 0 ∷ [])

pub has_room-edges :
    (has_room 1 (sevens 64 385 5) ≡ true) × (has_room 1 (sevens 63 385 5) ≡ false) × (has_room 1 (sevens 64 384 5) ≡ false) × (has_room 1 (sevens 64 385 4) ≡ false) × (has_room 32 (sevens 65 386 159) ≡ false) × (has_room 32 (sevens 65 386 160) ≡ true)
unfolding computed
has_room-edges = (refl, refl, refl, refl, refl, refl)

-- the file's number first, then 11; else the fresh state, and no word past it
pub fresh-edges :
    (fresh_number [] (sevens 0 0 0) ≡ 1) ×
    (fresh_number one (sevens 64 385 4) ≡ 11) ×
    (fresh_kept one (sevens 64 385 4) ≡ sevens 64 385 4) ×
    (fresh_number one (sevens 64 385 5) ≡ 0) ×
    (fresh_kept one (sevens 64 385 5) ≡ start) ×
    ((fresh_kept one (sevens 65 385 6)).variables ≡ set (replicate 65 0) 64 7) ×
    ((fresh_kept one (sevens 65 385 6)).records ≡ 0 ∷ 2 ∷ 0 ∷ 0 ∷ 0 ∷ 7 ∷ [])
unfolding reader.computed computed or_else
fresh-edges = (refl, refl, refl, refl, refl, refl, refl)

-- the file's number first, then 11: a state of 5, an answer of 2 words; a state of 4 is running
pub asked-edges :
    (asked_number [] (sevens 0 0 0) [] ≡ 1) ×
    (asked_number one (keeps (replicate 64 0) (replicate 385 0) (0 ∷ 5 ∷ 0 ∷ 0 ∷ 0 ∷ [])) (7 ∷ 7 ∷ 7 ∷ []) ≡ 11) ×
    (asked_number one running (7 ∷ 7 ∷ 7 ∷ []) ≡ 0) ×
    (asked_number one start (7 ∷ 7 ∷ []) ≡ 11) ×
    (asked_number one start (7 ∷ 7 ∷ 7 ∷ []) ≡ 0)
unfolding reader.computed computed or_else
asked-edges = (refl, refl, refl, refl, refl)

-- a request of thread k on the start, and one by rows in so many words
abbrev asks : List ℕ → ℕ → Kept → Requested
asks words k b = request_by one words b k

-- thread 0 is granted segment 0 at (0, 0) and ends; a word past its record stays; thread 1 is refused with 10, and nothing is written
pub request-edges :
    (request_number one (asks (0 ∷ []) 0 start) start (7 ∷ 7 ∷ 7 ∷ 7 ∷ []) ≡ 0) ×
    (request_kept one (asks (0 ∷ []) 0 start_and_one) start_and_one (7 ∷ 7 ∷ 7 ∷ 7 ∷ []) ≡ keeps (replicate 64 0) (replicate 385 0) (0 ∷ 0 ∷ 0 ∷ 0 ∷ 0 ∷ 7 ∷ [])) ×
    (request_answer one (asks (0 ∷ []) 0 start) start (7 ∷ 7 ∷ 7 ∷ 7 ∷ []) ≡ 0 ∷ 0 ∷ 0 ∷ 7 ∷ []) ×
    (request_number one (asks (0 ∷ []) 1 start) start (7 ∷ 7 ∷ 7 ∷ []) ≡ 10) ×
    (request_kept one (asks (0 ∷ []) 1 start) start (7 ∷ 7 ∷ 7 ∷ []) ≡ start) ×
    (request_answer one (asks (0 ∷ []) 1 start) start (7 ∷ 7 ∷ 7 ∷ []) ≡ 7 ∷ 7 ∷ 7 ∷ []) ×
    (request_number one (asks [] 0 start) start (7 ∷ 7 ∷ 7 ∷ []) ≡ 11)
unfolding reader.computed computed or_else tables.conflict_marks
request-edges = (refl, refl, refl, refl, refl, refl, refl)

-- by rows: 16 below 64 words, after the 11 of a short answer and before the 10 of thread 1
pub rows-edges :
    (request_number one (rows_by one 64 start 0) start (7 ∷ 7 ∷ 7 ∷ []) ≡ 0) ×
    (request_number one (rows_by one 65 start 0) start (7 ∷ 7 ∷ 7 ∷ []) ≡ 0) ×
    (request_number one (rows_by one 63 start 0) start (7 ∷ 7 ∷ 7 ∷ []) ≡ 16) ×
    (request_kept one (rows_by one 63 start 0) start (7 ∷ 7 ∷ 7 ∷ []) ≡ start) ×
    (request_number one (rows_by one 63 start 0) start (7 ∷ 7 ∷ []) ≡ 11) ×
    (request_number one (rows_by one 63 start 1) start (7 ∷ 7 ∷ 7 ∷ []) ≡ 16) ×
    (request_number one (rows_by one 64 start 1) start (7 ∷ 7 ∷ 7 ∷ []) ≡ 10)
unfolding reader.computed computed or_else tables.conflict_marks
rows-edges = (refl, refl, refl, refl, refl, refl, refl)

-- a call on a state with so many values held, all 7, and one by rows in so many words; and what is answered, kept and held after it
abbrev calls : ℕ → Kept → Call → Called
calls n b call = call_by one (0 ∷ []) b (replicate n 7) call

abbrev calls_by_rows : ℕ → ℕ → Kept → Call → Called
calls_by_rows lent n b call = call_rows_by one lent b (replicate n 7) call

abbrev says : Called → Kept → ℕ
says q b = request_number one q.left b (7 ∷ 7 ∷ 7 ∷ [])

abbrev leaves : Call → Called → Kept → Kept
leaves call q b = call_kept one call q b (7 ∷ 7 ∷ 7 ∷ [])

abbrev holds : ℕ → Called → Kept → List ℕ
holds n q b = call_held one q b (replicate n 7) (7 ∷ 7 ∷ 7 ∷ [])

-- a grant holds the variables and leaves the thread running; a finish ends it and holds 0; past the thread's 64 values nothing is held
pub call-edges :
    (says (calls 64 start (Grant 0)) start ≡ 0) ×
    (leaves (Grant 0) (calls 64 start (Grant 0)) start ≡ running) ×
    (holds 65 (calls 65 start (Grant 0)) start ≡ replicate 64 0 ++ (7 ∷ [])) ×
    (request_answer one (calls 64 running (Finish 0)).left running (7 ∷ 7 ∷ 7 ∷ 7 ∷ []) ≡ 0 ∷ 0 ∷ 0 ∷ 7 ∷ []) ×
    (leaves (Finish 0) (calls 64 running (Finish 0)) running ≡ ended) ×
    (holds 65 (calls 65 running (Finish 0)) running ≡ replicate 64 0 ++ (7 ∷ [])) ×
    (leaves (Both 0) (calls 64 start (Both 0)) start ≡ ended) ×
    (holds 64 (calls 64 start (Both 0)) start ≡ replicate 64 7)
unfolding reader.computed computed or_else tables.conflict_marks
call-edges = (refl, refl, refl, refl, refl, refl, refl, refl)

-- a grant leaves variables and log as handed in, also past their counts; a finish and a request leave 0 past the log's count
pub call-left-edges :
    (leaves (Grant 0) (calls 64 junk (Grant 0)) junk ≡ keeps (replicate 64 7) (0 ∷ replicate 384 7) (0 ∷ 4 ∷ 0 ∷ 0 ∷ 0 ∷ [])) ×
    (leaves (Grant 1) (calls 64 junk (Grant 1)) junk ≡ junk) ×
    (leaves (Finish 0) (calls 64 junk_running (Finish 0)) junk_running ≡ keeps (replicate 64 7) (replicate 385 0) (0 ∷ 0 ∷ 0 ∷ 0 ∷ 0 ∷ [])) ×
    (leaves (Both 0) (calls 64 junk (Both 0)) junk ≡ keeps (replicate 64 7) (replicate 385 0) (0 ∷ 0 ∷ 0 ∷ 0 ∷ 0 ∷ [])) ×
    (leaves (Grant 0) (calls_by_rows 64 64 junk (Grant 0)) junk ≡ junk_running)
unfolding reader.computed computed or_else tables.conflict_marks
call-left-edges = (refl, refl, refl, refl, refl)

-- 11 for 63 values, 10 for thread 1, then 19: a running thread is granted or asked, one that is ready or has ended is finished; nothing is held
pub call-refused-edges :
    (says (calls 63 start (Grant 0)) start ≡ 11) ×
    (holds 63 (calls 63 start (Grant 0)) start ≡ replicate 63 7) ×
    (says (calls 63 running (Finish 1)) running ≡ 11) ×
    (says (calls 64 start (Grant 1)) start ≡ 10) ×
    (says (calls 64 running (Finish 1)) running ≡ 10) ×
    (says (calls 64 running (Grant 0)) running ≡ 19) ×
    (holds 64 (calls 64 running (Grant 0)) running ≡ replicate 64 7) ×
    (says (calls 64 running (Both 0)) running ≡ 19) ×
    (request_number one (asks (0 ∷ []) 0 running) running (7 ∷ 7 ∷ 7 ∷ []) ≡ 19) ×
    (says (calls 64 start (Finish 0)) start ≡ 19) ×
    (leaves (Finish 0) (calls 64 start (Finish 0)) start ≡ start) ×
    (says (calls 64 ended (Finish 0)) ended ≡ 19) ×
    (says (calls 64 ended (Grant 0)) ended ≡ 12)
unfolding reader.computed computed or_else tables.conflict_marks
call-refused-edges = (refl, refl, refl, refl, refl, refl, refl, refl, refl, refl, refl, refl, refl)

-- by rows: 16 below 64 words, after the 11 of 63 values and before 10 and 19
pub call-rows-edges :
    (says (calls_by_rows 64 64 start (Grant 0)) start ≡ 0) ×
    (leaves (Finish 0) (calls_by_rows 64 64 running (Finish 0)) running ≡ ended) ×
    (says (calls_by_rows 63 63 start (Grant 0)) start ≡ 11) ×
    (says (calls_by_rows 63 64 start (Grant 0)) start ≡ 16) ×
    (holds 64 (calls_by_rows 63 64 start (Grant 0)) start ≡ replicate 64 7) ×
    (says (calls_by_rows 63 64 start (Finish 0)) start ≡ 16) ×
    (says (calls_by_rows 63 64 start (Grant 1)) start ≡ 16) ×
    (says (calls_by_rows 64 64 start (Finish 0)) start ≡ 19)
unfolding reader.computed computed or_else tables.conflict_marks
call-rows-edges = (refl, refl, refl, refl, refl, refl, refl, refl)

-- a list with these words, so many values held, these calls and so many words of answers; and one by rows
abbrev plays : List ℕ → ℕ → List ℕ → ℕ → Replayed
plays words n list size = replayed_on (read_file one).model words (replicate n 7) list (replicate size 7)

abbrev plays_by_rows : ℕ → ℕ → List ℕ → ℕ → Replayed
plays_by_rows lent n list size = replayed_by_rows (read_file one).model lent (replicate n 7) list (replicate size 7)

-- the file's number first, then 11 for a short buffer of the state, of the answers or of the values, then 16; else the state that the list leaves
pub replay-edges :
    (replay_number [] (replayed_on (read_file []).model (5 ∷ []) (replicate 64 7) (0 ∷ []) (replicate 5 7)) (sevens 64 385 4) ≡ 1) ×
    (replay_number one (plays [] 64 (0 ∷ []) 5) (sevens 64 385 4) ≡ 11) ×
    (replay_number one (plays [] 64 (0 ∷ []) 4) (sevens 64 385 5) ≡ 11) ×
    (replay_number one (plays [] 63 (0 ∷ []) 5) (sevens 64 385 5) ≡ 11) ×
    (replay_number one (plays [] 64 (0 ∷ []) 5) (sevens 64 385 5) ≡ 16) ×
    (replay_kept one (plays [] 64 (0 ∷ []) 5) (sevens 64 385 5) ≡ sevens 64 385 5) ×
    (replay_number one (plays (5 ∷ []) 64 (0 ∷ []) 5) (sevens 64 385 5) ≡ 0) ×
    (replay_kept one (plays (5 ∷ []) 64 (0 ∷ []) 5) (sevens 64 385 6) ≡ keeps (replicate 64 0) (replicate 385 0) (0 ∷ 0 ∷ 0 ∷ 0 ∷ 0 ∷ 7 ∷ [])) ×
    (replay_kept one (plays (5 ∷ []) 64 (256 ∷ []) 5) (sevens 64 385 5) ≡ running) ×
    (replay_kept one (plays (5 ∷ []) 64 (256 ∷ 512 ∷ []) 10) (sevens 64 385 5) ≡ ended) ×
    (replay_buffer one (sevens 64 385 5) (held_on (read_file one).model (5 ∷ []) (replicate 65 7) (256 ∷ []) (replicate 5 7)) (replicate 65 7) ≡ replicate 64 0 ++ (7 ∷ [])) ×
    (replay_buffer one (sevens 64 385 5) (5 ∷ []) (6 ∷ []) ≡ 5 ∷ []) ×
    (replay_buffer one (sevens 64 385 4) (5 ∷ []) (6 ∷ []) ≡ 6 ∷ [])
unfolding reader.computed computed or_else tables.if_held tables.is_short tables.distances_number tables.distances_buffer answers_words granted_in is_short after_calls done_on is_unfit_lent number_on replayed_on held_on
replay-edges = (refl, refl, refl, refl, refl, refl, refl, refl, refl, refl, refl, refl, refl)

pub replay-rows-edges :
    (replay_number one (plays_by_rows 63 64 (0 ∷ []) 4) (sevens 64 385 5) ≡ 11) ×
    (replay_number one (plays_by_rows 63 63 (0 ∷ []) 5) (sevens 64 385 5) ≡ 11) ×
    (replay_number one (plays_by_rows 63 64 (0 ∷ []) 5) (sevens 64 385 5) ≡ 16) ×
    (replay_number one (plays_by_rows 64 64 (0 ∷ []) 5) (sevens 64 385 5) ≡ 0) ×
    (replay_kept one (plays_by_rows 64 64 (0 ∷ []) 5) (sevens 64 385 6) ≡ keeps (replicate 64 0) (replicate 385 0) (0 ∷ 0 ∷ 0 ∷ 0 ∷ 0 ∷ 7 ∷ [])) ×
    (replay_kept one (plays_by_rows 64 64 (256 ∷ []) 5) (sevens 64 385 5) ≡ running) ×
    (replay_buffer one (sevens 64 385 5) (held_by_rows (read_file one).model 64 (replicate 65 7) (256 ∷ []) (replicate 5 7)) (replicate 65 7) ≡ replicate 64 0 ++ (7 ∷ []))
unfolding reader.computed computed or_else tables.if_held tables.rows_number answers_words granted_in is_short after_calls done_on is_unfit_lent number_by_rows replayed_by_rows held_by_rows
replay-rows-edges = (refl, refl, refl, refl, refl, refl, refl)
