-- What `replayrun` prints of a model file and of the calls that its arguments say.
use Rattle.std.specs.Prelude.{cond, ◌||◌, List, map, ℕ, ltb, eqb, length, get_or, replicate}
use Rattle.base.specs.Index.{tabulate}
use Rattle.model.specs.Refusal.{accepted, unfit}
use Rattle.reader.specs.File.{read_file}
use Rattle.sheet.specs.Sheet.{refused_line}
use Rattle.early.specs.Call.{call_at}
use Rattle.early_list.specs.Answers.{answers_words}
use Rattle.order.specs.Claim.{after_calls}
use Rattle.transcript.specs.Label.{word_of}
use Rattle.transcript.specs.Transcript.{most_requests, transcript_of}

-- the calls that kinds and labels ask for
unfoldable pub call_words : List ℕ → List ℕ → List ℕ
call_words kinds labels = tabulate (length labels) 0 (λ i. word_of (get_or kinds i 0) (get_or labels i 0))

-- more than 1,024 calls, or a label without a kind: `refused 11`; "A refused file prints only `refused` and its number"; else the
-- transcript of the whole list, "the first gets the fresh state", with room for the held values of 32 threads
unfoldable pub replay_text : List ℕ → List ℕ → List ℕ → List ℕ
replay_text file kinds labels =
    let read = read_file file in
    let calls = call_words kinds labels in
    let r = (after_calls read.model (replicate 2048 0) (map call_at calls)).listed in
    cond (ltb most_requests (length labels) || ltb (length kinds) (length labels)) (refused_line unfit)
    (cond (eqb read.number accepted)
    (transcript_of labels (answers_words calls r.answers) read.model.v read.model.t r.site r.threads)
    (refused_line read.number))
