-- What `replayrun` prints of a list of calls, byte by byte, in ASCII: a line for each call, the sheet's lines of the
-- variables and the threads, a line for each logged notification.
use Rattle.std.specs.Prelude.{ℕ, zero, suc, ◌+◌, ◌*◌, min, Bool, cond, ◌||◌, List, [], ◌∷◌, ◌++◌, ltb, eqb, length, get_or}
use Rattle.clock.specs.Cycle.{cycle_at}
use Rattle.model.specs.declared.Thread.{Thread}
use Rattle.model.specs.Refusal.{accepted, unfit}
use Rattle.buffers.specs.Digits.{digits_of}
use Rattle.buffers.specs.Line.{line_of}
use Rattle.sheet.specs.Sheet.{cycle_words, v_lines, t_lines, refused_line}
use Rattle.early.specs.declared.Notification.{Notification}
use Rattle.early.specs.declared.Site.{Site}
use Rattle.early.specs.Log.{places, pair_of}
use Rattle.transcript.specs.Label.{no_number}

-- the label's digits, or `?`
unfoldable pub label_word : ℕ → List ℕ
label_word x = cond (eqb x no_number) (63 ∷ []) (digits_of x)

-- what a call's word says of its line: `r`, from 256 on `g`, from 512 on `f`
unfoldable pub letter_of : ℕ → ℕ
letter_of w = cond (ltb w 256) 114 (cond (ltb w 512) 103 102)

-- `granted`, of a finish `finished`
unfoldable pub done_word : ℕ → List ℕ
done_word w = cond (ltb w 512) (103 ∷ 114 ∷ 97 ∷ 110 ∷ 116 ∷ 101 ∷ 100 ∷ []) (102 ∷ 105 ∷ 110 ∷ 105 ∷ 115 ∷ 104 ∷ 101 ∷ 100 ∷ [])

-- "A request answers either the segment run with its cycle, or one refusal number", and a grant and a finish "answer as it does":
-- `granted SEG TIME DELTA` or `refused N`
unfoldable pub printed_answer : ℕ → ℕ → ℕ → ℕ → ℕ → List (List ℕ)
printed_answer w number segment time delta =
    cond (eqb number accepted)
    (done_word w ∷ digits_of segment ∷ digits_of time ∷ digits_of delta ∷ [])
    ((114 ∷ 101 ∷ 102 ∷ 117 ∷ 115 ∷ 101 ∷ 100 ∷ []) ∷ digits_of number ∷ [])

-- the letter, the label, the answer
unfoldable pub call_line : ℕ → ℕ → ℕ → ℕ → ℕ → ℕ → List ℕ
call_line label w number segment time delta =
    line_of (letter_of w ∷ []) (label_word label ∷ printed_answer w number segment time delta)

-- the answer of call i stands at words 5 i to 5 i + 4: the call's word, number, segment, time, delta
unfoldable pub call_line_at : List ℕ → List ℕ → ℕ → List ℕ
call_line_at labels ws i =
    call_line (get_or labels i 0) (get_or ws (5 * i) 0) (get_or ws (5 * i + 1) 0) (get_or ws (5 * i + 2) 0) (get_or ws (5 * i + 3) 0) (get_or ws (5 * i + 4) 0)

-- the lines of the first so many calls
unfoldable pub call_lines : ℕ → List ℕ → List ℕ → List ℕ
call_lines zero labels ws = []
call_lines (suc i) labels ws = call_lines i labels ws ++ call_line_at labels ws i

-- a logged notification: event, cycle
unfoldable pub l_line : Notification → List ℕ
l_line x = line_of (108 ∷ []) (digits_of x.event ∷ cycle_words x.cycle)

-- the lines of the log's first so many places
unfoldable pub l_lines : ℕ → List Notification → List ℕ
l_lines zero xs = []
l_lines (suc i) xs = l_lines i xs ++ l_line (get_or xs i (pair_of 0 (cycle_at 0 0)))

-- of a model with v variables and t threads, or as many as there are places
unfoldable pub closing_of : ℕ → ℕ → Site → List Thread → List ℕ
closing_of v t site ts =
    v_lines (min v 64) site.variables.at ++ (t_lines (min t 32) ts ++ l_lines (min site.count places) site.log)

abbrev pub most_requests : ℕ
most_requests = 1024

-- more calls than a transcript holds, or fewer than 5 words for each
unfoldable pub is_unfit_list : List ℕ → List ℕ → Bool
is_unfit_list labels ws = ltb most_requests (length labels) || ltb (length ws) (5 * length labels)

-- the whole text; only `refused 11` of an unfit list
unfoldable pub transcript_of : List ℕ → List ℕ → ℕ → ℕ → Site → List Thread → List ℕ
transcript_of labels ws v t site ts =
    cond (is_unfit_list labels ws) (refused_line unfit) (call_lines (length labels) labels ws ++ closing_of v t site ts)

-- how many bytes a transcript has at most: 1,024 lines of 95, 64 of 44, 32 of 112, 128 of 65, with 20 digits for each number
abbrev pub longest_transcript : ℕ
longest_transcript = 112000
