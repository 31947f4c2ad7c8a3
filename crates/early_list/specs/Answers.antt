-- A list of calls on values: what it leaves, and the words that hold its answers, five for each.
use Rattle.std.specs.Prelude.{ℕ, ◌+◌, ◌*◌, Bool, cond, List, [], ◌∷◌, ◌++◌, ltb, length, get_or, drop}
use Rattle.model.specs.declared.Thread.{Thread}
use Rattle.model.specs.Refusal.{accepted, unfit}
use Rattle.early.specs.declared.Site.{Site}
use Rattle.early.specs.declared.Answer.{Answer}
use Rattle.early.specs.declared.Answer.TheVariants.{Granted, Refused}
use Rattle.early.specs.Answer.{number_of, values_of}
use Rattle.early.specs.Request.{Listed}
use Rattle.early.specs.Call.{Served}
use Rattle.early_list.specs.declared.Outcome.{Outcome}

-- which call, as its word, and the number, then the segment, the time and the delta, 0 where it is refused
abbrev pub answer_words : ℕ → Answer → List ℕ
answer_words w a = w ∷ number_of a ∷ get_or (values_of a) 0 0 ∷ get_or (values_of a) 1 0 ∷ get_or (values_of a) 2 0 ∷ []

unfoldable pub answers_words : List ℕ → List Answer → List ℕ
answers_words [] answers = []
answers_words (w ∷ calls) [] = []
answers_words (w ∷ calls) (a ∷ rest) = answer_words w a ++ answers_words calls rest

-- how many of the answers are no refusals
abbrev pub grants_in : Answer → ℕ
grants_in (Granted s c) = 1
grants_in (Refused n) = 0

unfoldable pub granted_in : List Answer → ℕ
granted_in [] = 0
granted_in (a ∷ rest) = grants_in a + granted_in rest

-- a buffer that has not five words for each call
unfoldable pub is_short : List ℕ → List ℕ → Bool
is_short calls buffer = ltb (length buffer) (5 * length calls)

-- what a list leaves; 11 and nothing done where the buffer is short
abbrev pub left_by : Listed → Outcome
left_by r = record { number = accepted; granted = granted_in r.answers; site = r.site; threads = record { at = r.threads } }

unfoldable pub outcome_of : Served → Site → List Thread → List ℕ → List ℕ → Outcome
outcome_of r site ts calls buffer =
    cond (is_short calls buffer) (record { number = unfit; granted = 0; site = site; threads = record { at = ts } }) (left_by r.listed)

-- the values that are held after it
unfoldable pub held_in : Served → List ℕ → List ℕ → List ℕ → List ℕ
held_in r held calls buffer = cond (is_short calls buffer) held r.held

-- the buffer after it: the words past those of the answers are not touched
unfoldable pub answers_in : Served → List ℕ → List ℕ → List ℕ
answers_in r calls buffer = cond (is_short calls buffer) buffer (answers_words calls r.listed.answers ++ drop (5 * length calls) buffer)
