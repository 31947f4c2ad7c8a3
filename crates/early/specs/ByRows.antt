-- Document 02, slip 6: "a second entry, for reading and for requests, that takes 64 words and works out one segment's row when it is needed".
-- The words are no argument of what it answers, only how many they are.
use Rattle.std.specs.Prelude.{ℕ, ◌≡◌, Bool, cond, List, ltb, length, drop}
use Rattle.model.specs.declared.Model.{Model}
use Rattle.model.specs.declared.Thread.{Thread}
use Rattle.model.specs.Refusal.{unfit, short_table}
use Rattle.tables.specs.Word.{words_of}
use Rattle.tables.specs.Outcome.{row_words}
use Rattle.early.specs.declared.Site.{Site}
use Rattle.early.specs.Fit.{is_unfit_state}
use Rattle.early.specs.Request.{Requested, refused_with, request_fit, Listed, listed_by}

-- A request with so many words lent: "16 applies below 64 words, in a request straight after 11, which has no distance words to test", then "the same
-- distances, answers and states after as the full table that the reader makes".
unfoldable pub request_by_rows : Model → List (List Bool) → ℕ → Site → List Thread → ℕ → Requested
request_by_rows m marks lent site ts k =
    cond (is_unfit_state m site ts) (refused_with unfit site ts)
    (cond (ltb lent row_words) (refused_with short_table site ts) (request_fit m marks (words_of m) site ts k))

-- "they may hold anything after any call, and the contract names them as left free": the words are as many as before, and those past
-- the first 64 stay
pub record LeftFree (before after : List ℕ) : Type 0 where
  pub as_many : length after ≡ length before
  pub past : drop row_words after ≡ drop row_words before

-- a list of requests by rows
abbrev pub requests_by_rows : Model → List (List Bool) → ℕ → Site → List Thread → List ℕ → Listed
requests_by_rows m marks lent site ts ks = listed_by (request_by_rows m marks lent) site ts ks
