-- Document 02, slip 6: "takes 64 words and works out one segment's row when it is needed, with the same distances".
-- The 64 words are the steps of all segments; the row of a segment is made from them.
use Rattle.std.specs.Prelude.{ℕ, ◌+◌, ◌*◌, ◌≤◌, ◌<◌, ◌≡◌, Bool, true, false, cond, List, ◌++◌, ltb, length, get_or, drop}
use Rattle.base.specs.Index.{tabulate}
use Rattle.model.specs.declared.Model.{Model}
use Rattle.model.specs.Values.{segment_at}
use Rattle.model.specs.Rules.{model_fault}
use Rattle.tables.specs.Word.{words_of}
use Rattle.tables_distance.specs.declared.Steps.{Steps}
use Rattle.tables_distance.specs.Store.{steps_of}

-- a step of a closer in one word: its word, then the two next segments
unfoldable pub step_word : Steps → ℕ
step_word g = g.word * 65536 + g.a * 256 + g.b

-- the steps of all 64 places of a model
unfoldable pub step_words : Model → List ℕ
step_words m = tabulate 64 0 (λ s. step_word (steps_of (segment_at m s).closer))

-- a buffer with them stored; one that is too short stays
unfoldable pub steps_in : Model → List ℕ → List ℕ
steps_in m buffer = cond (ltb (length buffer) 64) buffer (step_words m ++ drop 64 buffer)

-- the first N words of a row are the distances from segment r
pub record IsRow (m : Model) (r : ℕ) (row : List ℕ) : Type 0 where
  pub at : (s : ℕ) → s < m.n → get_or row s 0 ≡ get_or (words_of m) (r * m.n + s) 0

-- How a call knows the distances ws of n segments: by lent words that are ws; or by the steps of a model that keeps the file rules, with room for one row
pub record BySteps (n : ℕ) (ws lent : List ℕ) (size : ℕ) : Type 0 where
  pub model : Model
  pub kept : model_fault model ≡ 0
  pub count : n ≡ model.n
  pub words : ws ≡ words_of model
  pub steps : lent ≡ step_words model
  pub room : 64 ≤ size

pub record Knows (n : ℕ) (ws : List ℕ) (by_steps : Bool) (lent : List ℕ) (room : ℕ) : Type 0 where
  pub words : by_steps ≡ false → lent ≡ ws
  pub steps : by_steps ≡ true → BySteps n ws lent room
