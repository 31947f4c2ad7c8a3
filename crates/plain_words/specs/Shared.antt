-- A segment run on words, whatever they are: one fold of its statements over what the threads of a cycle share.
use Rattle.std.specs.Prelude.{ℕ, zero, suc, ◌+◌, ◌*◌, ◌%◌, Bool, true, List, [], ◌∷◌, get_or, set}
use Rattle.model.specs.Statement.{execute_op, notified_by_op}
use Rattle.plain_words.specs.Unpack.{op_of, end_by, size_by}
use Rattle.plain_words.specs.Reach.{widened}

-- the variables, marks of the events notified in this cycle, ranges of threads
pub record Shared : Type 0 where
  pub variables : List ℕ
  pub told : List Bool
  pub ranges : List ℕ

abbrev pub shared : List ℕ → List Bool → List ℕ → Shared
shared v fs rs = record { variables = v; told = fs; ranges = rs }

-- the marks with those of the events es added
unfoldable pub marked : List Bool → List ℕ → List Bool
marked fs [] = fs
marked fs (e ∷ es) = marked (set fs e true) es

-- a notification reaches the threads that wait for its event
unfoldable pub reached : List ℕ → List ℕ → List ℕ
reached rs [] = rs
reached rs (e ∷ es) = reached (widened 32 (get_or rs e 0) (get_or rs (33 + e) 0) rs) es

-- one statement: the variable that it sets, the event that it notifies
unfoldable pub execute_word : ℕ → Shared → Shared
execute_word w x =
    let es = notified_by_op (op_of w) [] in
    shared (execute_op (op_of w) x.variables) (marked x.told es) (reached x.ranges es)

-- j statements from a place on
unfoldable pub execute_to : List ℕ → ℕ → ℕ → Shared → Shared
execute_to code base zero x = x
execute_to code base (suc j) x = execute_word (get_or code (base + j) 0) (execute_to code base j x)

-- the statements of the segment in row s
unfoldable pub execute_by : List ℕ → ℕ → Shared → Shared
execute_by code s x = execute_to code (34 * (s % 128) + 2) (size_by (end_by code s)) x
