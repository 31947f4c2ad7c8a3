-- Private contracts of the plain run's code: what the threads of a cycle do, one after the other, to the arrays of words.
-- The words of a model are given for each thread, as it runs them.
use Rattle.std.specs.Prelude.{ℕ, zero, suc, ◌+◌, ◌/◌, ◌%◌, Bool, cond, ◌&&◌, List, ltb, eqb, get_or, set}
use Rattle.plain_words.specs.Unpack.{end_by, follow_by}
use Rattle.plain_words.specs.Reach.{widened}
use Rattle.plain_words.specs.Shared.{Shared, shared, execute_by}
use Rattle.plain_state.specs.Words.{close_word}

-- what the threads share, their states as words, their segments, and how many segments have run
pub record Locals : Type 0 where
  pub shared : Shared
  pub state : List ℕ
  pub segments : List ℕ
  pub n : ℕ

abbrev pub locals : List ℕ → List ℕ → List ℕ → List Bool → List ℕ → ℕ → Locals
locals v ws ss fs rs n = record { shared = shared v fs rs; state = ws; segments = ss; n = n }

-- the range of the event for which thread k waits, where its segment ends so
unfoldable pub waited_by : ℕ → ℕ → List ℕ → List ℕ
waited_by end k rs = cond (eqb (end % 4) 2) (widened (end / 1024 % 32) k (k + 1) rs) rs

-- thread k runs its segment whole
abbrev pub ran_by : (ℕ → List ℕ) → ℕ → ℕ → Locals → Locals
ran_by words now k x =
    let code = words k in
    let s = get_or x.segments k 0 in
    let y = execute_by code s x.shared in
    record {
      shared = shared y.variables y.told (waited_by (end_by code s) k y.ranges);
      state = set x.state k (close_word (end_by code s) now);
      segments = set x.segments k (follow_by code s y.variables);
      n = x.n + 1;
    }

-- thread k is looked at: it runs if it is ready in this cycle and the budget has room
unfoldable pub turn_on : (ℕ → List ℕ) → ℕ → ℕ → ℕ → Locals → Locals
turn_on words now budget k x = cond (eqb (get_or x.state k 0) now && ltb x.n budget) (ran_by words now k x) x

-- the first k threads, lowest number first
unfoldable pub turns_to : (ℕ → List ℕ) → ℕ → ℕ → ℕ → Locals → Locals
turns_to words now budget zero x = x
turns_to words now budget (suc k) x = turn_on words now budget k (turns_to words now budget k x)
