-- Private contracts of the plain run's code: which threads a cycle has to look at.
-- A thread that is ready at a delta after 0 became ready in the delta before; all others are ready at delta 0, or wait, or are over.
use Rattle.std.specs.Prelude.{ℕ, ◌%◌, ◌<◌, ◌≤◌, ◌≡◌, ◌⊎◌, Bool, true, false, List, length, get_or}
use Rattle.clock.specs.declared.Cycle.{Cycle}
use Rattle.model.specs.Record.{awaits, awaited_by}
use Rattle.plain_words.specs.Reach.{Inside}
use Rattle.plain_state.specs.Words.{waiting, state_from, wake_word}

-- thread k is from a thread on and before another
abbrev pub Between : ℕ → ℕ → ℕ → Type 0
Between from to k = (from ≤ k) × (k < to)

-- a word of a thread that is ready at a delta after 0
abbrev pub Late : ℕ → Type 0
Late w = (w < waiting) × (0 < w % 1024)

-- a word of a thread that waits for an event
abbrev pub WaitsFor : ℕ → ℕ → Type 0
WaitsFor w e = (c : Cycle) × (awaited_by (state_from w) ≡ awaits e c)

-- the least of some words and a number
pub record IsLeast (ws : List ℕ) (from to start r : ℕ) : Type 0 where
  pub below : r ≤ start
  pub each : (k : ℕ) → Between from to k → r ≤ get_or ws k 0
  pub one : (r ≡ start) ⊎ ((k : ℕ) × (Between from to k) × (r ≡ get_or ws k 0))

-- the words us after a cycle's end: some of the words ws are woken, the others kept, and r is the least of the woken
pub record Woken (fs : List Bool) (now from to : ℕ) (ws us : List ℕ) (r : ℕ) : Type 0 where
  pub places : length us ≡ 32
  pub least : IsLeast us from to 18446744073709551615 r
  pub words : (k : ℕ) → Between from to k → get_or us k 0 ≡ wake_word fs now (get_or ws k 0)
  pub rest : (k : ℕ) → (Between from to k → ⊥) → get_or us k 0 ≡ get_or ws k 0

-- every thread of a cycle is among these, and every one ready at a delta after 0
pub record IsDue (t : ℕ) (ws : List ℕ) (now from to : ℕ) : Type 0 where
  pub order : from ≤ to
  pub inside : to ≤ t
  pub due : (k : ℕ) → k < t → get_or ws k 0 ≡ now → Between from to k
  pub late : (k : ℕ) → k < t → Late (get_or ws k 0) → Between from to k

-- where a cycle begins: nothing is notified, and the range of each event holds the threads that wait for it
pub record Begins (t : ℕ) (ws : List ℕ) (fs : List Bool) (rs : List ℕ) (now from to : ℕ) : Type 0 where
  pub threads : IsDue t ws now from to
  pub size : length rs ≡ 66
  pub awaited : (k e : ℕ) → k < t → e < 32 → WaitsFor (get_or ws k 0) e → Inside rs e k
  pub quiet : (e : ℕ) → get_or fs e false ≡ true → ⊥

-- where its threads have run: who waits for a notified event is among them, or reached
pub record Ends (t : ℕ) (ws : List ℕ) (fs : List Bool) (rs : List ℕ) (now from to : ℕ) : Type 0 where
  pub order : from ≤ to
  pub inside : to ≤ t
  pub size : length rs ≡ 66
  pub awaited : (k e : ℕ) → k < t → e < 32 → WaitsFor (get_or ws k 0) e → Inside rs e k
  pub told : (k e : ℕ) → k < t → e < 32 → WaitsFor (get_or ws k 0) e → get_or fs e false ≡ true → Between from to k ⊎ Inside rs 32 k
  pub late : (k : ℕ) → k < t → Late (get_or ws k 0) → Between from to k
