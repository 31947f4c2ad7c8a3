-- What the argument uses of the plain run, and nothing else: one step's effect on one thread, that cycles rise, that
-- notifications reach those who wait, and that the run ends.
-- Assumes nothing.
use Prim.Native.Nat.{ℕ, suc, ◌≤◌, ◌<◌}
use mathlib.Core.Path.{◌≡◌}
use mathlib.Core.Logic.{◌⊎◌}
use mathlib.Core.Bool.{true, false}
use lib.Dec.{T}
use lib.ListN.{length}
use Rattle.clock.specs.declared.Cycle.{Cycle}
use Rattle.clock.specs.Order.{Before, ◌⊑◌}
use Rattle.model.specs.declared.Model.{Model}
use Rattle.model.specs.Limits.{is_up_to_horizon}
use Rattle.model.specs.Record as view
use Rattle.model.specs.Record.{is_running, view_of}
use Rattle.plain.specs.Step.{place_at}
use Rattle.plain.specs.Run.{is_done}
use Rattle.plain.specs.History.{history_at}
use Rattle.order.proofs.Places.{now_at, record_at, Runs, effect_there, Says, Hears, Happens}

-- the first run of thread k from place n on, its record as it was at n
pub record NextRun (m : Model) (n k : ℕ) (c : Cycle) : Type 0 where
  pub place : ℕ
  pub from : n ≤ place
  pub runs : Runs m place k
  pub now : now_at m place ≡ c
  pub still : record_at m place k ≡ record_at m n k
  pub history : history_at m k place ≡ history_at m k n
  pub quiet : (q : ℕ) → n ≤ q → q < place → Runs m q k → ⊥

-- the first hearing of thread k from place n on, not after a cycle
pub record NextHearing (m : Model) (n k e : ℕ) (since last : Cycle) : Type 0 where
  pub place : ℕ
  pub from : n ≤ place
  pub hears : Hears m place k e since
  pub by : now_at m place ⊑ last
  pub still : record_at m place k ≡ record_at m n k
  pub history : history_at m k place ≡ history_at m k n
  pub quiet : (q : ℕ) → n ≤ q → q < place → Runs m q k → ⊥

-- a place at which the run is done, and stands still
pub record Ending (m : Model) : Type 0 where
  pub place : ℕ
  pub done : is_done m (place_at m place) ≡ true
  pub still : (i : ℕ) → place ≤ i → place_at m i ≡ place_at m place
  pub no_run : (i k : ℕ) → place ≤ i → Runs m i k → ⊥
  pub no_hearing : (i k e : ℕ) (since : Cycle) → place ≤ i → Hears m i k e since → ⊥

pub record PlainFacts (m : Model) : Type 0 where
  pub happens : (i k : ℕ) → k < m.t → Happens m i k
  pub runs_one : (i : ℕ) → ((k : ℕ) × Runs m i k) ⊎ ((k : ℕ) → Runs m i k → ⊥)
  pub variables_run : (i k : ℕ) → Runs m i k → (place_at m (suc i)).variables ≡ (effect_there m i k).variables
  pub variables_idle : (i : ℕ) → ((k : ℕ) → Runs m i k → ⊥) → (place_at m (suc i)).variables ≡ (place_at m i).variables
  pub variables_length : (i : ℕ) → length (place_at m i).variables ≡ 64
  pub segment_below : (i k : ℕ) → k < m.t → (record_at m i k).segment < m.n
  -- no thread of the plain run is running between its steps
  pub unbegun : (i k : ℕ) → k < m.t → is_running (record_at m i k).state ≡ false
  pub now_mono : (i j : ℕ) → i ≤ j → now_at m i ⊑ now_at m j
  -- places in order have stamps in order
  pub stamps : (i j a b : ℕ) → i < j → Runs m i a → Runs m j b → Before (now_at m i) (now_at m j) ⊎ ((now_at m i ≡ now_at m j) × (a < b))
  pub now_before : (i : ℕ) → T (is_up_to_horizon m (now_at m i))
  -- a wait has begun by now
  pub begun : (i k e : ℕ) (since : Cycle) → k < m.t → view_of (record_at m i k).state ≡ view.waits e since → since ⊑ now_at m i
  -- whoever hears, somebody notified in that cycle
  pub source : (i k e : ℕ) (since : Cycle) → Hears m i k e since → (q : ℕ) × (j : ℕ) × (q < i) × Says m q j e × (now_at m q ≡ now_at m i)
  pub next_run : (n k : ℕ) (c : Cycle) → k < m.t → view_of (record_at m n k).state ≡ view.ready c → T (is_up_to_horizon m c)
      → NextRun m n k c
  -- a thread that waits at n hears, at the latest in the cycle of any notification of its event that is not before its wait
  pub next_hearing : (n k e q j : ℕ) (since : Cycle) → k < m.t → view_of (record_at m n k).state ≡ view.waits e since → Says m q j e
      → since ⊑ now_at m q → NextHearing m n k e since (now_at m q)
  pub ending : Ending m
