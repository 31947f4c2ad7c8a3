-- The places of the plain run, as the argument speaks of them: which thread a place runs, what it notifies, and who
-- hears at the close of a cycle. A place is a step number.
-- Assumes nothing.
use Prim.Native.Nat.{ℕ, suc, ◌≤◌, ◌<◌}
use mathlib.Core.Path.{◌≡◌}
use mathlib.Core.List.{[], ◌∷◌}
use lib.Dec.{T}
use Rattle.clock.specs.declared.Cycle.{Cycle}
use Rattle.clock.specs.declared.Wait.TheVariants as wait
use Rattle.clock.specs.Order.{◌⊑◌}
use Rattle.clock.specs.Wait.{wait_ends}
use Rattle.model.specs.declared.Model.{Model}
use Rattle.model.specs.declared.Thread.{Thread}
use Rattle.model.specs.Record as view
use Rattle.model.specs.Record.{thread_at, state_after, view_of}
use Rattle.model.specs.Effect.{Effect, effect_of}
use Rattle.model.specs.Footprint.{has}
use Rattle.plain.specs.Step.{place_at}
use Rattle.plain.specs.History.{ran, heard, items_at}

abbrev pub now_at : Model → ℕ → Cycle
now_at m i = (place_at m i).now

abbrev pub record_at : Model → ℕ → ℕ → Thread
record_at m i k = thread_at (place_at m i).threads k

-- place i runs thread k
pub record Runs (m : Model) (i k : ℕ) : Type 0 where
  pub below : k < m.t
  pub turn : (place_at m i).turn ≡ k
  pub ready : view_of (record_at m i k).state ≡ view.ready (now_at m i)

-- what thread k does there
abbrev pub effect_there : Model → ℕ → ℕ → Effect
effect_there m i k = effect_of m k (record_at m i k).segment (now_at m i) (place_at m i).variables

-- place i runs thread k, which notifies e
pub record Says (m : Model) (i k e : ℕ) : Type 0 where
  pub runs : Runs m i k
  pub notifies : T (has (effect_there m i k).notified e)

-- a record in segment s that hears at c
abbrev pub woken_in : ℕ → Cycle → Thread
woken_in s c = record { segment = s; state = state_after (wait_ends wait.Event c) }

-- place i closes its cycle, and thread k, waiting on e since a cycle, hears
pub record Hears (m : Model) (i k e : ℕ) (since : Cycle) : Type 0 where
  pub below : k < m.t
  pub closes : m.t ≤ (place_at m i).turn
  pub waits : view_of (record_at m i k).state ≡ view.waits e since
  pub notified : T (has (place_at m i).notified e)
  pub begun : since ⊑ now_at m i

-- what place i does to thread k, and to its history
pub data Happens (m : Model) (i k : ℕ) : Type 0 where
  idle : record_at m (suc i) k ≡ record_at m i k → items_at m (place_at m i) k ≡ [] → (Runs m i k → ⊥)
      → ((e : ℕ) (since : Cycle) → Hears m i k e since → ⊥) → Happens m i k
  runs : Runs m i k → record_at m (suc i) k ≡ (effect_there m i k).thread
      → items_at m (place_at m i) k ≡ ran (record_at m i k).segment (now_at m i) ∷ [] → Happens m i k
  hears : (e : ℕ) (since : Cycle) → Hears m i k e since → record_at m (suc i) k ≡ woken_in (record_at m i k).segment (now_at m i)
      → items_at m (place_at m i) k ≡ heard e (now_at m i) ∷ [] → Happens m i k
