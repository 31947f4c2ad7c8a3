-- What the argument uses of the kit: footprints and conflicts, distances, earliest, forecast, hazard and the log's places.
-- A later change request proves these laws anew, and the argument stays.
-- Assumes nothing.
use Prim.Native.Nat.{ℕ, ◌≤◌, ◌<◌}
use mathlib.Core.Path.{◌≡◌}
use mathlib.Core.Logic.{◌⊎◌}
use mathlib.Core.Bool.{Bool, true, false}
use mathlib.Core.List.{List, ◌++◌, Memᴰ}
use lib.Dec.{T}
use lib.ListN.{length, get_or}
use Rattle.clock.specs.declared.Cycle.{Cycle}
use Rattle.clock.specs.declared.Bound.{Bound}
use Rattle.clock.specs.declared.Bound.TheVariants.{At}
use Rattle.clock.specs.Cycle.{stamp_at}
use Rattle.clock.specs.Advance.{◌⊕◌, one_delta, no_advance}
use Rattle.clock.specs.Order.{Before, ◌⊑◌, ◌≼◌}
use Rattle.model.specs.declared.Model.{Model}
use Rattle.model.specs.declared.Thread.{Thread}
use Rattle.model.specs.Limits.{cut_time, is_up_to_horizon}
use Rattle.model.specs.Record as view
use Rattle.model.specs.Record.{thread_at, is_live, view_of}
use Rattle.model.specs.Effect.{effect_of}
use Rattle.model.specs.Footprint.{writes_in, uses_in, has, notifies_in}
use Rattle.model.specs.Rules.{model_fault}
use Rattle.model_effect.proofs.FrameLaws.{Agree, Alike}
use Rattle.tables.specs.Word.{distance_in, HoldsDistances}
use Rattle.early.specs.declared.Notification.{Notification}
use Rattle.early.specs.Forecast.{forecast_of}
use Rattle.early.specs.Hazard.{threads_conflict, is_sooner, hazard}
use Rattle.early.specs.Fit.{is_fit_cycle, is_fit_thread, is_unfit_words}
use Rattle.order.proofs.Places.{Runs, now_at, record_at}

-- list b begins with list a
abbrev pub Begins : {A : Type 0} → List A → List A → Type 0
Begins {A} a b = (rest : List A) × (b ≡ a ++ rest)

-- thread i in segment r and thread j in segment s touch variable v, and one of them writes it
abbrev pub Shared : Model → ℕ → ℕ → ℕ → ℕ → ℕ → Type 0
Shared m i r j s v = (T (writes_in m i r v) × T (uses_in m j s v)) ⊎ (T (uses_in m i r v) × T (writes_in m j s v))

-- thread k waits on y's event, not after y: it could hear y
pub record Hearable (m : Model) (l : List Notification) (ts : List Thread) (k : ℕ) (y : Notification) : Type 0 where
  pub below : k < m.t
  pub since : Cycle
  pub waits : view_of (thread_at ts k).state ≡ view.waits y.event since
  pub logged : Memᴰ y l
  pub begun : since ⊑ y.cycle

-- what an earliest of b comes from, for thread k: strictly sooner if it waits
pub data Source (m : Model) (l : List Notification) (ts : List Thread) (k : ℕ) (b : Cycle) : Type 0 where
  from_ready : (j : ℕ) (c : Cycle) → j < m.t → view_of (thread_at ts j).state ≡ view.ready c → c ⊑ b
      → ((e : ℕ) (since : Cycle) → view_of (thread_at ts k).state ≡ view.waits e since → Before c b) → Source m l ts k b
  from_logged : (j : ℕ) (y : Notification) → Hearable m l ts j y → Before y.cycle b → Source m l ts k b

-- thread j's bound at segment s: its earliest plus the distance
abbrev pub bound_in : Model → List ℕ → List Thread → (ℕ → Bound) → ℕ → ℕ → Bound
bound_in m ws ts earliest j s = earliest j ⊕ distance_in m ws (thread_at ts j).segment s

-- L1: what a thread does in a segment, on variables of which there are 64
pub record Footprints (m : Model) : Type 0 where
  pub writes_uses : (k s v : ℕ) → T (writes_in m k s v) → T (uses_in m k s v)
  pub sized : (k s : ℕ) (c : Cycle) (x : List ℕ) → length (effect_of m k s c x).variables ≡ length x
  pub frame : (k s : ℕ) (c : Cycle) (x : List ℕ) (v : ℕ) → writes_in m k s v ≡ false → get_or (effect_of m k s c x).variables v 0 ≡ get_or x v 0
  -- variables that agree on what it uses give the same notifications, the same record, and agree on what it uses after
  pub local : (k s : ℕ) (c : Cycle) (x y : List ℕ) → Agree (λ v. T (uses_in m k s v)) x y
      → Alike (λ v. T (uses_in m k s v)) (effect_of m k s c x) (effect_of m k s c y)

-- L1: the conflicts that the marks must hold, and they may hold more
pub record Needed (m : Model) (marks : List (List Bool)) : Type 1 where
  -- the segments that a thread can run
  pub Reaches : ℕ → ℕ → Type 0
  pub reached : (i k : ℕ) → Runs m i k → Reaches k (record_at m i k).segment
  -- different threads that touch a variable which one of them writes are in conflict
  pub marked : (i r j s v : ℕ) → (i ≡ j → ⊥) → Reaches i r → Reaches j s → Shared m i r j s v → T (threads_conflict m marks i r j s)

-- L2 and L3: distances along what a thread does, below the horizon; and what it lists as notifying
pub record Distances (m : Model) (ws : List ℕ) : Type 0 where
  -- the words are the least advances over all paths
  pub holds : HoldsDistances m ws
  -- thread k runs segment a at c and is ready at d, in segment b: what is bounded by y ⊕ D(r, a) before, is bounded so after
  pub over_wait : (k r a : ℕ) (c d : Cycle) (x : List ℕ) (y : Bound) → k < m.t → r < m.n → a < m.n
      → view_of (effect_of m k a c x).thread.state ≡ view.ready d → T (is_up_to_horizon m d) → y ⊕ distance_in m ws r a ≼ At c
      → y ⊕ distance_in m ws r (effect_of m k a c x).thread.segment ≼ At d
  -- it waits, since c, in segment b, and its event is heard at a cycle not before c
  pub over_event : (k r a e : ℕ) (c since h : Cycle) (x : List ℕ) (y : Bound) → k < m.t → r < m.n → a < m.n
      → view_of (effect_of m k a c x).thread.state ≡ view.waits e since → since ⊑ h → T (is_up_to_horizon m h) → y ⊕ distance_in m ws r a ≼ At c
      → y ⊕ distance_in m ws r (effect_of m k a c x).thread.segment ≼ At h ⊕ one_delta
  -- it is ready at d: what lies ahead from there up to the horizon, lay no later ahead from c
  pub from_wait : (k a s : ℕ) (c d z : Cycle) (x : List ℕ) → a < m.n → s < m.n → view_of (effect_of m k a c x).thread.state ≡ view.ready d
      → T (is_up_to_horizon m z) → At d ⊕ distance_in m ws (effect_of m k a c x).thread.segment s ≼ At z → At c ⊕ distance_in m ws a s ≼ At z
  -- it waits: so from the delta after c
  pub from_event : (k a e s : ℕ) (c since z : Cycle) (x : List ℕ) → a < m.n → s < m.n → view_of (effect_of m k a c x).thread.state ≡ view.waits e since
      → T (is_up_to_horizon m z) → (At c ⊕ one_delta) ⊕ distance_in m ws (effect_of m k a c x).thread.segment s ≼ At z → At c ⊕ distance_in m ws a s ≼ At z
  pub self : (r : ℕ) → r < m.n → distance_in m ws r r ≡ no_advance
  pub listed : (k s : ℕ) (c : Cycle) (x : List ℕ) (e : ℕ) → T (has (effect_of m k s c x).notified e) → T (notifies_in m k s e)
  pub listed_below : (k s e : ℕ) → s < m.n → T (notifies_in m k s e) → e < m.e
  -- a wait begins at the cycle in which its segment runs
  pub wait_begins : (k s : ℕ) (c : Cycle) (x : List ℕ) (e : ℕ) (since : Cycle)
      → view_of (effect_of m k s c x).thread.state ≡ view.waits e since → since ≡ c

-- L4 and L5: earliest is sound at its links, and attained; forecast and hazard read by it. For every log and records.
pub record Forecasts (m : Model) (marks : List (List Bool)) (ws : List ℕ) (l : List Notification) (ts : List Thread) : Type 0 where
  pub earliest : ℕ → Bound
  pub ready : (k : ℕ) (c : Cycle) → k < m.t → view_of (thread_at ts k).state ≡ view.ready c → earliest k ≡ At c
  pub heard : (k : ℕ) (y : Notification) → Hearable m l ts k y → earliest k ≼ At y.cycle ⊕ one_delta
  pub linked : (k e : ℕ) (since : Cycle) (j s : ℕ) (x : Cycle) → k < m.t → view_of (thread_at ts k).state ≡ view.waits e since
      → j < m.t → T (is_live (thread_at ts j).state) → s < m.n → T (notifies_in m j s e) → since ⊑ x
      → bound_in m ws ts earliest j s ≼ At x → earliest k ≼ At x ⊕ one_delta
  -- a finite earliest comes from a ready thread, or from a logged notification that a waiting thread can hear
  pub attained : (k : ℕ) (b : Cycle) → k < m.t → earliest k ≡ At b → Source m l ts k b
  pub forecast_below : (e j s : ℕ) → j < m.t → T (is_live (thread_at ts j).state) → s < m.n → T (notifies_in m j s e)
      → forecast_of m ws l ts e ≼ bound_in m ws ts earliest j s
  pub forecast_attained : (e : ℕ) (b : Cycle) → forecast_of m ws l ts e ≡ At b
      → (j : ℕ) × (s : ℕ) × (j < m.t) × T (is_live (thread_at ts j).state) × (bound_in m ws ts earliest j s ≡ At b)
  pub no_hazard : (i : ℕ) (c : Cycle) → hazard m marks ws l ts i c ≡ false
      → (j s : ℕ) → j < m.t → (j ≡ i → ⊥) → T (is_live (thread_at ts j).state) → s < m.n → T (threads_conflict m marks i (thread_at ts i).segment j s)
      → is_sooner (bound_in m ws ts earliest j s) j (stamp_at c i) ≡ false
  pub some_hazard : (i : ℕ) (c : Cycle) → hazard m marks ws l ts i c ≡ true
      → (j : ℕ) × (s : ℕ) × (j < m.t) × (j ≡ i → ⊥) × T (is_live (thread_at ts j).state) × T (is_sooner (bound_in m ws ts earliest j s) j (stamp_at c i))

-- L6 and the ranges of number 11: what a fit state is made of
pub record Ranges (m : Model) (ws : List ℕ) : Type 0 where
  pub model : model_fault m ≡ 0
  pub words : is_unfit_words m ws ≡ false
  pub events : m.e ≤ 32
  pub fit_record : (i k : ℕ) → k < m.t → T (is_fit_thread m k (record_at m i k))
  pub fit_now : (i : ℕ) → T (is_fit_cycle cut_time (now_at m i))

pub record KitLaws (m : Model) (marks : List (List Bool)) (ws : List ℕ) : Type 1 where
  pub footprints : Footprints m
  pub needed : Needed m marks
  pub distances : Distances m ws
  pub ranges : Ranges m ws
  pub forecasts : (l : List Notification) (ts : List Thread) → Forecasts m marks ws l ts
