-- What the plain run uses of the model's definitions beside the model's own laws: records, effects, the horizon and lists of events.
-- They are opened here and in no later file.
--     thread-path, thread_at-at, thread_at-set, thread_at-other, thread_at-past, thread_at-map     one record of a list
--     ready_cycle→ready, ready→state, waits→state, state_after-ready, state_after-not-waits     which state it is
--     running-cycle, state_after-unbegun, effect_of-unbegun     which are running
--     goes_to-next, closed_at-next     the next segment is a step of the graph
--     effect_of-later, effect_of-waits     a thread that has run is ready later, or waits since now
--     state_after-delta, heard-time, heard-delta     what stays in range
--     horizon→<, <→horizon, horizon-mono     up to the horizon
--     has-append, append-has     an event among two lists
use Prim.Native.Nat.{ℕ, ◌<◌, ◌≤◌}
use mathlib.Core.Path.{◌≡◌, refl, ap, sym, ◌∙◌, subst}
use mathlib.Core.Logic.{◌⊎◌, inl, inr}
use mathlib.Core.Bool.{true, false, not, ◌||◌}
use mathlib.Core.List.{List, [], ◌∷◌, ◌++◌, map}
use native.Mathlib.Omega.{arith}
use lib.Dec.{T, eqb, ltb→lt, lt→ltb}
use lib.ListN.{length, get_or, set, get_or-map, get_or-eq_default}
use lib.Seq.{get_or-set_same, get_or-set_other}
use Rattle.base.proofs.BoolLaws.{or→either, either→or, eq→eqb}
use Rattle.clock.specs.declared.Cycle.{Cycle}
use Rattle.clock.specs.declared.Step.{Step}
use Rattle.clock.specs.declared.Step.TheVariants as step
use Rattle.clock.specs.declared.Wait.{Wait}
use Rattle.clock.specs.declared.Wait.TheVariants as wait
use Rattle.clock.specs.declared.Bound.TheVariants.{At}
use Rattle.clock.specs.Order.{Before, ◌⊑◌, sooner, same_time}
use Rattle.clock.specs.Wait.{last_delta, wait_ends}
use Rattle.clock.proofs.WaitLaws.{wait_ends-later, wait_ends-overrun, wait_ends-delta, wait_ends-event-time}
use Rattle.model.specs.declared.Next.{Next}
use Rattle.model.specs.declared.Closer.{Closer}
use Rattle.model.specs.declared.Closer.TheVariants.{End, Time, Event}
use Rattle.model.specs.declared.Model.{Model}
use Rattle.model.specs.declared.State.{State}
use Rattle.model.specs.declared.State.TheVariants.{Ended, Overrun, Ready, Waiting, Running}
use Rattle.model.specs.declared.Thread.{Thread}
use Rattle.model.specs.Limits.{end_time, is_up_to_horizon, is_bound_up_to_horizon}
use Rattle.model.specs.Record as view
use Rattle.model.specs.Record.{awaits, no_thread, thread_at, cycle_of, is_running, state_after, View, view_of, ready_cycle, ready_cycle_of, is_live_view, awaited_of}
use Rattle.model.specs.Values.{segment_for}
use Rattle.model.specs.Effect.{next_of, closed_at, effect_in, effect_of}
use Rattle.model.specs.Footprint.{has}
use Rattle.model.specs.Reach.{goes_to, steps_to}
use Rattle.model_effect.proofs.EffectLaws.{next_of-either}
use Rattle.model_effect.proofs.FootprintLaws as events

pub thread-path : {a b : Thread} → a.segment ≡ b.segment → a.state ≡ b.state → a ≡ b
thread-path p q = λ i. record { segment = p i; state = q i }

module _ (ts : List Thread) where
  pub thread_at-at : (k : ℕ) → thread_at ts k ≡ get_or ts k no_thread
  unfolding thread_at
  thread_at-at k = refl

  pub thread_at-set : (k : ℕ) (t : Thread) → k < length ts → thread_at (set ts k t) k ≡ t
  unfolding thread_at
  thread_at-set k t h = get_or-set_same ts k t no_thread h

  pub thread_at-other : (j k : ℕ) (t : Thread) → (k ≡ j → ⊥) → thread_at (set ts j t) k ≡ thread_at ts k
  unfolding thread_at
  thread_at-other j k t other = get_or-set_other ts j k t no_thread other

  pub thread_at-past : (k : ℕ) → length ts ≤ k → thread_at ts k ≡ no_thread
  unfolding thread_at
  thread_at-past k h = get_or-eq_default ts no_thread h

  pub thread_at-map : (f : Thread → Thread) → f no_thread ≡ no_thread → (k : ℕ) → thread_at (map f ts) k ≡ f (thread_at ts k)
  unfolding thread_at
  thread_at-map f e k = ap (λ (d : Thread). get_or (map f ts) k d) (sym e) ∙ get_or-map f ts k no_thread

pub ready-same : {c d : Cycle} → view.ready c ≡ view.ready d → c ≡ d
ready-same e = cc

pub ready-not-waits : {v : View} {e : ℕ} {c d : Cycle} → v ≡ view.ready c → v ≡ view.waits e d → ⊥
ready-not-waits p q = let z : ◌≡◌ {A = ℕ} 0 1 = cc in omega arith

pub waits-event : {v : View} {f e : ℕ} {c d : Cycle} → v ≡ view.waits f c → v ≡ view.waits e d → f ≡ e
waits-event p q = cc

pub waits-since : {v : View} {f e : ℕ} {c d : Cycle} → v ≡ view.waits f c → v ≡ view.waits e d → c ≡ d
waits-since p q = cc

pub ready_cycle→ready : (v : View) (c : Cycle) → ready_cycle_of v ≡ At c → v ≡ view.ready c
ready_cycle→ready view.idle c e = absurd (let z : ◌≡◌ {A = ℕ} 0 1 = cc in omega arith)
ready_cycle→ready (view.ready d) c e = cc
ready_cycle→ready (view.waits f d) c e = absurd (let z : ◌≡◌ {A = ℕ} 0 1 = cc in omega arith)

pub awaits→waits : (v : View) (e : ℕ) (since : Cycle) → awaited_of v ≡ awaits e since → v ≡ view.waits e since
awaits→waits view.idle e since p = absurd (let z : ◌≡◌ {A = ℕ} 0 1 = cc in omega arith)
awaits→waits (view.ready d) e since p = absurd (let z : ◌≡◌ {A = ℕ} 0 1 = cc in omega arith)
awaits→waits (view.waits f d) e since p = cc

pub not-live→idle : (v : View) → T (not (is_live_view v)) → v ≡ view.idle
not-live→idle view.idle t = refl
not-live→idle (view.ready c) t = absurd t
not-live→idle (view.waits e c) t = absurd t

-- a ready state that is not running, and a waiting one, are those that their view shows
pub ready→state : (s : State) (c : Cycle) → is_running s ≡ false → view_of s ≡ view.ready c → s ≡ Ready c
ready→state (Ended d) c r e = absurd (let z : ◌≡◌ {A = ℕ} 0 1 = cc in omega arith)
ready→state (Overrun d) c r e = absurd (let z : ◌≡◌ {A = ℕ} 0 1 = cc in omega arith)
ready→state (Ready d) c r e = cc
ready→state (Waiting f d) c r e = absurd (let z : ◌≡◌ {A = ℕ} 0 1 = cc in omega arith)
ready→state (Running d) c r e = absurd (subst T r tt)

pub waits→state : (s : State) (f : ℕ) (c : Cycle) → view_of s ≡ view.waits f c → s ≡ Waiting f c
waits→state (Ended d) f c e = absurd (let z : ◌≡◌ {A = ℕ} 0 1 = cc in omega arith)
waits→state (Overrun d) f c e = absurd (let z : ◌≡◌ {A = ℕ} 0 1 = cc in omega arith)
waits→state (Ready d) f c e = absurd (let z : ◌≡◌ {A = ℕ} 0 1 = cc in omega arith)
waits→state (Waiting g d) f c e = cc
waits→state (Running d) f c e = absurd (let z : ◌≡◌ {A = ℕ} 0 1 = cc in omega arith)

-- the cycle that such a state carries
pub ready-cycle : (s : State) (c : Cycle) → view_of s ≡ view.ready c → cycle_of s ≡ c
ready-cycle (Ended d) c e = absurd (let z : ◌≡◌ {A = ℕ} 0 1 = cc in omega arith)
ready-cycle (Overrun d) c e = absurd (let z : ◌≡◌ {A = ℕ} 0 1 = cc in omega arith)
ready-cycle (Ready d) c e = cc
ready-cycle (Waiting f d) c e = absurd (let z : ◌≡◌ {A = ℕ} 0 1 = cc in omega arith)
ready-cycle (Running d) c e = cc

pub waits-cycle : (s : State) (f : ℕ) (c : Cycle) → view_of s ≡ view.waits f c → cycle_of s ≡ c
waits-cycle s f c e = ap cycle_of (waits→state s f c e)

pub state_after-ready : (z : Step) (c : Cycle) → view_of (state_after z) ≡ view.ready c → z ≡ step.Ready c
state_after-ready (step.Ready d) c e = cc
state_after-ready (step.Overrun d) c e = absurd (let z : ◌≡◌ {A = ℕ} 0 1 = cc in omega arith)

pub state_after-not-waits : (z : Step) (e : ℕ) (c : Cycle) → view_of (state_after z) ≡ view.waits e c → ⊥
state_after-not-waits (step.Ready d) v c e = let z : ◌≡◌ {A = ℕ} 0 1 = cc in omega arith
state_after-not-waits (step.Overrun d) v c e = let z : ◌≡◌ {A = ℕ} 0 1 = cc in omega arith

-- a running thread is ready at the cycle that it carries
pub running-cycle : (s : State) → is_running s ≡ true → ready_cycle s ≡ At (cycle_of s)
running-cycle (Ended d) r = absurd (subst T (sym r) tt)
running-cycle (Overrun d) r = absurd (subst T (sym r) tt)
running-cycle (Ready d) r = refl
running-cycle (Waiting f d) r = absurd (subst T (sym r) tt)
running-cycle (Running d) r = refl

-- no wait, and no closer, leaves a thread running
pub state_after-unbegun : (z : Step) → is_running (state_after z) ≡ false
state_after-unbegun (step.Ready d) = refl
state_after-unbegun (step.Overrun d) = refl

closed_at-unbegun : (s : ℕ) (g : Closer) (c : Cycle) (v : List ℕ) → is_running (closed_at s g c v).state ≡ false
unfolding closed_at
closed_at-unbegun s End c v = refl
closed_at-unbegun s (Time k x) c v = state_after-unbegun (wait_ends (wait.Time k) c)
closed_at-unbegun s (Event w x) c v = refl

pub goes_to-next : (x : Next) (v : List ℕ) → T (goes_to x (next_of x v))
unfolding goes_to
goes_to-next x v = go (next_of-either x v)
  where
    go : (next_of x v ≡ x.a) ⊎ (next_of x v ≡ x.b) → T (goes_to x (next_of x v))
    go (inl e) = either→or (eqb x.a (next_of x v)) (eqb x.b (next_of x v)) (inl (eq→eqb x.a (next_of x v) (sym e)))
    go (inr e) = either→or (eqb x.a (next_of x v)) (eqb x.b (next_of x v)) (inr (eq→eqb x.b (next_of x v) (sym e)))

-- a thread that ends stays where it is
pub closed_at-next : (s : ℕ) (g : Closer) (c : Cycle) (v : List ℕ) → ((closed_at s g c v).segment ≡ s) ⊎ T (steps_to g (closed_at s g c v).segment)
unfolding closed_at steps_to
closed_at-next s End c v = inl refl
closed_at-next s (Time k x) c v = inr (goes_to-next x v)
closed_at-next s (Event w x) c v = inr (goes_to-next x v)

closed_at-later : (s : ℕ) (g : Closer) (c d : Cycle) (v : List ℕ) → view_of (closed_at s g c v).state ≡ view.ready d → Before c d
unfolding closed_at
closed_at-later s End c d v e = absurd (let z : ◌≡◌ {A = ℕ} 0 1 = cc in omega arith)
closed_at-later s (Time k x) c d v e = wait_ends-later (wait.Time k) c (state_after-ready (wait_ends (wait.Time k) c) d e)
closed_at-later s (Event w x) c d v e = absurd (let z : ◌≡◌ {A = ℕ} 0 1 = cc in omega arith)

closed_at-waits : (s : ℕ) (g : Closer) (c d : Cycle) (v : List ℕ) (e : ℕ) → view_of (closed_at s g c v).state ≡ view.waits e d → d ≡ c
unfolding closed_at
closed_at-waits s End c d v w e = absurd (let z : ◌≡◌ {A = ℕ} 0 1 = cc in omega arith)
closed_at-waits s (Time k x) c d v w e = absurd (state_after-not-waits (wait_ends (wait.Time k) c) w d e)
closed_at-waits s (Event u x) c d v w e = cc

-- where the end of a wait leaves a thread: its delta in range, and after an event its time
pub state_after-delta : (w : Wait) (c : Cycle) → c.delta.0 ≤ last_delta → (cycle_of (state_after (wait_ends w c))).delta.0 ≤ last_delta
state_after-delta w c h = go (wait_ends w c) refl
  where
    go : (z : Step) → wait_ends w c ≡ z → (cycle_of (state_after z)).delta.0 ≤ last_delta
    go (step.Ready d) e = wait_ends-delta w c e h
    go (step.Overrun d) e = let f = ap (λ (x : Cycle). x.delta.0) (wait_ends-overrun w c e) in omega arith

pub heard-delta : (c : Cycle) → c.delta.0 ≤ last_delta → (cycle_of (state_after (wait_ends wait.Event c))).delta.0 ≤ last_delta
heard-delta c h = state_after-delta wait.Event c h

pub heard-time : (c : Cycle) → (cycle_of (state_after (wait_ends wait.Event c))).time.0 ≡ c.time.0
heard-time c = go (wait_ends wait.Event c) refl
  where
    go : (z : Step) → wait_ends wait.Event c ≡ z → (cycle_of (state_after z)).time.0 ≡ c.time.0
    go (step.Ready d) e = wait_ends-event-time c e
    go (step.Overrun d) e = ap (λ (x : Cycle). x.time.0) (wait_ends-overrun wait.Event c e)

module _ (m : Model) (k s : ℕ) (c : Cycle) (v : List ℕ) where
  pub effect_of-thread : (effect_of m k s c v).thread ≡ closed_at s (segment_for m k s).closer c (effect_of m k s c v).variables
  unfolding effect_of effect_in
  effect_of-thread = refl

  -- a thread that has run is not running
  pub effect_of-unbegun : is_running (effect_of m k s c v).thread.state ≡ false
  effect_of-unbegun = rw effect_of-thread (closed_at-unbegun s (segment_for m k s).closer c (effect_of m k s c v).variables)

  -- a thread that has run is ready in a later cycle
  pub effect_of-later : (d : Cycle) → view_of (effect_of m k s c v).thread.state ≡ view.ready d → Before c d
  effect_of-later d e =
      closed_at-later s (segment_for m k s).closer c d (effect_of m k s c v).variables (ap (λ (t : Thread). view_of t.state) (sym effect_of-thread) ∙ e)

  -- one that now waits has begun to in this cycle
  pub effect_of-waits : (e : ℕ) (d : Cycle) → view_of (effect_of m k s c v).thread.state ≡ view.waits e d → d ≡ c
  effect_of-waits e d f =
      closed_at-waits s (segment_for m k s).closer c d (effect_of m k s c v).variables e (ap (λ (t : Thread). view_of t.state) (sym effect_of-thread) ∙ f)

-- "not later than H"
module _ (m : Model) where
  pub horizon→< : (c : Cycle) → T (is_up_to_horizon m c) → c.time.0 < end_time m
  unfolding is_up_to_horizon
  horizon→< c t = ltb→lt c.time.0 (end_time m) t

  pub <→horizon : (c : Cycle) → c.time.0 < end_time m → T (is_up_to_horizon m c)
  unfolding is_up_to_horizon
  <→horizon c h = lt→ltb c.time.0 (end_time m) h

  -- a cycle not after one that is not later than the horizon is not later either
  pub horizon-mono : {c d : Cycle} → c ⊑ d → T (is_up_to_horizon m d) → T (is_up_to_horizon m c)
  horizon-mono {c} {d} (sooner p) t = <→horizon c (omega (arith, horizon→< d t))
  horizon-mono {c} {d} (same_time p q) t = <→horizon c (omega (arith, horizon→< d t))

  pub ready_cycle-before : (v : View) → T (is_bound_up_to_horizon m (ready_cycle_of v)) → (c : Cycle) × (v ≡ view.ready c) × T (is_up_to_horizon m c)
  unfolding is_bound_up_to_horizon
  ready_cycle-before view.idle t = absurd t
  ready_cycle-before (view.ready d) t = (d, refl, t)
  ready_cycle-before (view.waits e d) t = absurd t

  pub before-ready_cycle : (v : View) (c : Cycle) → v ≡ view.ready c → T (is_up_to_horizon m c) → T (is_bound_up_to_horizon m (ready_cycle_of v))
  unfolding is_bound_up_to_horizon
  before-ready_cycle v c e t = rw e t

pub has-append : (a b : List ℕ) (e : ℕ) → T (has (a ++ b) e) → T (has a e) ⊎ T (has b e)
has-append a b e t = or→either (has a e) (has b e) (subst T (events.has-append a b e) t)

pub append-has : (a b : List ℕ) (e : ℕ) → T (has a e) ⊎ T (has b e) → T (has (a ++ b) e)
append-has a b e h = subst T (sym (events.has-append a b e)) (either→or (has a e) (has b e) h)

pub has-none : (e : ℕ) → T (has [] e) → ⊥
unfolding has
has-none e t = t
