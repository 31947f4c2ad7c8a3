-- The end of a cycle: who hears and who sleeps on, the floor, and whether some thread is ready up to the horizon.
--     Wakes, wakes     a state at a cycle's end: it hears, or is left as it is
--     woken-at, woken-length, woken-none     the records after the wakes
--     floor_of-≼, floor_of-attained     the floor is the least ready cycle, and some thread's
--     some_ready-some, some_ready-found     whether some thread is ready up to the horizon
use Prim.Native.Nat.{ℕ, ◌<◌}
use mathlib.Core.Path.{◌≡◌, refl, ap, sym, ◌∙◌, subst}
use mathlib.Core.Logic.{◌⊎◌, inl, inr}
use mathlib.Core.Bool.{true, false, not, ◌&&◌}
use mathlib.Core.List.{List, [], ◌∷◌}
use native.Mathlib.Omega.{arith}
use lib.Dec.{T, T_not}
use lib.ListN.{length, length-map}
use Rattle.base.proofs.BoolLaws.{T-case, T→true, T→false, true→T, and→both, both→and}
use Rattle.base.proofs.IndexLaws.{any_below-found, any_below-some}
use Rattle.clock.specs.declared.Cycle.{Cycle}
use Rattle.clock.specs.declared.Wait.TheVariants as wait
use Rattle.clock.specs.declared.Bound.{Bound}
use Rattle.clock.specs.declared.Bound.TheVariants.{Never, At}
use Rattle.clock.specs.Cycle.{is_before}
use Rattle.clock.specs.Order.{Before, ◌⊑◌, ◌≼◌}
use Rattle.clock.specs.Wait.{wait_ends}
use Rattle.clock.proofs.CycleLaws.{not-is_before→⊑, ⊑→not-is_before}
use Rattle.clock.proofs.LeastLaws.{least_below-≼, least_below-one}
use Rattle.clock.proofs.WaitLaws.{wait_ends-later}
use Rattle.model.specs.declared.Model.{Model}
use Rattle.model.specs.declared.State.{State}
use Rattle.model.specs.declared.Thread.{Thread}
use Rattle.model.specs.Limits.{is_up_to_horizon, is_bound_up_to_horizon}
use Rattle.model.specs.Record as view
use Rattle.model.specs.Record.{thread_at, ready_cycle, awaited_by, state_after, View, view_of, awaited_of, ready_cycle_of}
use Rattle.model.specs.Footprint.{has}
use Rattle.plain.specs.Wake.{is_woken, woken_state, woken_thread, woken, floor_below, floor_of, some_ready}
use Rattle.plain_laws.proofs.RecordLaws.{thread-path, thread_at-map, ready_cycle→ready, ready_cycle-before, before-ready_cycle, state_after-ready}

-- a state where the events es were notified in cycle c
pub data Wakes (es : List ℕ) (c : Cycle) (s : State) : Type 0 where
  rises : (e : ℕ) (since : Cycle) → view_of s ≡ view.waits e since → T (has es e) → since ⊑ c → T (is_woken es c (awaited_by s))
      → woken_state es c s ≡ state_after (wait_ends wait.Event c) → Wakes es c s
  sleeps : ((e : ℕ) (since : Cycle) → view_of s ≡ view.waits e since → T (has es e) → since ⊑ c → ⊥) → T (not (is_woken es c (awaited_by s)))
      → woken_state es c s ≡ s → Wakes es c s

module _ (es : List ℕ) (c : Cycle) where
  woken-state : (s : State) → T (is_woken es c (awaited_by s)) → woken_state es c s ≡ state_after (wait_ends wait.Event c)
  unfolding woken_state
  woken-state s t = rw (T→true (is_woken es c (awaited_by s)) t) refl

  slept-state : (s : State) → T (not (is_woken es c (awaited_by s))) → woken_state es c s ≡ s
  unfolding woken_state
  slept-state s t = rw (T→false (is_woken es c (awaited_by s)) t) refl

  is_woken→waits : (v : View) → T (is_woken es c (awaited_of v)) → (e : ℕ) × (since : Cycle) × (v ≡ view.waits e since) × T (has es e) × (since ⊑ c)
  unfolding is_woken
  is_woken→waits view.idle t = absurd t
  is_woken→waits (view.ready d) t = absurd t
  is_woken→waits (view.waits e since) t =
      let (h, b) = and→both (has es e) (not (is_before c since)) t in
      (e, since, refl, h, not-is_before→⊑ c since b)

  waits→is_woken : (v : View) (e : ℕ) (since : Cycle) → v ≡ view.waits e since → T (has es e) → since ⊑ c → T (is_woken es c (awaited_of v))
  unfolding is_woken
  waits→is_woken v e since q h l = rw q (both→and (has es e) (not (is_before c since)) h (⊑→not-is_before l))

  pub wakes : (s : State) → Wakes es c s
  wakes s = go (T-case (is_woken es c (awaited_by s)))
    where
      go : T (is_woken es c (awaited_by s)) ⊎ T (not (is_woken es c (awaited_by s))) → Wakes es c s
      go (inl t) = let (e, since, q, h, l) = is_woken→waits (view_of s) t in rises e since q h l t (woken-state s t)
      go (inr t) = sleeps (λ e since q h l. T_not (is_woken es c (awaited_by s)) t (waits→is_woken (view_of s) e since q h l)) t (slept-state s t)

  -- who is ready after the wakes was so before, or is ready later than this cycle
  pub woken_state-ready : (s : State) (d : Cycle) → view_of (woken_state es c s) ≡ view.ready d → (view_of s ≡ view.ready d) ⊎ Before c d
  woken_state-ready s d e = go (wakes s)
    where
      go : Wakes es c s → (view_of s ≡ view.ready d) ⊎ Before c d
      go (rises v b q h l t f) = inr (wait_ends-later wait.Event c (state_after-ready (wait_ends wait.Event c) d (ap view_of (sym f) ∙ e)))
      go (sleeps a t f) = inl (ap view_of (sym f) ∙ e)

  pub woken-at : (ts : List Thread) (k : ℕ)
      → thread_at (woken es c ts) k ≡ record { segment = (thread_at ts k).segment; state = woken_state es c (thread_at ts k).state }
  unfolding woken woken_thread woken_state is_woken
  woken-at ts k = thread_at-map ts (woken_thread es c) refl k

  pub woken-length : (ts : List Thread) → length (woken es c ts) ≡ length ts
  unfolding woken
  woken-length ts = length-map ts (woken_thread es c)

-- who is not live stays so
pub woken_state-idle : (es : List ℕ) (c : Cycle) (s : State) → view_of s ≡ view.idle → woken_state es c s ≡ s
unfolding woken_state is_woken
woken_state-idle es c s e = rw e refl

-- with no event notified nobody wakes
is_woken-none : (c : Cycle) (v : View) → is_woken [] c (awaited_of v) ≡ false
unfolding is_woken has
is_woken-none c view.idle = refl
is_woken-none c (view.ready d) = refl
is_woken-none c (view.waits e d) = refl

woken_state-none : (c : Cycle) (s : State) → woken_state [] c s ≡ s
unfolding woken_state
woken_state-none c s = rw (is_woken-none c (view_of s)) refl

pub woken-none : (c : Cycle) (ts : List Thread) → woken [] c ts ≡ ts
unfolding woken woken_thread
woken-none c [] = refl
woken-none c (t ∷ ts) = let same : woken_thread [] c t ≡ t = thread-path refl (woken_state-none c t.state) in rw (same, woken-none c ts) refl

module _ (m : Model) (ts : List Thread) where
  pub floor_of-≼ : (k : ℕ) → k < m.t → floor_of m ts ≼ ready_cycle (thread_at ts k).state
  unfolding floor_below
  floor_of-≼ k h = least_below-≼ m.t (λ j. ready_cycle (thread_at ts j).state) k h

  -- no ready thread is before the floor
  pub floor_of-least : (f : Cycle) → floor_of m ts ≡ At f → (k : ℕ) (c : Cycle) → k < m.t → view_of (thread_at ts k).state ≡ view.ready c → f ⊑ c
  floor_of-least f e k c h q = subst (λ (v : View). At f ≼ ready_cycle_of v) q (subst (λ (b : Bound). b ≼ ready_cycle (thread_at ts k).state) e (floor_of-≼ k h))

  -- some thread is ready at it
  pub floor_of-attained : (f : Cycle) → floor_of m ts ≡ At f → (k : ℕ) × (k < m.t) × (view_of (thread_at ts k).state ≡ view.ready f)
  unfolding floor_below
  floor_of-attained f e = go (least_below-one m.t (λ j. ready_cycle (thread_at ts j).state))
    where
      go : (floor_of m ts ≡ Never) ⊎ ((k : ℕ) × (k < m.t) × (floor_of m ts ≡ ready_cycle (thread_at ts k).state))
          → (k : ℕ) × (k < m.t) × (view_of (thread_at ts k).state ≡ view.ready f)
      go (inl n) = absurd (let z : ◌≡◌ {A = ℕ} 0 1 = cc in omega arith)
      go (inr (k, h, q)) = (k, h, ready_cycle→ready (view_of (thread_at ts k).state) f (sym q ∙ e))

  pub floor_of-never : floor_of m ts ≡ Never → (k : ℕ) (c : Cycle) → k < m.t → view_of (thread_at ts k).state ≡ view.ready c → ⊥
  floor_of-never e k c h q = subst (λ (v : View). Never ≼ ready_cycle_of v) q (subst (λ (b : Bound). b ≼ ready_cycle (thread_at ts k).state) e (floor_of-≼ k h))

-- "not later than H"
module _ (m : Model) where
  pub some_ready-some : (ts : List Thread) → some_ready m ts ≡ true → (k : ℕ) × (c : Cycle) × (k < m.t) × (view_of (thread_at ts k).state ≡ view.ready c) × T (is_up_to_horizon m c)
  unfolding some_ready
  some_ready-some ts e =
      let (k, h, t) = any_below-some m.t (λ j. is_bound_up_to_horizon m (ready_cycle (thread_at ts j).state)) (true→T (some_ready m ts) e) in
      let (c, q, b) = ready_cycle-before m (view_of (thread_at ts k).state) t in
      (k, c, h, q, b)

  pub some_ready-found : (ts : List Thread) (k : ℕ) (c : Cycle) → k < m.t → view_of (thread_at ts k).state ≡ view.ready c → T (is_up_to_horizon m c) → some_ready m ts ≡ true
  unfolding some_ready
  some_ready-found ts k c h q t =
      T→true (some_ready m ts)
      (any_below-found m.t (λ j. is_bound_up_to_horizon m (ready_cycle (thread_at ts j).state)) k h (before-ready_cycle m (view_of (thread_at ts k).state) c q t))
