-- The run keeps to the clock: at every place no ready thread is before the cycle that runs now, and those that had their turn are after it.
-- So the cycle never falls, a close that begins a cycle begins a later one, and a place that rests stays as it is.
--     Steady, steady     at every place
--     woken-later     whoever is ready after the wakes is ready later
--     Moves, moves     what a step does to cycle, turn and notifications
--     now_mono     the cycle never falls
use Prim.Native.Nat.{ℕ, zero, suc, ◌+◌, ◌-◌, ◌<◌, ◌≤◌}
use mathlib.Core.Path.{◌≡◌, refl, ap, sym, ◌∙◌, subst}
use mathlib.Core.Logic.{◌⊎◌, inl, inr}
use mathlib.Core.List.{[]}
use native.Mathlib.Nat.{add-zero, add-suc}
use native.Mathlib.Omega.{arith}
use native.Mathlib.Decide.{dec_lt, ℕ_discrete}
use lib.Dec.{T}
use Rattle.clock.specs.declared.Cycle.{Cycle}
use Rattle.clock.specs.declared.Bound.TheVariants.{At}
use Rattle.clock.specs.Order.{Before, ◌⊑◌}
use Rattle.clock.proofs.OrderLaws.{⊑_refl, ⊑_trans, ⊑-strict, ≡→⊑, Before→⊑}
use Rattle.model.specs.declared.Model.{Model}
use Rattle.model.specs.declared.Thread.{Thread}
use Rattle.model.specs.Limits.{is_up_to_horizon}
use Rattle.model.specs.Record as view
use Rattle.model.specs.Record.{no_thread, thread_at, view_of}
use Rattle.plain.specs.Start.{Place, start_of}
use Rattle.plain.specs.Wake.{floor_of}
use Rattle.plain.specs.Step.{stepped, place_at}
use Rattle.plain_laws.proofs.RecordLaws.{ready-same, thread_at-set, thread_at-other, effect_of-later}
use Rattle.plain_laws.proofs.WakeLaws.{woken_state-ready, woken-at, floor_of-least, floor_of-attained}
use Rattle.plain_laws.proofs.StepLaws.{record_of, state_of, woken_at, effect_at, ran_at, passed_at, rested_at, closed, kind_of, ran-not-closed, passed-not-closed, Late, Sees, sees, sees_ran, sees_passed, sees_begun, sees_rested}
use Rattle.plain_laws.proofs.StartLaws.{start_of-ready, start_of-now, start_of-turn, start_of-past, Shape, shape, woken-past}

-- no record past T is ready
no_thread-not-ready : (t : Thread) (c : Cycle) → t ≡ no_thread → view_of t.state ≡ view.ready c → ⊥
no_thread-not-ready t c e q = let s = ap (λ (x : Thread). view_of x.state) e in let z : ◌≡◌ {A = ℕ} 0 1 = cc in omega arith

pub record Steady (p : Place) : Type 0 where
  pub later : (k : ℕ) (c : Cycle) → view_of (state_of p k) ≡ view.ready c → p.now ⊑ c
  pub looked : (k : ℕ) (c : Cycle) → k < p.turn → view_of (state_of p k) ≡ view.ready c → Before p.now c

-- what a step does to the cycle, the turn and the notifications
pub data Moves (m : Model) (p : Place) : Type 0 where
  turns : (kind_of m p ≡ closed → ⊥) → p.turn < m.t → (stepped m p).now ≡ p.now → (stepped m p).turn ≡ p.turn + 1 → Moves m p
  begins : kind_of m p ≡ closed → m.t ≤ p.turn → Before p.now (stepped m p).now → T (is_up_to_horizon m (stepped m p).now) → (stepped m p).turn ≡ 0
      → (stepped m p).notified ≡ [] → Moves m p
  rests : kind_of m p ≡ closed → m.t ≤ p.turn → Late m (floor_of m (woken_at p)) → stepped m p ≡ rested_at p → Moves m p

module _ (m : Model) (p : Place) (whole : Shape m p) (g : Steady p) where
  -- once every thread has had its turn, whoever is ready after the wakes is ready later
  pub woken-later : m.t ≤ p.turn → (k : ℕ) (c : Cycle) → view_of (thread_at (woken_at p) k).state ≡ view.ready c → Before p.now c
  woken-later h k c e =
      go (woken_state-ready p.notified p.now (state_of p k) c (ap (λ (t : Thread). view_of t.state) (sym (woken-at p.notified p.now p.threads k)) ∙ e))
      (dec_lt k p.turn)
    where
      go : (view_of (state_of p k) ≡ view.ready c) ⊎ Before p.now c → Dec (k < p.turn) → Before p.now c
      go (inr b) d = b
      go (inl q) (yes l) = g.looked k c l q
      go (inl q) (no l) = absurd (no_thread-not-ready (record_of p k) c (whole.past k (omega arith)) q)

  -- and not before the floor
  woken-floor : (f : Cycle) → floor_of m (woken_at p) ≡ At f → (k : ℕ) (c : Cycle) → view_of (thread_at (woken_at p) k).state ≡ view.ready c → f ⊑ c
  woken-floor f e k c q = go (dec_lt k m.t)
    where
      go : Dec (k < m.t) → f ⊑ c
      go (yes l) = floor_of-least m (woken_at p) f e k c l q
      go (no l) = absurd (no_thread-not-ready (thread_at (woken_at p) k) c (woken-past m p whole k (omega arith)) q)

  steady-ran : p.turn < m.t → Steady (ran_at m p)
  steady-ran h = record { later = λ k c e. later k c e (ℕ_discrete k p.turn); looked = λ k c l e. looked k c l e (ℕ_discrete k p.turn) }
    where
      mine : (k : ℕ) (c : Cycle) → k ≡ p.turn → view_of (state_of (ran_at m p) k) ≡ view.ready c → Before p.now c
      mine k c q e =
          effect_of-later m p.turn (record_of p p.turn).segment p.now p.variables c
          (ap (λ (t : Thread). view_of t.state) (sym (thread_at-set p.threads p.turn (effect_at m p).thread (omega (arith, whole.enough))))
          ∙ ap (λ (j : ℕ). view_of (state_of (ran_at m p) j)) (sym q)
          ∙ e)

      theirs : (k : ℕ) (c : Cycle) → (k ≡ p.turn → ⊥) → view_of (state_of (ran_at m p) k) ≡ view.ready c → view_of (state_of p k) ≡ view.ready c
      theirs k c other e = ap (λ (t : Thread). view_of t.state) (sym (thread_at-other p.threads p.turn k (effect_at m p).thread other)) ∙ e

      later : (k : ℕ) (c : Cycle) → view_of (state_of (ran_at m p) k) ≡ view.ready c → Dec (k ≡ p.turn) → p.now ⊑ c
      later k c e (yes q) = Before→⊑ (mine k c q e)
      later k c e (no q) = g.later k c (theirs k c q e)

      looked : (k : ℕ) (c : Cycle) → k < p.turn + 1 → view_of (state_of (ran_at m p) k) ≡ view.ready c → Dec (k ≡ p.turn) → Before p.now c
      looked k c l e (yes q) = mine k c q e
      looked k c l e (no q) = g.looked k c (omega arith) (theirs k c q e)

  steady-passed : (view_of (state_of p p.turn) ≡ view.ready p.now → ⊥) → Steady (passed_at p)
  steady-passed not-due = record { later = g.later; looked = λ k c l e. looked k c l e (ℕ_discrete k p.turn) }
    where
      looked : (k : ℕ) (c : Cycle) → k < p.turn + 1 → view_of (state_of p k) ≡ view.ready c → Dec (k ≡ p.turn) → Before p.now c
      looked k c l e (yes q) =
          ⊑-strict (g.later k c e) (λ x. not-due (ap (λ (j : ℕ). view_of (state_of p j)) (sym q) ∙ e ∙ ap view.ready (sym x)))
      looked k c l e (no q) = g.looked k c (omega arith) e

  pub steady-step : Steady (stepped m p)
  steady-step = go (sees m p)
    where
      go : Sees m p → Steady (stepped m p)
      go (sees_ran q h r s) = subst Steady (sym s) (steady-ran h)
      go (sees_passed q h r s) = subst Steady (sym s) (steady-passed r)
      go (sees_begun q h f e b s) =
          subst Steady (sym s) (record { later = λ k c r. woken-floor f e k c r; looked = λ k c l r. absurd (omega arith) })
      go (sees_rested q h l s) =
          subst Steady (sym s) (record { later = λ k c r. Before→⊑ (woken-later h k c r); looked = λ k c l r. woken-later h k c r })

  pub moves : Moves m p
  moves = go (sees m p)
    where
      go : Sees m p → Moves m p
      go (sees_ran q h r s) = turns (ran-not-closed q) h (rw s refl) (rw s refl)
      go (sees_passed q h r s) = turns (passed-not-closed q) h (rw s refl) (rw s refl)
      go (sees_begun q h f e b s) =
          let (k, l, r) = floor_of-attained m (woken_at p) f e in
          begins q h (rw s (woken-later h k f r)) (rw s b) (rw s refl) (rw s refl)
      go (sees_rested q h l s) = rests q h l s

  pub stepped-now : p.now ⊑ (stepped m p).now
  stepped-now = go moves
    where
      go : Moves m p → p.now ⊑ (stepped m p).now
      go (turns q h e t) = ≡→⊑ (sym e)
      go (begins q h b l t n) = Before→⊑ b
      go (rests q h l s) = rw s ⊑_refl

module _ (m : Model) where
  steady-start : Steady (start_of m)
  steady-start = record { later = later; looked = λ k c l e. absurd (omega (arith, start_of-turn m)) }
    where
      later : (k : ℕ) (c : Cycle) → view_of (state_of (start_of m) k) ≡ view.ready c → (start_of m).now ⊑ c
      later k c e = go (dec_lt k m.t)
        where
          go : Dec (k < m.t) → (start_of m).now ⊑ c
          go (yes l) = ≡→⊑ (start_of-now m ∙ ready-same (sym (start_of-ready m k l) ∙ e))
          go (no l) = absurd (no_thread-not-ready (record_of (start_of m) k) c (start_of-past m k (omega arith)) e)

  pub steady : (i : ℕ) → Steady (place_at m i)
  unfolding place_at
  steady zero = steady-start
  steady (suc i) = steady-step m (place_at m i) (shape m i) (steady i)

  pub moves-at : (i : ℕ) → Moves m (place_at m i)
  moves-at i = moves m (place_at m i) (shape m i) (steady i)

  -- the cycle never falls
  now_on : (i d : ℕ) → (place_at m i).now ⊑ (place_at m (i + d)).now
  unfolding place_at
  now_on i zero = rw add-zero ⊑_refl
  now_on i (suc d) = rw add-suc (⊑_trans (now_on i d) (stepped-now m (place_at m (i + d)) (shape m (i + d)) (steady (i + d))))

  pub now_mono : (i j : ℕ) → i ≤ j → (place_at m i).now ⊑ (place_at m j).now
  now_mono i j h = let e : i + (j - i) ≡ j = omega arith in subst (λ (x : ℕ). (place_at m i).now ⊑ (place_at m x).now) e (now_on i (j - i))
