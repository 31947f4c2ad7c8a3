-- The floor, read by its threads: no ready thread is before it, and a bound that is not after any ready thread is not after it.
-- It hangs on the views of the threads alone.
-- (That some thread is ready at it is a law of plain_laws, `floor_of-attained`.)
-- Assumes nothing.
use Prim.Native.Nat.{ℕ, ◌<◌}
use mathlib.Core.Path.{◌≡◌, refl, ap, sym, ◌∙◌, subst}
use mathlib.Core.Logic.{◌⊎◌, inl, inr}
use mathlib.Core.List.{List}
use Rattle.clock.specs.declared.Cycle.{Cycle}
use Rattle.clock.specs.declared.Bound.{Bound}
use Rattle.clock.specs.declared.Bound.TheVariants.{Never, At}
use Rattle.clock.specs.Order.{Before, ◌⊑◌, ◌≼◌}
use Rattle.clock.proofs.OrderLaws.{⊑-total, ≼-antisym}
use Rattle.clock.proofs.LeastLaws.{least_below-glb}
use Rattle.model.specs.declared.Model.{Model}
use Rattle.model.specs.declared.Thread.{Thread}
use Rattle.model.specs.Record as view
use Rattle.model.specs.Record.{thread_at, ready_cycle, ready_cycle_of, View, view_of}
use Rattle.plain.specs.Wake.{floor_below, floor_of}
use Rattle.plain_laws.proofs.WakeLaws.{floor_of-≼}

-- of two cycles one is not after the other
pub not-⊑→Before : {a b : Cycle} → (a ⊑ b → ⊥) → Before b a
not-⊑→Before {a} {b} n = go (⊑-total a b)
  where
    go : (a ⊑ b) ⊎ Before b a → Before b a
    go (inl h) = absurd (n h)
    go (inr h) = h

pub not-Before→⊑ : {a b : Cycle} → (Before b a → ⊥) → a ⊑ b
not-Before→⊑ {a} {b} n = go (⊑-total a b)
  where
    go : (a ⊑ b) ⊎ Before b a → a ⊑ b
    go (inl h) = h
    go (inr h) = absurd (n h)

-- a finite bound below a cycle
pub finite-below : (b : Bound) (c : Cycle) → b ≼ At c → (d : Cycle) × (b ≡ At d) × (d ⊑ c)
finite-below Never c h = absurd h
finite-below (At d) c h = (d, refl, h)

-- no ready thread is before the floor
pub floor-below : (m : Model) (ts : List Thread) (k : ℕ) (c : Cycle) → k < m.t → view_of (thread_at ts k).state ≡ view.ready c
    → floor_of m ts ≼ At c
floor-below m ts k c below r = subst (λ (b : Bound). floor_of m ts ≼ b) (ap ready_cycle_of r) (floor_of-≼ m ts k below)

-- a bound that is not after any ready thread is not after the floor
pub floor-glb : (m : Model) (ts : List Thread) (low : Bound)
    → ((k : ℕ) (c : Cycle) → k < m.t → view_of (thread_at ts k).state ≡ view.ready c → low ≼ At c) → low ≼ floor_of m ts
unfolding floor_below
floor-glb m ts low h = least_below-glb low m.t (λ k. ready_cycle (thread_at ts k).state) (λ k below. go k below (view_of (thread_at ts k).state) refl)
  where
    go : (k : ℕ) → k < m.t → (v : View) → view_of (thread_at ts k).state ≡ v → low ≼ ready_cycle_of v
    go k below view.idle e = tt
    go k below (view.ready d) e = h k d below e
    go k below (view.waits a d) e = tt

pub floor-same : (m : Model) (ts us : List Thread) → ((k : ℕ) → view_of (thread_at us k).state ≡ view_of (thread_at ts k).state) → floor_of m us ≡ floor_of m ts
floor-same m ts us same =
    ≼-antisym (floor_of m us) (floor_of m ts)
    (floor-glb m ts (floor_of m us) (λ k c below r. floor-below m us k c below (same k ∙ r)))
    (floor-glb m us (floor_of m ts) (λ k c below r. floor-below m ts k c below (sym (same k) ∙ r)))
