-- The least ready stamp: its cycle is the floor, and where some thread is ready up to the horizon there is one.
-- Assumes nothing.
use Prim.Native.Nat.{ℕ, ◌<◌}
use mathlib.Core.Path.{◌≡◌, ap, subst}
use mathlib.Core.Logic.{◌⊎◌, inl, inr}
use mathlib.Core.Bool.{true, false}
use mathlib.Core.List.{List}
use native.Mathlib.Omega.{arith}
use lib.Dec.{T, T_not}
use Rattle.base.proofs.BoolLaws.{true→T, false→T}
use Rattle.base.proofs.IndexLaws.{FirstOf, find_first}
use Rattle.clock.specs.declared.Cycle.{Cycle}
use Rattle.clock.specs.declared.Bound.{Bound}
use Rattle.clock.specs.declared.Bound.TheVariants.{At}
use Rattle.clock.specs.Cycle.{stamp_at, is_stamp_before}
use Rattle.clock.specs.Order.{Before, ◌≼◌}
use Rattle.clock.proofs.OrderLaws.{Before-irrefl, Three, before, same, after, Before-total, Before→not-⊑, ≼-antisym}
use Rattle.clock.proofs.CycleLaws.{StampBefore, is_stamp_before→, →is_stamp_before}
use Rattle.model.specs.declared.Model.{Model}
use Rattle.model.specs.declared.Thread.{Thread}
use Rattle.model.specs.Limits.{is_up_to_horizon}
use Rattle.model.specs.Record as view
use Rattle.model.specs.Record.{thread_at, View, view_of}
use Rattle.plain.specs.Wake.{floor_of, some_ready}
use Rattle.plain_laws.proofs.RecordLaws.{ready-same, horizon-mono}
use Rattle.plain_laws.proofs.WakeLaws.{floor_of-attained, some_ready-some, some_ready-found}
use Rattle.order.proofs.Floor.{not-Before→⊑, floor-below, floor-glb, finite-below}

-- where none is ready up to the horizon, a ready thread is past it
pub some_ready-none : (m : Model) (ts : List Thread) → some_ready m ts ≡ false → (k : ℕ) (c : Cycle) → k < m.t
    → view_of (thread_at ts k).state ≡ view.ready c → T (is_up_to_horizon m c) → ⊥
some_ready-none m ts e k c below r b =
    T_not (some_ready m ts) (false→T (some_ready m ts) e) (true→T (some_ready m ts) (some_ready-found m ts k c below r b))

dec_cycle : (a b : Cycle) → Dec (a ≡ b)
dec_cycle a b = go (Before-total a b)
  where
    go : Three a b → Dec (a ≡ b)
    go (before h) = no (λ e. Before-irrefl (subst (λ (x : Cycle). Before x b) e h))
    go (same e) = yes e
    go (after h) = no (λ e. Before-irrefl (subst (λ (x : Cycle). Before b x) e h))

dec_ready : (f : Cycle) (v : View) → Dec (v ≡ view.ready f)
dec_ready f view.idle = no (λ e. let z : ◌≡◌ {A = ℕ} 0 1 = cc in omega arith)
dec_ready f (view.ready c) = go (dec_cycle c f)
  where
    go : Dec (c ≡ f) → Dec (view.ready c ≡ view.ready f)
    go (yes e) = yes (ap view.ready e)
    go (no n) = no (λ e. n (ready-same e))
dec_ready f (view.waits a c) = no (λ e. let z : ◌≡◌ {A = ℕ} 0 1 = cc in omega arith)

-- thread i is ready at c, and no thread at a smaller stamp
pub record LeastReady (m : Model) (ts : List Thread) (i : ℕ) (c : Cycle) : Type 0 where
  pub below : i < m.t
  pub ready : view_of (thread_at ts i).state ≡ view.ready c
  pub least : (j : ℕ) (d : Cycle) → j < m.t → view_of (thread_at ts j).state ≡ view.ready d
      → T (is_stamp_before (stamp_at d j) (stamp_at c i)) → ⊥

-- its cycle is the floor
pub least-floor : (m : Model) (ts : List Thread) (i : ℕ) (c : Cycle) → LeastReady m ts i c → floor_of m ts ≡ At c
least-floor m ts i c lr =
    ≼-antisym (floor_of m ts) (At c) (floor-below m ts i c lr.below lr.ready)
    (floor-glb m ts (At c) (λ k d below r. not-Before→⊑ (λ h. lr.least k d below r (→is_stamp_before (stamp_at d k) (stamp_at c i) (inl h)))))

-- where one is ready up to the horizon, there is a least
pub some-least : (m : Model) (ts : List Thread) → some_ready m ts ≡ true
    → (i : ℕ) × (c : Cycle) × LeastReady m ts i c × T (is_up_to_horizon m c)
some-least m ts e = found (some_ready-some m ts e)
  where
    least_at : (f : Cycle) → floor_of m ts ≡ At f → T (is_up_to_horizon m f)
        → (i : ℕ) × (c : Cycle) × LeastReady m ts i c × T (is_up_to_horizon m c)
    least_at f fl early = go (find_first m.t (λ i. view_of (thread_at ts i).state ≡ view.ready f) (λ i. dec_ready f (view_of (thread_at ts i).state))) (floor_of-attained m ts f fl)
      where
        go : FirstOf m.t (λ i. view_of (thread_at ts i).state ≡ view.ready f) ⊎ ((i : ℕ) → i < m.t → view_of (thread_at ts i).state ≡ view.ready f → ⊥)
            → (k : ℕ) × (k < m.t) × (view_of (thread_at ts k).state ≡ view.ready f)
            → (i : ℕ) × (c : Cycle) × LeastReady m ts i c × T (is_up_to_horizon m c)
        go (inr none) (k, below, r) = absurd (none k below r)
        go (inl first) _ = (first.index, f, record { below = first.below; ready = first.holds; least = λ j d below r t. smaller j d below r (is_stamp_before→ (stamp_at d j) (stamp_at f first.index) t) }, early)
          where
            smaller : (j : ℕ) (d : Cycle) → j < m.t → view_of (thread_at ts j).state ≡ view.ready d
                → StampBefore (stamp_at d j) (stamp_at f first.index) → ⊥
            smaller j d below r (inl h) = Before→not-⊑ h (subst (λ (b : Bound). b ≼ At d) fl (floor-below m ts j d below r))
            smaller j d below r (inr (p, h)) = first.first j h (subst (λ (x : Cycle). view_of (thread_at ts j).state ≡ view.ready x) p r)

    found : (k : ℕ) × (c : Cycle) × (k < m.t) × (view_of (thread_at ts k).state ≡ view.ready c) × T (is_up_to_horizon m c)
        → (i : ℕ) × (c : Cycle) × LeastReady m ts i c × T (is_up_to_horizon m c)
    found (k, c, below, r, early) =
        let (f, fl, fc) = finite-below (floor_of m ts) c (floor-below m ts k c below r) in
        least_at f fl (horizon-mono m fc early)
