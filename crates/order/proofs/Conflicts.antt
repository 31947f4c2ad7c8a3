-- Conflict between two threads' segments, after mapping: where both access a variable that one of them writes, either both name it
-- directly, and the mark is set, or one names it through a port.
--     uses-named, writes-named     a variable that a thread names in a segment, directly or through a port
--     shared→threads_conflict     so the threads are in conflict
-- Assumes nothing.
use Prim.Native.Nat.{ℕ, ◌+◌, ◌-◌, ◌≤◌, ◌<◌}
use mathlib.Core.Path.{◌≡◌, sym, ◌∙◌, subst}
use mathlib.Core.Logic.{◌⊎◌, inl, inr}
use mathlib.Core.Bool.{false, ◌&&◌, ◌||◌}
use native.Mathlib.Omega.{arith}
use lib.Dec.{T, eqb}
use Rattle.base.proofs.BoolLaws.{both→and, either→or, eq→eqb}
use Rattle.base.proofs.IndexLaws.{any_below-found}
use Rattle.model.specs.declared.Model.{Model}
use Rattle.model.specs.Port.{port_of, mapped}
use Rattle.model.specs.Values.{segment_at, ports_at, segment_for}
use Rattle.model.specs.Footprint.{writes_of, uses_of, writes_in, uses_in, names_port, uses_by_port}
use Rattle.model.specs.Reach.{lacks_from}
use Rattle.model.specs.Rules.{model_fault}
use Rattle.model_effect.proofs.FrameLaws.{writes_of→uses_of, writes_in→uses_in}
use Rattle.model_effect.proofs.PortLaws.{mapped-port, mapped-below, uses-mapped, writes-mapped}
use Rattle.model_reach.proofs.ReachLaws.{lacks_from-self}
use Rattle.model_rules.proofs.RuleLaws.{Name, model_fault-counts, model_fault-segment, segment_fault-uses, model_fault-uses}
use Rattle.tables.specs.Conflict.{marks_of, mark_at}
use Rattle.tables_laws.proofs.ConflictLaws.{shared→marked}
use Rattle.early.specs.Hazard.{ports_conflict, threads_conflict}
use Rattle.order.proofs.KitLaws.{Shared}

-- thread k may run segment s: both are of the model, and from s on it lacks no port
pub record MayRun (m : Model) (k s : ℕ) : Type 0 where
  pub thread : k < m.t
  pub segment : s < m.n
  pub lacks : lacks_from m k s ≡ false

module _ (m : Model) (fit : model_fault m ≡ 0) where
  pub uses-below : (k s v : ℕ) → MayRun m k s → T (uses_in m k s v) → v < m.v
  uses-below k s v may t = model_fault-uses m fit k s may.segment may.thread (lacks_from-self m k s may.segment may.lacks) v t

  -- a name before mapping is a variable, and the same after it, or a port
  named : (k s a v : ℕ) → s < m.n → T (uses_of (segment_at m s) a) → mapped (ports_at m k) a ≡ v → (a ≡ v) ⊎ T (uses_by_port m k s v)
  unfolding uses_by_port names_port
  named k s a v h t e = go (segment_fault-uses m.v m.e (segment_at m s) (model_fault-segment m fit s h) a t)
    where
      same : 128 ≤ a → 128 + (a - 128) ≡ a
      same l = omega arith

      go : Name m.v a → (a ≡ v) ⊎ T (uses_by_port m k s v)
      go (inl u) = inl (sym (mapped-below (ports_at m k) a (omega (arith, (model_fault-counts m fit).variables))) ∙ e)
      go (inr (l, u)) =
          inr (any_below-found 8 (λ p. uses_of (segment_at m s) (128 + p) && eqb (port_of (ports_at m k) p) v) (a - 128) (omega arith)
          (both→and (uses_of (segment_at m s) (128 + (a - 128))) (eqb (port_of (ports_at m k) (a - 128)) v) (rw (same l) t)
          (eq→eqb (port_of (ports_at m k) (a - 128)) v (sym (mapped-port (ports_at m k) a l u) ∙ e))))

  pub uses-named : (k s v : ℕ) → s < m.n → T (uses_in m k s v) → T (uses_of (segment_at m s) v) ⊎ T (uses_by_port m k s v)
  unfolding uses_in segment_for
  uses-named k s v h t =
      let (a, u, e) = uses-mapped (ports_at m k) (segment_at m s) v t in
      go a u (named k s a v h u e)
    where
      go : (a : ℕ) → T (uses_of (segment_at m s) a) → (a ≡ v) ⊎ T (uses_by_port m k s v) → T (uses_of (segment_at m s) v) ⊎ T (uses_by_port m k s v)
      go a u (inl e) = inl (subst (λ (i : ℕ). T (uses_of (segment_at m s) i)) e u)
      go a u (inr p) = inr p

  pub writes-named : (k s v : ℕ) → s < m.n → T (writes_in m k s v) → T (writes_of (segment_at m s) v) ⊎ T (uses_by_port m k s v)
  unfolding writes_in segment_for
  writes-named k s v h t =
      let (a, w, e) = writes-mapped (ports_at m k) (segment_at m s) v t in
      go a w (named k s a v h (writes_of→uses_of (segment_at m s) a w) e)
    where
      go : (a : ℕ) → T (writes_of (segment_at m s) a) → (a ≡ v) ⊎ T (uses_by_port m k s v) → T (writes_of (segment_at m s) v) ⊎ T (uses_by_port m k s v)
      go a w (inl e) = inl (subst (λ (i : ℕ). T (writes_of (segment_at m s) i)) e w)
      go a w (inr p) = inr p

  module _ (i r j s v : ℕ) (first : MayRun m i r) (second : MayRun m j s) where
    by-mark : T (mark_at (marks_of m) r s) → T (threads_conflict m (marks_of m) i r j s)
    unfolding threads_conflict
    by-mark t = either→or (mark_at (marks_of m) r s) (ports_conflict m i r j s) (inl t)

    by-port : T (uses_in m i r v) → T (uses_in m j s v) → T (writes_in m i r v) ⊎ T (writes_in m j s v) → T (uses_by_port m i r v) ⊎ T (uses_by_port m j s v)
        → T (threads_conflict m (marks_of m) i r j s)
    unfolding threads_conflict ports_conflict
    by-port a b w p =
        either→or (mark_at (marks_of m) r s) (ports_conflict m i r j s)
        (inr (any_below-found m.v
        (λ v. (uses_in m i r v && uses_in m j s v) && ((writes_in m i r v || writes_in m j s v) && (uses_by_port m i r v || uses_by_port m j s v)))
        v (uses-below i r v first a)
        (both→and (uses_in m i r v && uses_in m j s v) ((writes_in m i r v || writes_in m j s v) && (uses_by_port m i r v || uses_by_port m j s v))
        (both→and (uses_in m i r v) (uses_in m j s v) a b)
        (both→and (writes_in m i r v || writes_in m j s v) (uses_by_port m i r v || uses_by_port m j s v)
        (either→or (writes_in m i r v) (writes_in m j s v) w)
        (either→or (uses_by_port m i r v) (uses_by_port m j s v) p)))))

    pub shared→threads_conflict : Shared m i r j s v → T (threads_conflict m (marks_of m) i r j s)
    shared→threads_conflict (inl (w, u)) = go (writes-named i r v first.segment w) (uses-named j s v second.segment u)
      where
        port : T (uses_by_port m i r v) ⊎ T (uses_by_port m j s v) → T (threads_conflict m (marks_of m) i r j s)
        port = by-port (writes_in→uses_in m i r v w) u (inl w)

        go : T (writes_of (segment_at m r) v) ⊎ T (uses_by_port m i r v) → T (uses_of (segment_at m s) v) ⊎ T (uses_by_port m j s v) → T (threads_conflict m (marks_of m) i r j s)
        go (inl a) (inl b) = by-mark (shared→marked m fit r s first.segment second.segment v (uses-below j s v second u) (inl (a, b)))
        go (inr p) _ = port (inl p)
        go (inl a) (inr p) = port (inr p)
    shared→threads_conflict (inr (u, w)) = go (uses-named i r v first.segment u) (writes-named j s v second.segment w)
      where
        port : T (uses_by_port m i r v) ⊎ T (uses_by_port m j s v) → T (threads_conflict m (marks_of m) i r j s)
        port = by-port u (writes_in→uses_in m j s v w) (inr w)

        go : T (uses_of (segment_at m r) v) ⊎ T (uses_by_port m i r v) → T (writes_of (segment_at m s) v) ⊎ T (uses_by_port m j s v) → T (threads_conflict m (marks_of m) i r j s)
        go (inl a) (inl b) = by-mark (shared→marked m fit r s first.segment second.segment v (uses-below i r v first u) (inr (a, b)))
        go (inr p) _ = port (inl p)
        go (inl a) (inr p) = port (inr p)
