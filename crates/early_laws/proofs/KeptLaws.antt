-- Where the thread that hears does not overrun, no bound changes at all: it is ready at exactly the cycle that its earliest was, and the chains
-- of before the look lead no sooner after it. With `HearLaws`: bounds change only where a thread overruns on hearing, and then they rise.
use Prim.Native.Nat.{ℕ, ◌<◌}
use mathlib.Core.Path.{◌≡◌, ap, sym, ◌∙◌, subst}
use mathlib.Core.List.{List}
use native.Mathlib.Decide.{ℕ_discrete}
use lib.Dec.{T}
use Rattle.clock.specs.declared.Cycle.{Cycle}
use Rattle.clock.specs.declared.Wait.TheVariants as wait
use Rattle.clock.specs.declared.Step.{Step}
use Rattle.clock.specs.declared.Step.TheVariants as step
use Rattle.clock.specs.declared.Bound.{Bound}
use Rattle.clock.specs.declared.Bound.TheVariants.{At}
use Rattle.clock.specs.Wait.{wait_ends}
use Rattle.clock.specs.Advance.{◌⊕◌}
use Rattle.clock.specs.Order.{◌≼◌}
use Rattle.clock.proofs.OrderLaws.{≼_trans, ≼-antisym}
use Rattle.clock.proofs.AdvanceLaws.{advance_of-Event}
use Rattle.clock.proofs.WaitLaws.{wait_ends-advance}
use Rattle.model.specs.declared.Model.{Model}
use Rattle.model.specs.declared.Thread.{Thread}
use Rattle.model.specs.Record as view
use Rattle.model.specs.Record.{thread_at, is_live, awaited_by, state_after, view_of}
use Rattle.early.specs.declared.Notification.{Notification}
use Rattle.early.specs.Earliest.{source_of, link_to, Chain, source, link}
use Rattle.early.specs.Deliver.{looked_at}
use Rattle.early_laws.proofs.LinkLaws.{link_to-mono, link_to-rises}
use Rattle.early_laws.proofs.EarliestLaws.{earliest_at, chain-below, earliest-≼, earliest-glb, earliest-relaxed, earliest-ready}
use Rattle.early_laws.proofs.LookLaws.{heard_at, looked_at-other, looked_at-self, looked_at-segment}
use Rattle.early_laws.proofs.HearLaws.{heard-earliest, earliest-rises}

-- thread k hears x and is ready at d; the records after the look
module _ (m : Model) (ws : List ℕ) (l : List Notification) (ts : List Thread) (k : ℕ) (h : k < m.t) (x d : Cycle) (p : heard_at m ws l ts k ≡ At x) (e : wait_ends wait.Event x ≡ step.Ready d) where
  abbrev us : List Thread
  us = looked_at m ws l ts k

  heard-ready : view_of (thread_at us k).state ≡ view.ready d
  heard-ready = ap (λ (t : Thread). view_of t.state) (looked_at-self m ws l ts k x p) ∙ ap (λ (z : Step). view_of (state_after z)) e

  heard-same : earliest_at m ws l us k ≡ earliest_at m ws l ts k
  heard-same =
      earliest-ready m ws l us k d h heard-ready
      ∙ sym (wait_ends-advance wait.Event x e)
      ∙ ap (λ (y : Bound). At x ⊕ y) advance_of-Event
      ∙ sym (heard-earliest m ws l ts k h x p)

  live-kept : (j : ℕ) → T (is_live (thread_at ts j).state) → T (is_live (thread_at us j).state)
  live-kept j t = go (ℕ_discrete j k)
    where
      go : Dec (j ≡ k) → T (is_live (thread_at us j).state)
      go (yes f) = rw (f, heard-ready) tt
      go (no f) = rw (looked_at-other m ws l ts k j f) t

  link-falls : (j i : ℕ) (y : Bound) → (i ≡ k → ⊥) → link_to m ws us j i y ≼ link_to m ws ts j i y
  link-falls j i y other =
      link_to-rises
      m
      ws
      us
      ts
      j
      i
      y
      (sym (looked_at-segment m ws l ts k j))
      (live-kept j)
      (ap (λ (t : Thread). awaited_by t.state) (sym (looked_at-other m ws l ts k i other)))

  chain-falls : {i : ℕ} {y : Bound} → Chain m ws l ts i y → earliest_at m ws l us i ≼ y
  chain-falls (source {k = i} q) = go (ℕ_discrete i k)
    where
      go : Dec (i ≡ k) → earliest_at m ws l us i ≼ source_of l (thread_at ts i).state
      go (yes f) = subst (λ (a : ℕ). earliest_at m ws l us a ≼ source_of l (thread_at ts a).state) (sym f) (rw heard-same (earliest-≼ m ws l ts (source h)))
      go (no f) = subst (λ (t : Thread). earliest_at m ws l us i ≼ source_of l t.state) (looked_at-other m ws l ts k i f) (earliest-≼ m ws l us (source q))
  chain-falls (link {j = j} {k = i} {x = y} q c) = go (ℕ_discrete i k) (chain-falls c)
    where
      go : Dec (i ≡ k) → earliest_at m ws l us j ≼ y → earliest_at m ws l us i ≼ link_to m ws ts j i y
      go (yes f) ih = subst (λ (a : ℕ). earliest_at m ws l us a ≼ link_to m ws ts j a y) (sym f) (rw heard-same (earliest-≼ m ws l ts (link h c)))
      go (no f) ih =
          ≼_trans
          (earliest_at m ws l us i)
          (link_to m ws us j i y)
          (link_to m ws ts j i y)
          (≼_trans
          (earliest_at m ws l us i)
          (link_to m ws us j i (earliest_at m ws l us j))
          (link_to m ws us j i y)
          (earliest-relaxed m ws l us j i (chain-below m ws l ts c) q)
          (link_to-mono m ws us j i (earliest_at m ws l us j) y ih))
          (link-falls j i y f)

  pub earliest-same : (i : ℕ) → i < m.t → earliest_at m ws l us i ≡ earliest_at m ws l ts i
  earliest-same i q =
      ≼-antisym
      (earliest_at m ws l us i)
      (earliest_at m ws l ts i)
      (earliest-glb m ws l ts i (earliest_at m ws l us i) q (λ y c. chain-falls c))
      (earliest-rises m ws l ts k h i q)
