-- A run is a place of the plain run, taken early. Where no hazard stands, no earlier place that is not done touches the next
-- place of the thread (A), since each such place runs no sooner than its bound (`LowerBound`). Where that is so, it finds what the plain
-- run finds there (B, `GoodLaws`), does what the plain run does, and leaves the cut of the plain run just past it.
-- Takes as given the facts of the plain run (PlainFacts) and the laws of the kit (KitLaws).
use Prim.Native.Nat.{ℕ, suc, ◌<◌}
use mathlib.Core.Path.{◌≡◌, ap, ap₂, sym, ◌∙◌, subst}
use mathlib.Core.Bool.{Bool, false}
use mathlib.Core.List.{List}
use native.Mathlib.Omega.{arith}
use native.Mathlib.Decide.{dec_lt, ℕ_discrete}
use lib.Dec.{T, T_not}
use Rattle.base.proofs.BoolLaws.{false→T}
use Rattle.clock.specs.declared.Cycle.{Cycle}
use Rattle.clock.specs.declared.Bound.{Bound}
use Rattle.clock.specs.Cycle.{stamp_at}
use Rattle.clock.proofs.CycleLaws.{StampBefore}
use Rattle.model.specs.declared.Model.{Model}
use Rattle.model.specs.declared.Thread.{Thread}
use Rattle.model.specs.Limits.{is_up_to_horizon}
use Rattle.model.specs.Record as view
use Rattle.model.specs.Record.{thread_at, view_of}
use Rattle.model.specs.Effect.{Effect, effect_of}
use Rattle.model.specs.Footprint.{uses_in}
use Rattle.model_effect.proofs.FrameLaws.{Agree, Alike}
use Rattle.plain.specs.Step.{place_at}
use Rattle.plain.specs.History.{Item}
use Rattle.early.specs.declared.Notification.{Notification}
use Rattle.early.specs.Hazard.{threads_conflict, is_sooner, hazard}
use Rattle.early_laws.proofs.HazardLaws.{→is_sooner}
use Rattle.order.proofs.Places.{now_at, record_at, effect_there, Runs}
use Rattle.order.proofs.PlainFacts.{PlainFacts, NextRun}
use Rattle.order.proofs.KitLaws.{bound_in, KitLaws}
use Rattle.order.proofs.Invariant.{Done, Touch, Safe, Good, IsCut, Bounded, moved}
use Rattle.order.proofs.CutLaws.{cut-view, cut-segment}
use Rattle.order.proofs.GoodLaws.{touch-swap, agree, good-step}
use Rattle.order.proofs.LowerBound.{bounded}

module _ (m : Model) (pf : PlainFacts m) {marks : List (List Bool)} {ws : List ℕ} (kl : KitLaws m marks ws)
    {x : List ℕ} {l : List Notification} {ts : List Thread} {h : ℕ → List Item} {cut : ℕ → ℕ} {low : Bound}
    (ic : IsCut m x l ts h cut low) (k : ℕ) (c : Cycle) (kt : k < m.t) (ready : view_of (thread_at ts k).state ≡ view.ready c)
  where
    -- the place that is run
    pub next_place : T (is_up_to_horizon m c) → NextRun m (cut k) k c
    next_place soon = pf.next_run (cut k) k c kt (sym (cut-view ic k kt) ∙ ready) soon

    -- it runs the thread's segment
    pub same-segment : (r : NextRun m (cut k) k c) → (thread_at ts k).segment ≡ (record_at m r.place k).segment
    same-segment r = cut-segment ic k kt ∙ ap (λ (t : Thread). t.segment) (sym r.still)

    module _ (r : NextRun m (cut k) k c) (clear : hazard m marks ws l ts k c ≡ false) where
      -- another thread's place before it that is not done would be a hazard
      no-hazard-before : (p a : ℕ) → p < r.place → Runs m p a → (a ≡ k → ⊥) → (p < cut a → ⊥) → Touch m p a r.place k → ⊥
      no-hazard-before p a sooner runs other undone touch =
          T_not (is_sooner b a (stamp_at c k)) (false→T (is_sooner b a (stamp_at c k)) quiet) (→is_sooner b (now_at m p) a c k (bd.sound p a runs undone) stamps)
        where
          bd : Bounded m ws ts cut (kl.forecasts l ts).earliest
          bd = bounded m pf kl ic (kl.forecasts l ts)

          b : Bound
          b = bound_in m ws ts (kl.forecasts l ts).earliest a (record_at m p a).segment

          touched : Touch m r.place k p a
          touched = touch-swap m p a r.place k touch

          marked : T (threads_conflict m marks k (thread_at ts k).segment a (record_at m p a).segment)
          marked = rw (same-segment r) (kl.needed.marked k (record_at m r.place k).segment a (record_at m p a).segment touched.variable (λ e. other (sym e)) (kl.needed.reached r.place k r.runs) (kl.needed.reached p a runs) touched.shared)

          quiet : is_sooner b a (stamp_at c k) ≡ false
          quiet = (kl.forecasts l ts).no_hazard k c clear a (record_at m p a).segment runs.below other (bd.live p a runs undone) (pf.segment_below p a runs.below) marked

          stamps : StampBefore (stamp_at (now_at m p) a) (stamp_at c k)
          stamps = subst (λ (d : Cycle). StampBefore (stamp_at (now_at m p) a) (stamp_at d k)) r.now (pf.stamps p r.place a k sooner runs r.runs)

      -- (A) every earlier place that touches it is done
      pub clear-safe : Safe m cut r.place k
      clear-safe p a sooner runs touch = go (dec_lt p (cut a)) (ℕ_discrete a k)
        where
          go : Dec (p < cut a) → Dec (a ≡ k) → Done m cut p a
          go (yes d) _ = record { runs = runs; passed = d }
          go (no d) (yes e) = absurd (r.quiet p (let z = ap cut e in omega arith) sooner (rw e at runs))
          go (no d) (no e) = absurd (no-hazard-before p a sooner runs e d touch)

    -- what k does now, where that is so, is what it does there
    module _ (r : NextRun m (cut k) k c) (safe : Safe m cut r.place k) where
      abbrev effect : Effect
      effect = effect_of m k (thread_at ts k).segment c x

      abbrev there : ℕ
      there = (record_at m r.place k).segment

      effect-there : effect ≡ effect_of m k there (now_at m r.place) x
      effect-there = ap₂ (λ (s : ℕ) (d : Cycle). effect_of m k s d x) (same-segment r) (sym r.now)

      -- (B) it finds what the plain run finds there
      pub found : Agree (λ v. T (uses_in m k there v)) x (place_at m r.place).variables
      found = agree m pf kl cut x ic.good r.place k r.runs r.from r.quiet safe

      alike : Alike (λ v. T (uses_in m k there v)) (effect_of m k there (now_at m r.place) x) (effect_there m r.place k)
      alike = kl.footprints.local k there (now_at m r.place) x (place_at m r.place).variables found

      pub effect-thread : effect.thread ≡ (effect_there m r.place k).thread
      effect-thread = ap (λ (y : Effect). y.thread) effect-there ∙ alike.same_thread

      pub effect-notified : effect.notified ≡ (effect_there m r.place k).notified
      effect-notified = ap (λ (y : Effect). y.notified) effect-there ∙ alike.same_notified

      -- (C) and leaves the variables good
      pub effect-good : Good m (moved cut k (suc r.place)) effect.variables
      effect-good = subst (λ (y : Effect). Good m (moved cut k (suc r.place)) y.variables) (sym effect-there) (good-step m pf kl cut x ic.good r.place k r.runs r.from r.quiet safe)
