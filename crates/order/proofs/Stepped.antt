-- One run from a reached state, of a thread whose next place is safe and has places in the log: the run leaves a cut, the deliveries keep it and come
-- to rest, and the drop keeps it at its floor, with room in the log. Whoever is running then was running before.
-- Takes as given the facts of the plain run (PlainFacts) and the laws of the kit (KitLaws).
use Prim.Native.Nat.{ℕ, suc, ◌<◌}
use mathlib.Core.Path.{◌≡◌, refl, ap, sym, ◌∙◌, subst}
use mathlib.Core.Logic.{◌⊎◌, inl, inr}
use mathlib.Core.Bool.{Bool, true, cond}
use mathlib.Core.List.{List, [], ◌∷◌, ◌++◌, append_assoc, Memᴰ}
use native.Mathlib.Omega.{arith}
use native.Mathlib.Decide.{ℕ_discrete}
use lib.Dec.{T, eqb}
use lib.ListN.{length}
use Rattle.clock.specs.declared.Cycle.{Cycle}
use Rattle.clock.specs.declared.Bound.{Bound}
use Rattle.model.specs.declared.Model.{Model}
use Rattle.model.specs.declared.Thread.{Thread}
use Rattle.model.specs.Record as view
use Rattle.model.specs.Record.{thread_at, cycle_of, is_running, view_of}
use Rattle.model.specs.Limits.{is_up_to_horizon}
use Rattle.model.specs.Footprint.{has, listed_in, notifies_in}
use Rattle.plain.specs.Wake.{floor_of}
use Rattle.plain.specs.History.{Item, ran}
use Rattle.plain_laws.proofs.RecordLaws.{effect_of-unbegun}
use Rattle.early.specs.declared.Notification.{Notification}
use Rattle.early.specs.declared.Site.{Site}
use Rattle.early.specs.Log.{pair_of, log_of, counted_log, drop_before}
use Rattle.early.specs.Deliver.{settled_items}
use Rattle.early.specs.Grant.{effect_at, log_after, closed_threads, threads_after, site_after, items_after}
use Rattle.early_laws.proofs.LogLaws.{with_pairs-only, drop_before-only}
use Rattle.early_laws.proofs.OnceLaws.{Once, once-length}
use Rattle.early_laws.proofs.CountedLaws.{with_running-kept, with_running-new, with_running-only, with_running-once}
use Rattle.early_laws.proofs.SettleLaws.{settled-running}
use Rattle.early_laws.proofs.GrantLaws.{closed_threads-self, closed_threads-other, threads_after-rest}
use Rattle.order.proofs.PlainFacts.{PlainFacts, NextRun}
use Rattle.order.proofs.KitLaws.{KitLaws}
use Rattle.order.proofs.Invariant.{Safe, IsCut, SomeCut, moved, adding}
use Rattle.order.proofs.GrantedCut.{granted-cut}
use Rattle.order.proofs.HeardCut.{cut-same}
use Rattle.order.proofs.Settle.{settled-cut}
use Rattle.order.proofs.Drop.{rest-quiet, floor-rises, dropped-cut}
use Rattle.order.proofs.Capacity.{roomy-within, Room}
use Rattle.order.proofs.Reached.{Soon, Reached}

-- whoever is running after a run of thread k was running before it, and is not k
pub after-running : (m : Model) (ws : List ℕ) (site : Site) (ts : List Thread) (k : ℕ) (c : Cycle) → k < length ts → (j : ℕ)
    → is_running (thread_at (threads_after m ws site ts k c) j).state ≡ true
    → (j ≡ k → ⊥) × (thread_at (threads_after m ws site ts k c) j ≡ thread_at ts j)
unfolding threads_after effect_at
after-running m ws site ts k c inside j runs = go (ℕ_discrete j k)
  where
    us : List Thread
    us = closed_threads m site ts k c

    same : thread_at (threads_after m ws site ts k c) j ≡ thread_at us j
    same = settled-running m ws (log_after m site ts k c) us j runs

    go : Dec (j ≡ k) → (j ≡ k → ⊥) × (thread_at (threads_after m ws site ts k c) j ≡ thread_at ts j)
    go (no other) = (other, same ∙ closed_threads-other m site ts k c j other)
    go (yes e) =
        let closed : thread_at us j ≡ (effect_at m site ts k c).thread = ap (thread_at us) e ∙ closed_threads-self m site ts k c inside in
        let unbegun = effect_of-unbegun m k (thread_at ts k).segment c site.variables.at in
        absurd (subst T (sym runs ∙ ap (λ (t : Thread). is_running t.state) (same ∙ closed) ∙ unbegun) tt)

module _ (m : Model) (pf : PlainFacts m) {marks : List (List Bool)} {ws : List ℕ} (kl : KitLaws m marks ws) where
  module _ (site : Site) (ts : List Thread) (h : ℕ → List Item) (cut : ℕ → ℕ) (ic : IsCut m site.variables.at (log_of site) ts h cut (floor_of m ts))
      (k : ℕ) (c : Cycle) (below : k < m.t) (ready : view_of (thread_at ts k).state ≡ view.ready c) (run : NextRun m (cut k) k c) (safe : Safe m cut run.place k)
    where
      abbrev pub items : List Item
      items = ran (thread_at ts k).segment c ∷ []

      pub ran-cut : SomeCut m (effect_at m site ts k c).variables (log_after m site ts k c) (closed_threads m site ts k c) (adding h k items) (floor_of m ts)
      unfolding effect_at log_after closed_threads
      ran-cut = (moved cut k (suc run.place), granted-cut m pf kl ic k c below ready run safe)

      pub delivered-cut : SomeCut m (effect_at m site ts k c).variables (log_after m site ts k c) (threads_after m ws site ts k c)
          (λ j. h j ++ items_after m ws site ts k c j) (floor_of m ts)
      unfolding threads_after items_after adding
      delivered-cut =
          let new = log_after m site ts k c in
          let us = closed_threads m site ts k c in
          let (cut', ic') = settled-cut m pf kl (effect_at m site ts k c).variables new (adding h k items) (floor_of m ts) us ran-cut in
          (cut', cut-same ic' refl (λ j. append_assoc (h j) (cond (eqb j k) items []) (settled_items m ws new us j)))

      module _ (soon : Soon m ts) (room : Room (floor_of m ts) (counted_log m ts (log_of site)) c (listed_in m k (thread_at ts k).segment)) where
        abbrev new : List Notification
        new = log_after m site ts k c

        abbrev vs : List Thread
        vs = threads_after m ws site ts k c

        abbrev floor : Bound
        floor = floor_of m vs

        after : IsCut m (effect_at m site ts k c).variables new vs (λ j. h j ++ items_after m ws site ts k c j) delivered-cut.0 (floor_of m ts)
        after = delivered-cut.1

        running-before : (j : ℕ) → is_running (thread_at vs j).state ≡ true → thread_at vs j ≡ thread_at ts j
        running-before j runs = (after-running m ws site ts k c (omega (arith, ic.size)) j runs).1

        -- what it has logged had its places
        logged-within : (y : Notification) → Memᴰ y new → Memᴰ y room.log
        unfolding log_after effect_at notifies_in
        logged-within y i = go (with_pairs-only (log_of site) c (effect_at m site ts k c).notified i)
          where
            go : Memᴰ y (log_of site) ⊎ ((y.cycle ≡ c) × T (has (effect_at m site ts k c).notified y.event)) → Memᴰ y room.log
            go (inl j) = room.kept y (with_running-kept m ts (log_of site) m.t j)
            go (inr (e, t)) =
                subst (λ (d : Cycle). Memᴰ (pair_of y.event d) room.log) (sym e)
                (room.listed y.event (kl.distances.listed k (thread_at ts k).segment c site.variables.at y.event t))

        -- and what is counted after it was counted before
        counted-within : (y : Notification) → Memᴰ y (counted_log m vs (drop_before floor new)) → Memᴰ y room.log
        counted-within y i = go (with_running-only m vs (drop_before floor new) m.t i)
          where
            go : Memᴰ y (drop_before floor new) ⊎ ((j : ℕ) × (j < m.t) × (is_running (thread_at vs j).state ≡ true) × (y.cycle ≡ cycle_of (thread_at vs j).state) × T (has (listed_in m j (thread_at vs j).segment) y.event))
                → Memᴰ y room.log
            go (inl j) = logged-within y (drop_before-only floor new j).0
            go (inr (j, jt, runs, e, t)) =
                let same = running-before j runs in
                room.kept y
                (subst (λ (d : Cycle). Memᴰ (pair_of y.event d) (counted_log m ts (log_of site))) (sym (e ∙ ap (λ (u : Thread). cycle_of u.state) same))
                (with_running-new m ts (log_of site) m.t j y.event jt (ap (λ (u : Thread). is_running u.state) (sym same) ∙ runs)
                (subst (λ (u : Thread). T (has (listed_in m j u.segment) y.event)) same t)))

        pub ran-reached : Reached m (site_after m ws site ts k c) vs (λ j. h j ++ items_after m ws site ts k c j)
        unfolding site_after log_after
        ran-reached =
            record {
              variables = (effect_at m site ts k c).variables;
              log = drop_before floor new;
              site_is = refl;
              cut = delivered-cut.0;
              is_cut = dropped;
              roomy = roomy-within (floor_of m ts) floor counted room.log once counted-within (floor-rises after) room.roomy;
              short = omega (arith, once-length once room.log counted-within, room.short);
              soon = λ j jt runs.
                  let same = running-before j runs in
                  subst (λ (u : Thread). is_up_to_horizon m (cycle_of u.state) ≡ true) (sym same) (soon j jt (ap (λ (u : Thread). is_running u.state) (sym same) ∙ runs));
            }
          where
            counted : List Notification
            counted = counted_log m vs (drop_before floor new)

            dropped : IsCut m (effect_at m site ts k c).variables (drop_before floor new) vs (λ j. h j ++ items_after m ws site ts k c j) delivered-cut.0 floor
            dropped = dropped-cut after (rest-quiet m kl new vs (threads_after-rest m site ts k c ws))

            once : Once counted
            once = with_running-once m vs (drop_before floor new) m.t dropped.once
