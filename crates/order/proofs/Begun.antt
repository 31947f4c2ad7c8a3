-- A grant: its thread becomes running, and is seen as before, so that the cut stays as it is; its places are counted from now on; and the values that
-- are held for it are those that the plain run has at the place that it is to run (`Issued`).
-- Takes as given the facts of the plain run (PlainFacts) and the laws of the kit (KitLaws).
use Prim.Native.Nat.{ℕ, ◌*◌, ◌<◌, ◌≤◌}
use mathlib.Core.Path.{◌≡◌, refl, ap, sym, ◌∙◌, subst}
use mathlib.Core.Logic.{◌⊎◌, inl, inr}
use mathlib.Core.Bool.{Bool, true}
use mathlib.Core.List.{List, Memᴰ}
use native.Mathlib.Omega.{arith}
use native.Mathlib.Decide.{ℕ_discrete}
use lib.Dec.{T}
use lib.ListN.{length, set, length-set}
use Rattle.clock.specs.declared.Cycle.{Cycle}
use Rattle.clock.specs.declared.Bound.{Bound}
use Rattle.clock.proofs.OrderLaws.{≼_refl}
use Rattle.model.specs.declared.Model.{Model}
use Rattle.model.specs.declared.Thread.{Thread}
use Rattle.model.specs.Limits.{is_up_to_horizon}
use Rattle.model.specs.Record.{thread_at, cycle_of, is_running}
use Rattle.model.specs.Footprint.{has, listed_in, uses_in}
use Rattle.model_effect.proofs.FrameLaws.{Agree}
use Rattle.plain.specs.Step.{place_at}
use Rattle.plain.specs.Wake.{floor_of}
use Rattle.plain.specs.History.{Item}
use Rattle.plain_laws.proofs.RecordLaws.{thread_at-set, thread_at-other, ready-cycle}
use Rattle.early.specs.declared.Notification.{Notification}
use Rattle.early.specs.declared.Site.{Site}
use Rattle.early.specs.Log.{places, pair_of, log_of, counted_log}
use Rattle.early.specs.Call.{held_count, with_held}
use Rattle.early_laws.proofs.OnceLaws.{Once, once-length}
use Rattle.early_laws.proofs.CountedLaws.{with_running-kept, with_running-new, with_running-only, with_running-once}
use Rattle.early_laws.proofs.HeldLaws.{held_at-same, held_at-other}
use Rattle.early_laws.proofs.RequestLaws.{Grantable}
use Rattle.order.proofs.Seen.{seen, begun_at, seen-begun}
use Rattle.order.proofs.PlainFacts.{PlainFacts}
use Rattle.order.proofs.KitLaws.{KitLaws}
use Rattle.order.proofs.Invariant.{IsCut}
use Rattle.order.proofs.CutLaws.{view-same, cut-seen}
use Rattle.order.proofs.Grant.{same-segment, found}
use Rattle.order.proofs.Floor.{floor-same}
use Rattle.order.proofs.Capacity.{Roomy, roomy-within, Room}
use Rattle.order.proofs.Reached.{Reached, reached-log, reached-cut}
use Rattle.order.proofs.Lists.{granted-ready, granted-run, granted-safe, granted-room}
use Rattle.order.proofs.Issued.{Issued, issued-kept}

module _ (m : Model) (pf : PlainFacts m) {marks : List (List Bool)} {ws : List ℕ} (kl : KitLaws m marks ws)
    (site : Site) (ts : List Thread) (h : ℕ → List Item) (r : Reached m site ts h) (k : ℕ) (c : Cycle) (g : Grantable m marks ws site ts k c) where
  abbrev us : List Thread
  us = set ts k (begun_at (thread_at ts k))

  abbrev old : List Notification
  old = log_of site

  pub begun-self : thread_at us k ≡ begun_at (thread_at ts k)
  begun-self = thread_at-set ts k (begun_at (thread_at ts k)) (omega (arith, g.thread, r.is_cut.size))

  pub begun-other : (j : ℕ) → (j ≡ k → ⊥) → thread_at us j ≡ thread_at ts j
  begun-other j other = thread_at-other ts k j (begun_at (thread_at ts k)) other

  begun-cycle : cycle_of (thread_at ts k).state ≡ c
  begun-cycle = ready-cycle (thread_at ts k).state c (granted-ready m pf kl site ts h r k c g)

  begun-seen : (j : ℕ) → seen (thread_at us j) ≡ seen (thread_at ts j)
  begun-seen j = go (ℕ_discrete j k)
    where
      go : Dec (j ≡ k) → seen (thread_at us j) ≡ seen (thread_at ts j)
      go (yes e) = rw e (ap seen begun-self ∙ seen-begun (thread_at ts k) c (granted-ready m pf kl site ts h r k c g))
      go (no other) = ap seen (begun-other j other)

  floors : floor_of m us ≡ floor_of m ts
  floors = floor-same m ts us (λ j. view-same (thread_at ts j) (thread_at us j) (begun-seen j))

  abbrev room : Room (floor_of m ts) (counted_log m ts old) c (listed_in m k (thread_at ts k).segment)
  room = granted-room m pf kl site ts h r k c g

  -- whoever is running now: thread k, or one that was
  begun-running : (j : ℕ) → is_running (thread_at us j).state ≡ true → (j ≡ k) ⊎ ((thread_at us j ≡ thread_at ts j) × (is_running (thread_at ts j).state ≡ true))
  begun-running j runs = go (ℕ_discrete j k)
    where
      go : Dec (j ≡ k) → (j ≡ k) ⊎ ((thread_at us j ≡ thread_at ts j) × (is_running (thread_at ts j).state ≡ true))
      go (yes e) = inl e
      go (no other) = let same = begun-other j other in inr (same, ap (λ (t : Thread). is_running t.state) (sym same) ∙ runs)

  -- what is counted now was counted, or had its places
  counted-within : (y : Notification) → Memᴰ y (counted_log m us old) → Memᴰ y room.log
  counted-within y i = go (with_running-only m us old m.t i)
    where
      In : Thread → ℕ → Type 0
      In t j = (y.cycle ≡ cycle_of t.state) × T (has (listed_in m j t.segment) y.event)

      by : (j : ℕ) → j < m.t → In (thread_at us j) j → (j ≡ k) ⊎ ((thread_at us j ≡ thread_at ts j) × (is_running (thread_at ts j).state ≡ true)) → Memᴰ y room.log
      by j below held (inl e) =
          let (p, t) = subst (λ (u : Thread). In u k) begun-self (subst (λ (n : ℕ). In (thread_at us n) n) e held) in
          subst (λ (d : Cycle). Memᴰ (pair_of y.event d) room.log) (sym (p ∙ begun-cycle)) (room.listed y.event t)
      by j below held (inr (same, runs)) =
          let (p, t) = subst (λ (u : Thread). In u j) same held in
          room.kept y (subst (λ (d : Cycle). Memᴰ (pair_of y.event d) (counted_log m ts old)) (sym p) (with_running-new m ts old m.t j y.event below runs t))

      go : Memᴰ y old ⊎ ((j : ℕ) × (j < m.t) × (is_running (thread_at us j).state ≡ true) × (y.cycle ≡ cycle_of (thread_at us j).state) × T (has (listed_in m j (thread_at us j).segment) y.event))
          → Memᴰ y room.log
      go (inl j) = room.kept y (with_running-kept m ts old m.t j)
      go (inr (j, below, runs, p, t)) = by j below (p, t) (begun-running j runs)

  pub begun-reached : Reached m site us h
  begun-reached =
      record {
        variables = r.variables;
        log = r.log;
        site_is = r.site_is;
        cut = r.cut;
        is_cut = subst (λ (b : Bound). IsCut m r.variables r.log us h r.cut b) (sym floors) (cut-seen (length-set ts k (begun_at (thread_at ts k))) begun-seen r.is_cut);
        roomy =
            subst (λ (l : List Notification). Roomy (floor_of m us) (counted_log m us l)) (reached-log r)
            (roomy-within (floor_of m ts) (floor_of m us) (counted_log m us old) room.log once counted-within (rw floors (≼_refl (floor_of m ts))) room.roomy);
        short =
            subst (λ (l : List Notification). length (counted_log m us l) ≤ places) (reached-log r)
            (omega (arith, once-length once room.log counted-within, room.short));
        soon = λ j below runs. soon-by j below (begun-running j runs);
      }
    where
      once : Once (counted_log m us old)
      once = with_running-once m us old m.t (reached-cut r).once

      soon-by : (j : ℕ) → j < m.t → (j ≡ k) ⊎ ((thread_at us j ≡ thread_at ts j) × (is_running (thread_at ts j).state ≡ true)) → is_up_to_horizon m (cycle_of (thread_at us j).state) ≡ true
      soon-by j below (inl e) = rw (e, begun-self, begun-cycle) g.in-time
      soon-by j below (inr (same, runs)) = rw same (r.soon j below runs)

  -- the values of thread k, and those of whoever was running
  module _ (held : List ℕ) (enough : held_count * m.t ≤ length held) where
    abbrev now : List ℕ
    now = site.variables.at

    begun-self-issued : Issued m r.cut h us (with_held held k now) k
    begun-self-issued =
        let run = granted-run m pf kl site ts h r k c g in
        let ready = granted-ready m pf kl site ts h r k c g in
        let safe = granted-safe m pf kl site ts h r k c g in
        record {
          place = run.place;
          runs = run.runs;
          history = run.history ∙ sym (r.is_cut.history k g.thread);
          safe = safe;
          agree =
              rw (begun-self, held_at-same held k now (reached-cut r).good.size (omega (arith, g.thread)))
              (subst (λ (s : ℕ). Agree (λ v. T (uses_in m k s v)) now (place_at m run.place).variables)
              (sym (same-segment m pf kl (reached-cut r) k c g.thread ready run)) (found m pf kl (reached-cut r) k c g.thread ready run safe));
        }

    pub begun-issued : ((j : ℕ) → j < m.t → is_running (thread_at ts j).state ≡ true → Issued m r.cut h ts held j)
        → (j : ℕ) → j < m.t → is_running (thread_at us j).state ≡ true → Issued m begun-reached.cut h us (with_held held k now) j
    unfolding begun-reached
    begun-issued before j below runs = go (ℕ_discrete j k)
      where
        go : Dec (j ≡ k) → Issued m r.cut h us (with_held held k now) j
        go (yes e) = rw e begun-self-issued
        go (no other) =
            let same = begun-other j other in
            issued-kept (λ q i d. d) refl same (held_at-other held k j now (reached-cut r).good.size other) (before j below (ap (λ (t : Thread). is_running t.state) (sym same) ∙ runs))
