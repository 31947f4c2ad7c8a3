-- Never a standstill (section 6 of the argument). In a reached state the least ready stamp up to the horizon has no hazard,
-- since every earliest is at the floor or later and a waiting thread's is later; and its request finds places in the log.
-- So it is granted, unless it is running; and where some thread is ready up to the horizon, there is a least.
-- Takes as given the facts of the plain run (PlainFacts) and the laws of the kit (KitLaws).
use Prim.Native.Nat.{ℕ, ◌≤◌, ◌<◌}
use mathlib.Core.Path.{◌≡◌, refl, ap, sym, ◌∙◌, subst, subst₂}
use mathlib.Core.Logic.{inl, inr}
use mathlib.Core.Bool.{Bool, true, false}
use mathlib.Core.List.{List}
use lib.Dec.{T, not_T}
use lib.ListN.{length}
use Rattle.base.proofs.BoolLaws.{T→true, T→false}
use Rattle.clock.specs.declared.Cycle.{Cycle}
use Rattle.clock.specs.declared.Bound.{Bound}
use Rattle.clock.specs.declared.Bound.TheVariants.{At}
use Rattle.clock.specs.Cycle.{stamp_at}
use Rattle.clock.specs.Order.{◌⊑◌, ◌≼◌}
use Rattle.clock.proofs.OrderLaws.{⊑_trans, ⊑-antisym, Before→not-⊑, ⊑_refl}
use Rattle.clock.proofs.CycleLaws.{StampBefore, →is_stamp_before}
use Rattle.model.specs.declared.Model.{Model}
use Rattle.model.specs.declared.Thread.{Thread}
use Rattle.model.specs.Limits.{is_up_to_horizon}
use Rattle.model.specs.Record as view
use Rattle.model.specs.Record.{thread_at, is_running, is_live, is_live_view, ready_cycle_of, View, view_of}
use Rattle.model.specs.Footprint.{listed_in, notifies_in}
use Rattle.plain.specs.Wake.{floor_of, some_ready}
use Rattle.plain.specs.History.{Item}
use Rattle.early.specs.declared.Notification.{Notification}
use Rattle.early.specs.declared.Site.{Site}
use Rattle.early.specs.Log.{places, site_of, counted_log, counted_places}
use Rattle.early.specs.Hazard.{is_sooner, hazard}
use Rattle.early.specs.Request.{is_full, granted_to, request_of}
use Rattle.early_laws.proofs.LogLaws.{log_of-site_of}
use Rattle.early_laws.proofs.CountedLaws.{with_running-once}
use Rattle.early_laws.proofs.HazardLaws.{is_sooner→}
use Rattle.early_laws.proofs.GrantLaws.{is_full-floor}
use Rattle.early_laws.proofs.RequestLaws.{request_of-granted}
use Rattle.order.proofs.Seen.{Unbegun}
use Rattle.order.proofs.PlainFacts.{PlainFacts}
use Rattle.order.proofs.KitLaws.{bound_in, KitLaws}
use Rattle.order.proofs.Invariant.{IsCut}
use Rattle.order.proofs.CutLaws.{cut-segment}
use Rattle.order.proofs.Floor.{floor-below}
use Rattle.order.proofs.Drop.{bound-finite, cut-quiet, floor-below-earliest, waiting-after-floor}
use Rattle.order.proofs.Capacity.{Roomy, floor-places}
use Rattle.order.proofs.Reached.{Soon, Reached, cut-fit, counted-known}
use Rattle.order.proofs.LeastReady.{LeastReady, least-floor, some-least}

module _ (m : Model) (pf : PlainFacts m) {marks : List (List Bool)} {ws : List ℕ} (kl : KitLaws m marks ws) where
  module _ {x : List ℕ} {l : List Notification} {ts : List Thread} {h : ℕ → List Item} {cut : ℕ → ℕ}
      (ic : IsCut m x l ts h cut (floor_of m ts)) (i : ℕ) (c : Cycle) (lr : LeastReady m ts i c) where
    fl : floor_of m ts ≡ At c
    fl = least-floor m ts i c lr

    -- a thread whose earliest is not after the floor is ready there, with no smaller number
    floor-thread : (j : ℕ) (a : Cycle) → j < m.t → T (is_live (thread_at ts j).state) → (kl.forecasts l ts).earliest j ≡ At a → a ⊑ c
        → j < i → ⊥
    floor-thread j a below live ea ac ji = go (view_of (thread_at ts j).state) refl live
      where
        go : (v : View) → view_of (thread_at ts j).state ≡ v → T (is_live_view v) → ⊥
        go view.idle e t = t
        go (view.waits f d) e t = Before→not-⊑ (waiting-after-floor m kl l ts (cut-quiet ic) j f d c a below e fl ea) ac
        go (view.ready d) e t = lr.least j d below e (→is_stamp_before (stamp_at d j) (stamp_at c i) (inr (at-floor, ji)))
          where
            same-a : d ≡ a
            same-a = let p : At d ≡ At a = sym ((kl.forecasts l ts).ready j d below e) ∙ ea in cc

            at-floor : d ≡ c
            at-floor = same-a ∙ ⊑-antisym ac (subst₂ (λ (b : Bound) (x : Cycle). b ≼ At x) fl same-a (floor-below m ts j d below e))

    pub least-free : hazard m marks ws l ts i c ≡ false
    least-free = T→false (hazard m marks ws l ts i c) (not_T (hazard m marks ws l ts i c) threatened)
      where
        threatened : T (hazard m marks ws l ts i c) → ⊥
        threatened t = found ((kl.forecasts l ts).some_hazard i c (T→true (hazard m marks ws l ts i c) t))
          where
            earliest : ℕ → Bound
            earliest = (kl.forecasts l ts).earliest

            found : (j : ℕ) × (s : ℕ) × (j < m.t) × (j ≡ i → ⊥) × T (is_live (thread_at ts j).state) × T (is_sooner (bound_in m ws ts earliest j s) j (stamp_at c i))
                → ⊥
            found (j, s, below, other, live, sooner-than) = at-cycle (is_sooner→ (bound_in m ws ts earliest j s) j c i sooner-than)
              where
                at-cycle : (b : Cycle) × (bound_in m ws ts earliest j s ≡ At b) × StampBefore (stamp_at b j) (stamp_at c i) → ⊥
                at-cycle (b, eb, stamp) = at-earliest (bound-finite m ws ts earliest j s b eb)
                  where
                    at-earliest : (a : Cycle) × (earliest j ≡ At a) × (a ⊑ b) → ⊥
                    at-earliest (a, ea, ab) = by-stamp stamp
                      where
                        above : c ⊑ a
                        above = subst₂ (λ (a b : Bound). a ≼ b) fl ea (floor-below-earliest m kl l ts (cut-quiet ic) j below)

                        by-stamp : StampBefore (stamp_at b j) (stamp_at c i) → ⊥
                        by-stamp (inl bc) = Before→not-⊑ bc (⊑_trans above ab)
                        by-stamp (inr (bc, ji)) = floor-thread j a below live ea (subst (λ (y : Cycle). a ⊑ y) bc ab) ji

    -- its request counts no more than 128 places
    pub least-counted : Roomy (floor_of m ts) (counted_log m ts l) → counted_places m (site_of x l) ts i (thread_at ts i).segment c ≤ places
    unfolding counted_places notifies_in
    least-counted room =
        rw (log_of-site_of x l)
        (floor-places m.e counted c (listed_in m i (thread_at ts i).segment) (with_running-once m ts l m.t ic.once) kl.ranges.events
        (subst (λ (b : Bound). Roomy b counted) fl room)
        (λ y held. let (event, low) = counted-known m pf kl ic y held in (event, subst (λ (b : Bound). b ≼ At y.cycle) fl low))
        (λ e t. kl.distances.listed_below i (thread_at ts i).segment e inside t))
      where
        counted : List Notification
        counted = counted_log m ts l

        inside : (thread_at ts i).segment < m.n
        inside = rw (cut-segment ic i lr.below) (pf.segment_below (cut i) i lr.below)

    pub least-room : Roomy (floor_of m ts) (counted_log m ts l) → is_full m (site_of x l) ts i c ≡ false
    least-room room = is_full-floor m (site_of x l) ts i c (subst (λ (b : Bound). At c ≼ b) (sym fl) ⊑_refl) (least-counted room)

    -- it is granted
    pub cut-granted : Roomy (floor_of m ts) (counted_log m ts l) → length (counted_log m ts l) ≤ places → Soon m ts → is_running (thread_at ts i).state ≡ false
        → T (is_up_to_horizon m c) → request_of m marks ws (site_of x l) ts i ≡ granted_to m ws (site_of x l) ts i c
    cut-granted room short soon unbegun early =
        request_of-granted m marks ws (site_of x l) ts i c (record {
          fit = cut-fit m pf kl ic soon short;
          thread = lr.below;
          unbegun = unbegun;
          ready = ap ready_cycle_of lr.ready;
          in-time = T→true (is_up_to_horizon m c) early;
          no_hazard = rw (log_of-site_of x l) least-free;
          room = least-room room;
        })

  -- the least ready stamp up to the horizon is always granted, unless it is running
  pub least-granted : (site : Site) (ts : List Thread) (h : ℕ → List Item) → Reached m site ts h → (i : ℕ) (c : Cycle)
      → LeastReady m ts i c → is_running (thread_at ts i).state ≡ false → T (is_up_to_horizon m c) → request_of m marks ws site ts i ≡ granted_to m ws site ts i c
  least-granted site ts h r i c lr unbegun early =
      subst (λ (s : Site). request_of m marks ws s ts i ≡ granted_to m ws s ts i c) (sym r.site_is)
      (cut-granted r.is_cut i c lr r.roomy r.short r.soon unbegun early)

  -- where nothing is running and one is ready up to the horizon, some thread's request is granted
  pub some-granted : (site : Site) (ts : List Thread) (h : ℕ → List Item) → Reached m site ts h → Unbegun m ts → some_ready m ts ≡ true
      → (k : ℕ) × (c : Cycle) × (k < m.t) × (request_of m marks ws site ts k ≡ granted_to m ws site ts k c)
  some-granted site ts h r unbegun e =
      let (i, c, lr, early) = some-least m ts e in
      (i, c, lr.below, least-granted site ts h r i c lr (unbegun i lr.below) early)
