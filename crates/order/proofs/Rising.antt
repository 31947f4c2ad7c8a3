-- On a grant no bound falls up to the horizon (slip 5): neither a thread's earliest nor its earliest plus the distance to a segment.
-- The run: what it notifies at c, the forecast knew; its own thread goes on from c by a step of the segment graph, or waits and
-- is raised to the delta after c. Deliveries and the drop: early_laws.
-- Takes as given the laws of distances (Distances).
use Prim.Native.Nat.{ℕ, ◌<◌}
use mathlib.Core.Path.{◌≡◌, refl, ap, sym, ◌∙◌, subst}
use mathlib.Core.Logic.{◌⊎◌, inl, inr}
use mathlib.Core.List.{List}
use native.Mathlib.Decide.{ℕ_discrete}
use lib.Dec.{T}
use lib.ListN.{length}
use Rattle.clock.specs.declared.Cycle.{Cycle}
use Rattle.clock.specs.declared.Bound.{Bound}
use Rattle.clock.specs.declared.Bound.TheVariants.{At}
use Rattle.clock.specs.Advance.{◌⊕◌, one_delta}
use Rattle.clock.specs.Order.{◌⊑◌, ◌≼◌}
use Rattle.clock.proofs.OrderLaws.{Before→⊑, ⊑_refl, ≼_refl, ≼_trans}
use Rattle.clock.proofs.AdvanceLaws.{⊕-mono, ⊕-inflate, ⊕-no_advance}
use Rattle.model.specs.declared.Model.{Model}
use Rattle.model.specs.declared.Thread.{Thread}
use Rattle.model.specs.Limits.{is_up_to_horizon}
use Rattle.model.specs.Record as view
use Rattle.model.specs.Record.{thread_at, is_live, nothing, awaited_by, awaited_of, View, view_of}
use Rattle.model.specs.Effect.{Effect}
use Rattle.model.specs.Footprint.{has}
use Rattle.plain.specs.Wake.{floor_of}
use Rattle.plain_laws.proofs.RecordLaws.{awaits→waits, effect_of-later, horizon-mono}
use Rattle.tables.specs.Word.{distance_in}
use Rattle.early.specs.declared.Notification.{Notification}
use Rattle.early.specs.declared.Site.{Site}
use Rattle.early.specs.Log.{log_of, pair_of, drop_before}
use Rattle.early.specs.Earliest.{source_of, soonest_notify, raised, link_to}
use Rattle.early.specs.Grant.{effect_at, log_after, closed_threads, threads_after, site_after}
use Rattle.early_laws.proofs.LogLaws.{In, with_pairs-only, drop_before-only}
use Rattle.early_laws.proofs.RaiseLaws.{raised-since}
use Rattle.early_laws.proofs.LinkLaws.{source_of-ready, source_of-waiting, source_of-idle, link_to-other, link_to-case}
use Rattle.early_laws.proofs.EarliestLaws.{earliest_at, earliest-ready, earliest-heard, earliest-link}
use Rattle.early_laws.proofs.ForecastLaws.{earliest-since}
use Rattle.early_laws.proofs.GrantLaws.{closed_threads-self, closed_threads-other, site_after-log}
use Rattle.early_laws.proofs.RiseLaws.{Rises, rises-≼, rises-⊕, heard-risen, earliest-risen, notify-risen, waiting-risen}
use Rattle.early_laws.proofs.RisingLaws.{Rising, rising-trans, settled-rising, unheard-rising}
use Rattle.order.proofs.KitLaws.{Distances}

-- up to the horizon
abbrev pub InTime : Model → Cycle → Type 0
InTime m x = T (is_up_to_horizon m x)

pub in_time-down : (m : Model) (a b : Cycle) → a ⊑ b → InTime m b → InTime m a
in_time-down m a b h t = horizon-mono m h t

-- thread i, ready at c, has run and closed
module _ (m : Model) {ws : List ℕ} (ds : Distances m ws) (site : Site) (ts : List Thread) (i : ℕ) (c : Cycle)
    (below : i < m.t) (lent : i < length ts) (inside : (thread_at ts i).segment < m.n) (ready : view_of (thread_at ts i).state ≡ view.ready c) where
  abbrev Up : Cycle → Type 0
  Up = InTime m

  abbrev old : List Notification
  old = log_of site

  abbrev new : List Notification
  new = log_after m site ts i c

  abbrev us : List Thread
  us = closed_threads m site ts i c

  -- its view then
  abbrev Closes : View → Type 0
  Closes v = view_of (effect_at m site ts i c).thread.state ≡ v

  closed-view : (v : View) → view_of (thread_at us i).state ≡ v → Closes v
  closed-view v w = ap (λ (t : Thread). view_of t.state) (sym (closed_threads-self m site ts i c lent)) ∙ w

  ready-later : (d : Cycle) → Closes (view.ready d) → c ⊑ d
  unfolding effect_at
  ready-later d w = Before→⊑ (effect_of-later m i (thread_at ts i).segment c site.variables.at d w)

  waits-since : (e : ℕ) (since : Cycle) → Closes (view.waits e since) → since ≡ c
  unfolding effect_at
  waits-since e since w = ds.wait_begins i (thread_at ts i).segment c site.variables.at e since w

  here : earliest_at m ws old ts i ≡ At c
  here = earliest-ready m ws old ts i c below ready

  -- a source at thread i, and at any other: a new pair is what its forecast knew
  source-self : Rises Up (At c) (source_of new (thread_at us i).state)
  source-self = go (view_of (thread_at us i).state) refl
    where
      go : (v : View) → view_of (thread_at us i).state ≡ v → Rises Up (At c) (source_of new (thread_at us i).state)
      go view.idle w = rw (source_of-idle new (thread_at us i).state (rw w tt)) (λ x u p. absurd p)
      go (view.ready d) w =
          rw (source_of-ready new (thread_at us i).state d w)
          (rises-≼ Up (At c) (At d) (ready-later d (closed-view (view.ready d) w)))
      go (view.waits e since) w =
          rw (source_of-waiting new (thread_at us i).state e since w)
          (heard-risen Up new e since (At c) (λ a j r.
          ≼_trans (At c) (At a) (At a ⊕ one_delta) (subst (λ (z : Cycle). z ⊑ a) (waits-since e since (closed-view (view.waits e since) w)) r) (⊕-inflate (At a) one_delta)))

  new-known : (k e : ℕ) (since a : Cycle) → k < m.t → view_of (thread_at ts k).state ≡ view.waits e since → In (pair_of e a) new → since ⊑ a
      → earliest_at m ws old ts k ≼ At a ⊕ one_delta
  unfolding log_after effect_at
  new-known k e since a h w held begun = go (with_pairs-only old c (effect_at m site ts i c).notified held)
    where
      s : ℕ
      s = (thread_at ts i).segment

      at_c : earliest_at m ws old ts i ⊕ distance_in m ws s s ≼ At c
      at_c = rw (here, ds.self s inside, ⊕-no_advance (At c)) ⊑_refl

      go : In (pair_of e a) old ⊎ ((a ≡ c) × T (has (effect_at m site ts i c).notified e)) → earliest_at m ws old ts k ≼ At a ⊕ one_delta
      go (inl held) = earliest-heard m ws old ts k e since (pair_of e a) h w held refl begun
      go (inr (f, t)) =
          earliest-link m ws old ts k e since i s (At a) h w below (rw ready tt) inside
          (ds.listed i s c site.variables.at e t) begun (rw f at_c)

  source-other : (k : ℕ) → k < m.t → (k ≡ i → ⊥) → Rises Up (earliest_at m ws old ts k) (source_of new (thread_at us k).state)
  source-other k h other = rw (closed_threads-other m site ts i c k other) (go (view_of (thread_at ts k).state) refl)
    where
      go : (v : View) → view_of (thread_at ts k).state ≡ v → Rises Up (earliest_at m ws old ts k) (source_of new (thread_at ts k).state)
      go view.idle w = rw (source_of-idle new (thread_at ts k).state (rw w tt)) (λ x u p. absurd p)
      go (view.ready d) w = rw (source_of-ready new (thread_at ts k).state d w, earliest-ready m ws old ts k d h w) (λ x u p. p)
      go (view.waits e since) w =
          rw (source_of-waiting new (thread_at ts k).state e since w)
          (heard-risen Up new e since (earliest_at m ws old ts k) (λ a. new-known k e since a h w))

  -- from a bound of thread j after, that has risen, to its sum with a distance
  bound-self : (s : ℕ) (x : Bound) → s < m.n → T (is_live (thread_at us i).state) → earliest_at m ws new us i ≼ x
      → Rises Up (At c ⊕ distance_in m ws (thread_at ts i).segment s) (x ⊕ distance_in m ws (thread_at us i).segment s)
  unfolding effect_at
  bound-self s x sn live low z u p = go (view_of (thread_at us i).state) refl live
    where
      run : Effect
      run = effect_at m site ts i c

      from : (b : Bound) → b ≼ earliest_at m ws new us i → b ⊕ distance_in m ws run.thread.segment s ≼ At z
      from b h =
          let d = distance_in m ws run.thread.segment s in
          ≼_trans (b ⊕ d) (x ⊕ d) (At z) (⊕-mono b x d d (≼_trans b (earliest_at m ws new us i) x h low) (≼_refl d))
          (subst (λ (t : Thread). x ⊕ distance_in m ws t.segment s ≼ At z) (closed_threads-self m site ts i c lent) p)

      go : (v : View) → view_of (thread_at us i).state ≡ v → T (view.is_live_view v) → At c ⊕ distance_in m ws (thread_at ts i).segment s ≼ At z
      go view.idle w t = absurd t
      go (view.ready d) w t =
          ds.from_wait i (thread_at ts i).segment s c d z site.variables.at inside sn (closed-view (view.ready d) w) u
          (from (At d) (rw (earliest-ready m ws new us i d below w) ⊑_refl))
      go (view.waits e since) w t =
          ds.from_event i (thread_at ts i).segment e s c since z site.variables.at inside sn (closed-view (view.waits e since) w) u
          (from (At c ⊕ one_delta) (subst (λ (y : Cycle). At y ⊕ one_delta ≼ earliest_at m ws new us i) (waits-since e since (closed-view (view.waits e since) w)) (earliest-since m ws new us i e since below w)))

  bound-risen : (j s : ℕ) (x : Bound) → s < m.n → T (is_live (thread_at us j).state) → earliest_at m ws new us j ≼ x → Rises Up (earliest_at m ws old ts j) x
      → Rises Up (earliest_at m ws old ts j ⊕ distance_in m ws (thread_at ts j).segment s) (x ⊕ distance_in m ws (thread_at us j).segment s)
  bound-risen j s x sn live low r = go (ℕ_discrete j i)
    where
      go : Dec (j ≡ i) → Rises Up (earliest_at m ws old ts j ⊕ distance_in m ws (thread_at ts j).segment s) (x ⊕ distance_in m ws (thread_at us j).segment s)
      go (yes e) =
          rw (e, here)
          (bound-self s x sn (subst (λ (k : ℕ). T (is_live (thread_at us k).state)) e live) (subst (λ (k : ℕ). earliest_at m ws new us k ≼ x) e low))
      go (no other) =
          rw (closed_threads-other m site ts i c j other)
          (rises-⊕ Up (in_time-down m) (distance_in m ws (thread_at ts j).segment s) (earliest_at m ws old ts j) x r)

  -- a link to thread i is raised to the delta after c; one to any other is no sooner than before
  link-self : (j : ℕ) (x : Bound) → Rises Up (At c) (link_to m ws us j i x)
  link-self j x =
      link_to-case m ws us j i (λ (f : Bound → Bound). Rises Up (At c) (f x)) (λ z u p. absurd p)
      (λ e since w.
      let begun = waits-since e since (closed-view (view.waits e since) (awaits→waits (view_of (thread_at us i).state) e since w)) in
      let y = raised since (soonest_notify m ws us j x e) in
      rises-≼ Up (At c) (y ⊕ one_delta)
      (≼_trans (At c) y (y ⊕ one_delta) (subst (λ (z : Cycle). At z ≼ y) begun (raised-since since (soonest_notify m ws us j x e))) (⊕-inflate y one_delta)))

  link-other : (j k : ℕ) (x : Bound) → j < m.t → k < m.t → (k ≡ i → ⊥) → earliest_at m ws new us j ≼ x → Rises Up (earliest_at m ws old ts j) x
      → Rises Up (earliest_at m ws old ts k) (link_to m ws us j k x)
  link-other j k x p h other low r = go (view_of (thread_at us k).state) refl
    where
      none : awaited_by (thread_at us k).state ≡ nothing → Rises Up (earliest_at m ws old ts k) (link_to m ws us j k x)
      none w = rw (link_to-other m ws us j k x w) (λ z u q. absurd q)

      go : (v : View) → view_of (thread_at us k).state ≡ v → Rises Up (earliest_at m ws old ts k) (link_to m ws us j k x)
      go view.idle w = none (ap awaited_of w)
      go (view.ready d) w = none (ap awaited_of w)
      go (view.waits e since) w =
          waiting-risen Up m ws old ts ws new us (in_time-down m) j k e since x h
          (ap (λ (t : Thread). view_of t.state) (sym (closed_threads-other m site ts i c k other)) ∙ w) w
          (notify-risen Up m ws old ts ws new us j e x p (λ s n t. bound-risen j s x n t low r))

  ran-earliest : (k : ℕ) → k < m.t → Rises Up (earliest_at m ws old ts k) (earliest_at m ws new us k)
  ran-earliest = earliest-risen Up m ws old ts ws new us (λ k h. sources k h (ℕ_discrete k i)) (λ j k x p h low r. links j k x p h low r (ℕ_discrete k i))
    where
      sources : (k : ℕ) → k < m.t → Dec (k ≡ i) → Rises Up (earliest_at m ws old ts k) (source_of new (thread_at us k).state)
      sources k h (yes e) = rw (e, here) source-self
      sources k h (no other) = source-other k h other

      links : (j k : ℕ) (x : Bound) → j < m.t → k < m.t → earliest_at m ws new us j ≼ x → Rises Up (earliest_at m ws old ts j) x → Dec (k ≡ i)
          → Rises Up (earliest_at m ws old ts k) (link_to m ws us j k x)
      links j k x p h low r (yes e) = rw (e, here) (link-self j x)
      links j k x p h low r (no other) = link-other j k x p h other low r

  pub ran-rising : Rising Up m ws old ts ws new us
  ran-rising =
      record {
        earliest = ran-earliest;
        bound = λ j s h n t. bound-risen j s (earliest_at m ws new us j) n t (≼_refl (earliest_at m ws new us j)) (ran-earliest j h);
      }

  -- the whole grant: the run, the deliveries, the drop
  pub grant-rising : Rising Up m ws (log_of site) ts ws (log_of (site_after m ws site ts i c)) (threads_after m ws site ts i c)
  unfolding threads_after
  grant-rising =
      let vs = threads_after m ws site ts i c in
      rw (site_after-log m site ts i c ws)
      (rising-trans Up m ws ran-rising
      (rising-trans Up m ws (settled-rising Up m ws (in_time-down m) new us)
      (unheard-rising Up m ws (in_time-down m) new (drop_before (floor_of m vs) new) vs (λ k e since a h w j r. (drop_before-only (floor_of m vs) new j).0))))
