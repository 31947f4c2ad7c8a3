-- From one state to another no bound falls, as far as some cycles go: `Rising`. So of deliveries and of the drop; and then no forecast falls,
-- and no hazard comes to stand. And where nobody hears anything, nobody does after the drop.
use Prim.Native.Nat.{ℕ, ◌<◌}
use mathlib.Core.Path.{◌≡◌, refl, sym, ◌∙◌, subst}
use mathlib.Core.Logic.{inl, inr}
use mathlib.Core.Bool.{Bool, false}
use mathlib.Core.List.{List}
use lib.Dec.{T, not_T}
use Rattle.base.proofs.BoolLaws.{T→true, T→false}
use Rattle.clock.specs.declared.Cycle.{Cycle}
use Rattle.clock.specs.declared.Bound.{Bound}
use Rattle.clock.specs.declared.Bound.TheVariants.{Never, At}
use Rattle.clock.specs.Cycle.{stamp_at}
use Rattle.clock.specs.Advance.{◌⊕◌}
use Rattle.clock.specs.Order.{◌⊑◌, ◌≼◌}
use Rattle.clock.proofs.OrderLaws.{Before→⊑, ≡→⊑, ≼_refl, ≼_trans, ≼-antisym}
use Rattle.clock.proofs.CycleLaws.{StampBefore}
use Rattle.model.specs.declared.Model.{Model}
use Rattle.model.specs.declared.Thread.{Thread}
use Rattle.model.specs.Record as view
use Rattle.model.specs.Record.{thread_at, is_live, awaits, awaited_of, View, view_of}
use Rattle.tables.specs.Word.{distance_in}
use Rattle.early.specs.declared.Notification.{Notification}
use Rattle.early.specs.Log.{pair_of, least_heard}
use Rattle.early.specs.Earliest.{source_of, link_to}
use Rattle.early.specs.Forecast.{forecast_of}
use Rattle.early.specs.Hazard.{threads_conflict, is_sooner, hazard}
use Rattle.early.specs.Deliver.{heard_now, looked_at, settled}
use Rattle.early_laws.proofs.LogLaws.{In, least_heard-more}
use Rattle.early_laws.proofs.LinkLaws.{source_of-ready, source_of-waiting, source_of-idle, link_to-inflate, link_to-mono}
use Rattle.early_laws.proofs.EarliestLaws.{earliest_at, earliest-relaxed, earliest-ready, earliest-heard}
use Rattle.early_laws.proofs.ForecastLaws.{forecast_attained}
use Rattle.early_laws.proofs.HazardLaws.{is_sooner→, →is_sooner, Threat, hazard→threat, threat→hazard}
use Rattle.early_laws.proofs.LookLaws.{heard_at, heard_now-at, heard_now-none, heard_at-waits, Looked, unheard, hears, looked, looked_at-segment}
use Rattle.early_laws.proofs.HearLaws.{earliest-rises}
use Rattle.early_laws.proofs.SettleLaws.{settled-carries}
use Rattle.early_laws.proofs.RestLaws.{Rest}
use Rattle.early_laws.proofs.RiseLaws.{bound-live, forecast-bound, Rises, rises-all, DownClosed, rises-≼, rises-trans, rises_by, rises-⊕, heard-risen, earliest-risen}

-- No bound falls from (ws, l, ts) to (ws', l', us), as far as the cycles in Up go: neither earliest nor earliest plus distance.
pub record Rising (Up : Cycle → Type 0) (m : Model) (ws : List ℕ) (l : List Notification) (ts : List Thread) (ws' : List ℕ) (l' : List Notification) (us : List Thread) : Type 0 where
  pub earliest : (j : ℕ) → j < m.t → Rises Up (earliest_at m ws l ts j) (earliest_at m ws' l' us j)
  pub bound : (j s : ℕ) → j < m.t → s < m.n → T (is_live (thread_at us j).state)
      → Rises Up (earliest_at m ws l ts j ⊕ distance_in m ws (thread_at ts j).segment s) (earliest_at m ws' l' us j ⊕ distance_in m ws' (thread_at us j).segment s)

-- so no forecast falls
pub rising-forecast : (Up : Cycle → Type 0) (m : Model) {ws ws' : List ℕ} {l l' : List Notification} {ts us : List Thread} → Rising Up m ws l ts ws' l' us → (e : ℕ)
    → Rises Up (forecast_of m ws l ts e) (forecast_of m ws' l' us e)
rising-forecast Up m {ws} {ws'} {l} {l'} {ts} {us} r e x u p = go (forecast_of m ws' l' us e) refl p
  where
    go : (b : Bound) → forecast_of m ws' l' us e ≡ b → b ≼ At x → forecast_of m ws l ts e ≼ At x
    go Never f q = absurd q
    go (At b) f q =
        let (j, s, h, live, n, listed, g) = forecast_attained m ws' l' us e b f in
        forecast-bound m ws l ts e j s x h n listed (r.bound j s h n live x u (subst (λ (z : Bound). z ≼ At x) (sym g) q))

-- with the same words
module _ (Up : Cycle → Type 0) (m : Model) (ws : List ℕ) where
  pub rising-same : (l : List Notification) (ts : List Thread) → Rising Up m ws l ts ws l ts
  rising-same l ts = record { earliest = λ j h x u p. p; bound = λ j s h n t x u p. p }

  pub rising-trans : {l l₁ l₂ : List Notification} {ts ts₁ ts₂ : List Thread} → Rising Up m ws l ts ws l₁ ts₁ → Rising Up m ws l₁ ts₁ ws l₂ ts₂ → Rising Up m ws l ts ws l₂ ts₂
  rising-trans {l} {l₁} {l₂} {ts} {ts₁} {ts₂} a b =
      record {
        earliest = λ j h x u p. a.earliest j h x u (b.earliest j h x u p);
        bound = λ j s h n t x u p.
            let q = b.bound j s h n t x u p in
            a.bound j s h n (bound-live m ws l₁ ts₁ j s x h q) x u q;
      }

  -- where every segment is kept, earliest alone counts
  pub rising-earliest : DownClosed Up → (l l' : List Notification) (ts us : List Thread) → ((j : ℕ) → (thread_at us j).segment ≡ (thread_at ts j).segment)
      → ((j : ℕ) → j < m.t → Rises Up (earliest_at m ws l ts j) (earliest_at m ws l' us j)) → Rising Up m ws l ts ws l' us
  rising-earliest down l l' ts us segment rise =
      record {
        earliest = rise;
        bound = λ j s h n t.
            rw
            (segment j)
            (rises-⊕ Up down (distance_in m ws (thread_at ts j).segment s) (earliest_at m ws l ts j) (earliest_at m ws l' us j) (rise j h));
      }

  -- a look, and so all deliveries
  pub looked-rising : DownClosed Up → (l : List Notification) (ts : List Thread) (k : ℕ) → k < m.t → Rising Up m ws l ts ws l (looked_at m ws l ts k)
  looked-rising down l ts k h =
      rising-earliest down l l ts (looked_at m ws l ts k) (looked_at-segment m ws l ts k)
      (λ j p. rises-≼ Up (earliest_at m ws l ts j) (earliest_at m ws l (looked_at m ws l ts k) j) (earliest-rises m ws l ts k h j p))

  pub settled-rising : DownClosed Up → (l : List Notification) (ts : List Thread) → Rising Up m ws l ts ws l (settled m ws l ts)
  settled-rising down l ts =
      settled-carries m ws l (λ us is. Rising Up m ws l ts ws l us) (λ us is k h r. rising-trans r (looked-rising down l us k h)) ts (rising-same l ts)

  -- a log of which no more can be heard: sources rise, and links are the same
  pub unheard-rising : DownClosed Up → (l l' : List Notification) (ts : List Thread)
      → ((k e : ℕ) (since c : Cycle) → k < m.t → view_of (thread_at ts k).state ≡ view.waits e since → In (pair_of e c) l' → since ⊑ c → In (pair_of e c) l)
      → Rising Up m ws l ts ws l' ts
  unheard-rising down l l' ts only =
      rising-earliest down l l' ts ts (λ j. refl) (earliest-risen Up m ws l ts ws l' ts sources links)
    where
      sources : (k : ℕ) → k < m.t → Rises Up (earliest_at m ws l ts k) (source_of l' (thread_at ts k).state)
      sources k h = go (view_of (thread_at ts k).state) refl
        where
          go : (v : View) → view_of (thread_at ts k).state ≡ v → Rises Up (earliest_at m ws l ts k) (source_of l' (thread_at ts k).state)
          go view.idle w = rw (source_of-idle l' (thread_at ts k).state (rw w tt)) (λ x u p. absurd p)
          go (view.ready c) w = rw (source_of-ready l' (thread_at ts k).state c w, earliest-ready m ws l ts k c h w) (λ x u p. p)
          go (view.waits e since) w =
              rw
              (source_of-waiting l' (thread_at ts k).state e since w)
              (heard-risen Up l' e since (earliest_at m ws l ts k) (λ c i r. earliest-heard m ws l ts k e since (pair_of e c) h w (only k e since c h w i r) refl r))

      links : (j k : ℕ) (x : Bound) → j < m.t → k < m.t → earliest_at m ws l' ts j ≼ x → Rises Up (earliest_at m ws l ts j) x → Rises Up (earliest_at m ws l ts k) (link_to m ws ts j k x)
      links j k x p q below r =
          rises-trans
          Up
          (earliest_at m ws l ts k)
          (link_to m ws ts j k (earliest_at m ws l ts j))
          (link_to m ws ts j k x)
          (rises-≼ Up (earliest_at m ws l ts k) (link_to m ws ts j k (earliest_at m ws l ts j)) (earliest-relaxed m ws l ts j k p q))
          (rises_by Up down (link_to m ws ts j k) (link_to-mono m ws ts j k) (link_to-inflate m ws ts j k) (earliest_at m ws l ts j) x r)

-- Nobody hears anything, so nobody does of a log that holds all that could be heard: what one would hear of it is the least of the first log
-- as well, and its forecast by the first log is no sooner, as all sources of chains are there.
pub rest-same : (m : Model) (ws : List ℕ) (l l' : List Notification) (ts : List Thread)
    → ((k e : ℕ) (since c : Cycle) → k < m.t → view_of (thread_at ts k).state ≡ view.waits e since → In (pair_of e c) l → since ⊑ c → In (pair_of e c) l')
    → ((y : Notification) → In y l' → In y l) → Rest m ws l ts → Rest m ws l' ts
rest-same m ws l l' ts kept only rest k h = go (looked m ws l' ts k)
  where
    go : Looked m ws l' ts k → heard_at m ws l' ts k ≡ Never
    go (unheard p) = p
    go (hears x p) = absurd (contrary (heard_at-waits m ws l' ts k x p))
      where
        contrary : (e : ℕ) × (since : Cycle) × (view_of (thread_at ts k).state ≡ view.waits e since) × (heard_now m ws l' ts (awaits e since) ≡ At x) → ⊥
        contrary (e, since, w, q) =
            let (f, b) = heard_now-at m ws l' ts e since x q in
            let same =
            ≼-antisym
            (least_heard l e since)
            (least_heard l' e since)
            (least_heard-more l' l e since (λ c i r. only (pair_of e c) i))
            (least_heard-more l l' e since (λ c i r. kept k e since c h w i r)) in
            let rise = rising-forecast (λ x. Unit {0}) m (unheard-rising (λ x. Unit {0}) m ws (λ a b p u. tt) l' l ts kept) e in
            let before = rises-all (forecast_of m ws l' ts e) (forecast_of m ws l ts e) rise in
            heard_now-none
            m
            ws
            l
            ts
            e
            since
            x
            (subst (λ (v : View). heard_now m ws l ts (awaited_of v) ≡ Never) w (rest k h))
            (same ∙ f)
            (≼_trans (At x) (forecast_of m ws l' ts e) (forecast_of m ws l ts e) b before)

-- A hazard that does not stand for thread i does not come to stand while i stays in its segment: whoever threatens it after, did before.
module _ (Up : Cycle → Type 0) (down : DownClosed Up) (m : Model) (marks : List (List Bool)) (ws : List ℕ) {l l' : List Notification} {ts us : List Thread} (r : Rising Up m ws l ts ws l' us)
    (i : ℕ) (c : Cycle) (up : Up c) (same : (thread_at us i).segment ≡ (thread_at ts i).segment)
  where
    threat-before : (j s : ℕ) → Threat m marks ws l' us i c j s → Threat m marks ws l ts i c j s
    threat-before j s t =
        record {
          thread = t.thread;
          other = t.other;
          live = live-before (is_sooner→ after j c i t.sooner);
          segment = t.segment;
          marked = subst (λ (a : ℕ). T (threads_conflict m marks i a j s)) same t.marked;
          sooner = sooner-before (is_sooner→ after j c i t.sooner);
        }
      where
        after : Bound
        after = earliest_at m ws l' us j ⊕ distance_in m ws (thread_at us j).segment s

        before : Bound
        before = earliest_at m ws l ts j ⊕ distance_in m ws (thread_at ts j).segment s

        by : (d : Cycle) → StampBefore (stamp_at d j) (stamp_at c i) → d ⊑ c
        by d (inl p) = Before→⊑ p
        by d (inr (e, p)) = ≡→⊑ e

        at : (d : Cycle) → after ≡ At d → StampBefore (stamp_at d j) (stamp_at c i) → before ≼ At d
        at d e stamp =
            r.bound j s t.thread t.segment t.live d (down d c (by d stamp) up) (subst (λ (b : Bound). b ≼ At d) (sym e) (≼_refl (At d)))

        live-before : (d : Cycle) × (after ≡ At d) × StampBefore (stamp_at d j) (stamp_at c i) → T (is_live (thread_at ts j).state)
        live-before (d, e, stamp) = bound-live m ws l ts j s d t.thread (at d e stamp)

        sooner-before : (d : Cycle) × (after ≡ At d) × StampBefore (stamp_at d j) (stamp_at c i) → T (is_sooner before j (stamp_at c i))
        sooner-before (d, e, stamp) = →is_sooner before d j c i (at d e stamp) stamp

    pub hazard-none : hazard m marks ws l ts i c ≡ false → hazard m marks ws l' us i c ≡ false
    hazard-none free = T→false (hazard m marks ws l' us i c) (not_T (hazard m marks ws l' us i c) stands)
      where
        stands : T (hazard m marks ws l' us i c) → ⊥
        stands t =
            let (j, s, threat) = hazard→threat m marks ws l' us i c (T→true (hazard m marks ws l' us i c) t) in
            subst T (sym (threat→hazard m marks ws l ts i c j s (threat-before j s threat)) ∙ free) tt
