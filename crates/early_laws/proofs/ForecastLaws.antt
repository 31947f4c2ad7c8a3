-- Forecast is the least of earliest plus distance over live threads and segments notifying the event. And a waiting thread's earliest is
-- the delta after the lesser of what it can hear from the log and the forecast of its event, raised to its wait: deliveries turn on this.
use Prim.Native.Nat.{ℕ, ◌<◌}
use mathlib.Core.Path.{◌≡◌, refl, sym, ◌∙◌, subst}
use mathlib.Core.Logic.{◌⊎◌, inl, inr}
use mathlib.Core.List.{List}
use native.Mathlib.Omega.{arith}
use lib.Dec.{T}
use Rattle.clock.specs.declared.Cycle.{Cycle}
use Rattle.clock.specs.declared.Bound.{Bound}
use Rattle.clock.specs.declared.Bound.TheVariants.{Never, At}
use Rattle.clock.specs.Advance.{least, least_below, ◌⊕◌, one_delta}
use Rattle.clock.specs.Order.{◌≼◌}
use Rattle.clock.proofs.OrderLaws.{≼_refl, ≼_trans, ≼-antisym}
use Rattle.clock.proofs.LeastLaws.{least-left, least-right, least-glb, least_below-≼, least_below-one, least_below-glb}
use Rattle.clock.proofs.AdvanceLaws.{⊕-mono, Never-⊕, least-⊕}
use Rattle.model.specs.declared.Model.{Model}
use Rattle.model.specs.declared.Thread.{Thread}
use Rattle.model.specs.Record as view
use Rattle.model.specs.Record.{thread_at, is_live, view_of}
use Rattle.model.specs.Footprint.{notifies_in}
use Rattle.tables.specs.Word.{distance_in}
use Rattle.early.specs.declared.Notification.{Notification}
use Rattle.early.specs.Log.{least_heard}
use Rattle.early.specs.Earliest.{soonest_notify, raised, Chain, source, link}
use Rattle.early.specs.Forecast.{forecast_of}
use Rattle.early_laws.proofs.LogLaws.{least_heard-since}
use Rattle.early_laws.proofs.RaiseLaws.{raised-since, raised-inflate, raised-Never, raised-mono}
use Rattle.early_laws.proofs.LinkLaws.{source_of-waiting, soonest_notify-≼, soonest_notify-one, soonest_notify-glb, soonest_notify-mono, link_to-waiting}
use Rattle.early_laws.proofs.EarliestLaws.{earliest_at, chain-below, earliest-≼, earliest-glb, earliest-link}

module _ (m : Model) (ws : List ℕ) (l : List Notification) (ts : List Thread) where
  -- what thread k adds to the forecast of an event
  forecast_by : ℕ → ℕ → Bound
  forecast_by e k = soonest_notify m ws ts k (earliest_at m ws l ts k) e

  forecast-is : (e : ℕ) → forecast_of m ws l ts e ≡ least_below m.t (forecast_by e)
  unfolding forecast_of forecast_by
  forecast-is e = refl

  forecast-by : (e k : ℕ) → k < m.t → forecast_of m ws l ts e ≼ soonest_notify m ws ts k (earliest_at m ws l ts k) e
  unfolding forecast_by
  forecast-by e k h = rw (forecast-is e) (least_below-≼ m.t (forecast_by e) k h)

  pub forecast_below : (e k s : ℕ) → k < m.t → T (is_live (thread_at ts k).state) → s < m.n → T (notifies_in m k s e) → forecast_of m ws l ts e ≼ earliest_at m ws l ts k ⊕ distance_in m ws (thread_at ts k).segment s
  forecast_below e k s h live p t =
      let x = earliest_at m ws l ts k in
      ≼_trans
      (forecast_of m ws l ts e)
      (soonest_notify m ws ts k x e)
      (x ⊕ distance_in m ws (thread_at ts k).segment s)
      (forecast-by e k h)
      (soonest_notify-≼ m ws ts k x e s live p t)

  pub forecast_attained : (e : ℕ) (b : Cycle) → forecast_of m ws l ts e ≡ At b → (k : ℕ) × (s : ℕ) × (k < m.t) × T (is_live (thread_at ts k).state) × (s < m.n) × T (notifies_in m k s e) × (earliest_at m ws l ts k ⊕ distance_in m ws (thread_at ts k).segment s ≡ At b)
  unfolding forecast_by
  forecast_attained e b p = go (least_below-one m.t (forecast_by e))
    where
      q : least_below m.t (forecast_by e) ≡ At b
      q = sym (forecast-is e) ∙ p

      go :
          (least_below m.t (forecast_by e) ≡ Never) ⊎ ((k : ℕ) × (k < m.t) × (least_below m.t (forecast_by e) ≡ forecast_by e k)) →
          (k : ℕ) × (s : ℕ) × (k < m.t) × T (is_live (thread_at ts k).state) × (s < m.n) × T (notifies_in m k s e) × (earliest_at m ws l ts k ⊕ distance_in m ws (thread_at ts k).segment s ≡ At b)
      go (inl f) = let r : Never ≡ At b = sym f ∙ q in let z : ◌≡◌ {A = ℕ} 0 1 = cc in absurd (omega arith)
      go (inr (k, h, f)) =
          let (live, (s, r, t, g)) = soonest_notify-one m ws ts k (earliest_at m ws l ts k) e b (sym f ∙ q) in
          (k, s, h, live, r, t, g)

  pub forecast-glb : (y : Bound) (e : ℕ)
      → ((k s : ℕ) → k < m.t → T (is_live (thread_at ts k).state) → s < m.n → T (notifies_in m k s e) → y ≼ earliest_at m ws l ts k ⊕ distance_in m ws (thread_at ts k).segment s)
      → y ≼ forecast_of m ws l ts e
  unfolding forecast_by
  forecast-glb y e all =
      rw
      (forecast-is e)
      (least_below-glb
      y
      m.t
      (forecast_by e)
      (λ k h. soonest_notify-glb m ws ts k y (earliest_at m ws l ts k) e (λ s live p t. all k s h live p t)))

  -- A thread that waits: its source is the delta after what is logged, its links are the delta after what others may notify.
  module _ (k e : ℕ) (since : Cycle) (h : k < m.t) (w : view_of (thread_at ts k).state ≡ view.waits e since) where
    -- what others may notify, and the lesser of that and what is logged
    foretold : Bound
    foretold = raised since (forecast_of m ws l ts e)

    soonest : Bound
    soonest = least (least_heard l e since) foretold

    chain-waiting : {i : ℕ} {x : Bound} → Chain m ws l ts i x → i ≡ k → soonest ⊕ one_delta ≼ x
    unfolding soonest foretold
    chain-waiting (source {k = i} p) f =
        rw
        (f, source_of-waiting l (thread_at ts k).state e since w)
        (⊕-mono soonest (least_heard l e since) one_delta one_delta (least-left (least_heard l e since) foretold) (≼_refl one_delta))
    chain-waiting (link {j = j} {k = i} {x = x} p c) f =
        rw
        (f, link_to-waiting m ws ts j k e since x w)
        (⊕-mono
        soonest
        (raised since (soonest_notify m ws ts j x e))
        one_delta
        one_delta
        (≼_trans
        soonest
        foretold
        (raised since (soonest_notify m ws ts j x e))
        (least-right (least_heard l e since) foretold)
        (raised-mono
        since
        (forecast_of m ws l ts e)
        (soonest_notify m ws ts j x e)
        (≼_trans
        (forecast_of m ws l ts e)
        (soonest_notify m ws ts j (earliest_at m ws l ts j) e)
        (soonest_notify m ws ts j x e)
        (forecast-by e j (chain-below m ws l ts c))
        (soonest_notify-mono m ws ts j (earliest_at m ws l ts j) x e (earliest-≼ m ws l ts c)))))
        (≼_refl one_delta))

    after-forecast : earliest_at m ws l ts k ≼ foretold ⊕ one_delta
    unfolding foretold
    after-forecast = go (forecast_of m ws l ts e) refl
      where
        go : (x : Bound) → forecast_of m ws l ts e ≡ x → earliest_at m ws l ts k ≼ raised since x ⊕ one_delta
        go Never f = rw (raised-Never since, Never-⊕ one_delta) tt
        go (At b) f =
            let (j, s, p, live, q, t, g) = forecast_attained e b f in
            earliest-link m ws l ts k e since j s (raised since (At b)) h w p live q t (raised-since since (At b)) (rw g (raised-inflate since (At b)))

    pub earliest-waiting : earliest_at m ws l ts k ≡ least (least_heard l e since) (raised since (forecast_of m ws l ts e)) ⊕ one_delta
    unfolding soonest foretold
    earliest-waiting =
        ≼-antisym
        (earliest_at m ws l ts k)
        (soonest ⊕ one_delta)
        (rw
        (least-⊕ (least_heard l e since) foretold one_delta)
        (least-glb
        (earliest_at m ws l ts k)
        (least_heard l e since ⊕ one_delta)
        (foretold ⊕ one_delta)
        (subst (λ (x : Bound). earliest_at m ws l ts k ≼ x) (source_of-waiting l (thread_at ts k).state e since w) (earliest-≼ m ws l ts (source h)))
        after-forecast))
        (earliest-glb m ws l ts k (soonest ⊕ one_delta) h (λ x c. chain-waiting c refl))

    -- slip 5: "A waiting thread cannot wake before the delta after its wait began"
    pub earliest-since : At since ⊕ one_delta ≼ earliest_at m ws l ts k
    earliest-since =
        let heard = least_heard l e since in
        let later = raised since (forecast_of m ws l ts e) in
        rw
        earliest-waiting
        (⊕-mono
        (At since)
        (least heard later)
        one_delta
        one_delta
        (least-glb (At since) heard later (least_heard-since l e since) (raised-since since (forecast_of m ws l ts e)))
        (≼_refl one_delta))
