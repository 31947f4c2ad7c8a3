-- At a hearing the thread's earliest is exactly the delta after what it hears. So the look changes no bound unless the thread overruns,
-- and then bounds rise: what another thread would hear, it still hears after the look.
use Prim.Native.Nat.{ℕ, ◌<◌}
use mathlib.Core.Path.{◌≡◌, refl, ap, sym, ◌∙◌, subst}
use mathlib.Core.List.{List}
use native.Mathlib.Decide.{ℕ_discrete}
use Rattle.clock.specs.declared.Cycle.{Cycle}
use Rattle.clock.specs.declared.Wait.TheVariants as wait
use Rattle.clock.specs.declared.Step.{Step}
use Rattle.clock.specs.declared.Step.TheVariants as step
use Rattle.clock.specs.declared.Bound.{Bound}
use Rattle.clock.specs.declared.Bound.TheVariants.{At}
use Rattle.clock.specs.Wait.{wait_ends}
use Rattle.clock.specs.Advance.{least, ◌⊕◌, one_delta}
use Rattle.clock.specs.Order.{◌≼◌}
use Rattle.clock.proofs.OrderLaws.{≼_refl, ≼_trans, ≼-antisym}
use Rattle.clock.proofs.LeastLaws.{least-left, least-glb}
use Rattle.clock.proofs.AdvanceLaws.{⊕-mono, advance_of-Event}
use Rattle.clock.proofs.WaitLaws.{wait_ends-advance}
use Rattle.model.specs.declared.Model.{Model}
use Rattle.model.specs.declared.Thread.{Thread}
use Rattle.model.specs.Record.{thread_at, nothing, awaited_by, state_after, awaited_of}
use Rattle.tables.specs.Word.{distance_in}
use Rattle.early.specs.declared.Notification.{Notification}
use Rattle.early.specs.Log.{least_heard}
use Rattle.early.specs.Earliest.{source_of, raised, link_to, Chain, source, link}
use Rattle.early.specs.Forecast.{forecast_of}
use Rattle.early.specs.Deliver.{heard_now, looked_at}
use Rattle.early_laws.proofs.RaiseLaws.{raised-inflate}
use Rattle.early_laws.proofs.LinkLaws.{source_of-ready, source_of-idle, link_to-other, link_to-mono, link_to-rises}
use Rattle.early_laws.proofs.EarliestLaws.{earliest_at, chain-below, earliest-≼, earliest-glb, earliest-relaxed}
use Rattle.early_laws.proofs.ForecastLaws.{forecast_below, forecast-glb, earliest-waiting}
use Rattle.early_laws.proofs.LookLaws.{heard_at, heard_now-at, heard_now-some, heard_at-waits, looked_at-none, looked_at-other, looked_at-self, looked_at-segment, looked_at-live, looked_at-deaf, Looked, unheard, hears, looked}

module _ (m : Model) (ws : List ℕ) (l : List Notification) (ts : List Thread) (k : ℕ) (h : k < m.t) where
  -- the records after the look
  abbrev us : List Thread
  us = looked_at m ws l ts k

  pub heard-earliest : (x : Cycle) → heard_at m ws l ts k ≡ At x → earliest_at m ws l ts k ≡ At x ⊕ one_delta
  heard-earliest x p =
      let (e, since, w, q) = heard_at-waits m ws l ts k x p in
      let (f, b) = heard_now-at m ws l ts e since x q in
      let foretold = raised since (forecast_of m ws l ts e) in
      earliest-waiting m ws l ts k e since h w
      ∙ ap
      (λ (y : Bound). y ⊕ one_delta)
      (≼-antisym
      (least (least_heard l e since) foretold)
      (At x)
      (subst (λ (y : Bound). least (least_heard l e since) foretold ≼ y) f (least-left (least_heard l e since) foretold))
      (least-glb
      (At x)
      (least_heard l e since)
      foretold
      (subst (λ (y : Bound). At x ≼ y) (sym f) (≼_refl (At x)))
      (≼_trans (At x) (forecast_of m ws l ts e) foretold b (raised-inflate since (forecast_of m ws l ts e)))))

  -- it is ready there, or overrun and begins no chain
  heard-source : (x : Cycle) → heard_at m ws l ts k ≡ At x → earliest_at m ws l ts k ≼ source_of l (state_after (wait_ends wait.Event x))
  heard-source x p = go (wait_ends wait.Event x) refl
    where
      go : (s : Step) → wait_ends wait.Event x ≡ s → earliest_at m ws l ts k ≼ source_of l (state_after s)
      go (step.Ready d) e =
          rw
          (source_of-ready l (state_after (step.Ready d)) d refl, heard-earliest x p, ← advance_of-Event, wait_ends-advance wait.Event x e)
          (≼_refl (At d))
      go (step.Overrun d) e = rw (source_of-idle l (state_after (step.Overrun d)) tt) tt

  -- the same link is not sooner after the look
  link-rises : (j i : ℕ) (x : Bound) → link_to m ws ts j i x ≼ link_to m ws us j i x
  link-rises j i x = go (looked m ws l ts k) (ℕ_discrete i k)
    where
      go : Looked m ws l ts k → Dec (i ≡ k) → link_to m ws ts j i x ≼ link_to m ws us j i x
      go (unheard e) d = rw (looked_at-none m ws l ts k e) (≼_refl (link_to m ws ts j i x))
      go (hears y e) (yes f) = rw (link_to-other m ws us j i x (subst (λ (a : ℕ). awaited_by (thread_at us a).state ≡ nothing) (sym f) (looked_at-deaf m ws l ts k y e))) tt
      go (hears y e) (no f) =
          link_to-rises
          m
          ws
          ts
          us
          j
          i
          x
          (looked_at-segment m ws l ts k j)
          (looked_at-live m ws l ts k j)
          (ap (λ (t : Thread). awaited_by t.state) (looked_at-other m ws l ts k i f))

  source-rises : (i : ℕ) → i < m.t → earliest_at m ws l ts i ≼ source_of l (thread_at us i).state
  source-rises i p = go (looked m ws l ts k) (ℕ_discrete i k)
    where
      here : (s : List Thread) → thread_at s i ≡ thread_at ts i → earliest_at m ws l ts i ≼ source_of l (thread_at s i).state
      here s e = rw e (earliest-≼ m ws l ts (source p))

      go : Looked m ws l ts k → Dec (i ≡ k) → earliest_at m ws l ts i ≼ source_of l (thread_at us i).state
      go (unheard e) d = here us (ap (λ (s : List Thread). thread_at s i) (looked_at-none m ws l ts k e))
      go (hears x e) (no f) = here us (looked_at-other m ws l ts k i f)
      go (hears x e) (yes f) = rw (f, looked_at-self m ws l ts k x e) (heard-source x e)

  chain-rises : {i : ℕ} {x : Bound} → Chain m ws l us i x → earliest_at m ws l ts i ≼ x
  chain-rises (source {k = i} p) = source-rises i p
  chain-rises (link {j = j} {k = i} {x = x} p c) =
      ≼_trans
      (earliest_at m ws l ts i)
      (link_to m ws ts j i x)
      (link_to m ws us j i x)
      (≼_trans
      (earliest_at m ws l ts i)
      (link_to m ws ts j i (earliest_at m ws l ts j))
      (link_to m ws ts j i x)
      (earliest-relaxed m ws l ts j i (chain-below m ws l us c) p)
      (link_to-mono m ws ts j i (earliest_at m ws l ts j) x (chain-rises c)))
      (link-rises j i x)

  -- bounds only rise by a look
  pub earliest-rises : (i : ℕ) → i < m.t → earliest_at m ws l ts i ≼ earliest_at m ws l us i
  earliest-rises i p = earliest-glb m ws l us i (earliest_at m ws l ts i) p (λ x c. chain-rises c)

  pub forecast-rises : (e : ℕ) → forecast_of m ws l ts e ≼ forecast_of m ws l us e
  forecast-rises e =
      forecast-glb
      m
      ws
      l
      us
      (forecast_of m ws l ts e)
      e
      (λ i s p live q t.
      let d = distance_in m ws (thread_at us i).segment s in
      ≼_trans
      (forecast_of m ws l ts e)
      (earliest_at m ws l ts i ⊕ d)
      (earliest_at m ws l us i ⊕ d)
      (subst
      (λ (r : ℕ). forecast_of m ws l ts e ≼ earliest_at m ws l ts i ⊕ distance_in m ws r s)
      (sym (looked_at-segment m ws l ts k i))
      (forecast_below m ws l ts e i s p (looked_at-live m ws l ts k i live) q t))
      (⊕-mono (earliest_at m ws l ts i) (earliest_at m ws l us i) d d (earliest-rises i p) (≼_refl d)))

  -- what another would hear, it still hears
  pub heard_at-kept : (j : ℕ) (y : Cycle) → (j ≡ k → ⊥) → heard_at m ws l ts j ≡ At y → heard_at m ws l us j ≡ At y
  heard_at-kept j y other p =
      let (e, since, w, q) = heard_at-waits m ws l ts j y p in
      let (f, b) = heard_now-at m ws l ts e since y q in
      ap
      (λ (t : Thread). heard_now m ws l us (awaited_by t.state))
      (looked_at-other m ws l ts k j other)
      ∙ ap (λ v. heard_now m ws l us (awaited_of v)) w
      ∙ heard_now-some
      m
      ws
      l
      us
      e
      since
      y
      f
      (≼_trans (At y) (forecast_of m ws l ts e) (forecast_of m ws l us e) b (forecast-rises e))
