-- A state stays fit through a grant, looks and sweeps.
use Prim.Native.Nat.{ℕ, ◌<◌, ◌≤◌}
use mathlib.Core.Path.{◌≡◌, ap, sym, ◌∙◌, subst}
use mathlib.Core.Logic.{◌⊎◌, inl, inr}
use mathlib.Core.Bool.{true, false}
use mathlib.Core.List.{List}
use native.Mathlib.Omega.{arith}
use native.Mathlib.Decide.{ℕ_discrete}
use lib.Dec.{T}
use lib.ListN.{length}
use Rattle.base.proofs.BoolLaws.{true→T}
use Rattle.clock.specs.declared.Cycle.{Cycle}
use Rattle.clock.specs.declared.Bound.{Bound}
use Rattle.clock.specs.declared.Bound.TheVariants.{At}
use Rattle.clock.specs.declared.Wait.TheVariants as wait
use Rattle.clock.specs.Wait.{wait_ends}
use Rattle.clock.specs.Order.{◌≼◌}
use Rattle.model.specs.declared.Model.{Model}
use Rattle.model.specs.declared.Thread.{Thread}
use Rattle.model.specs.Limits.{end_time, is_up_to_horizon}
use Rattle.model.specs.Footprint.{has, listed_in}
use Rattle.model.specs.Record.{thread_at, ready_cycle, cycle_of, is_running}
use Rattle.plain_laws.proofs.RecordLaws.{state_after-not-waits, state_after-unbegun, effect_of-unbegun, running-cycle, append-has, horizon→<, heard-time, heard-delta}
use Rattle.plain_laws.proofs.WakeLaws.{floor_of-≼}
use Rattle.model_effect.proofs.FrameLaws.{effect_of-begins}
use Rattle.plain_laws.proofs.RangeLaws.{Keeps}
use Rattle.plain_laws.proofs.KeepLaws.{model_fault-keeps}
use Rattle.plain.specs.Wake.{floor_of}
use Rattle.early.specs.declared.Notification.{Notification}
use Rattle.early.specs.declared.Site.{Site}
use Rattle.early.specs.Log.{pair_of, log_of, with_pairs, counted_log, counted_places, drop_before}
use Rattle.early.specs.Deliver.{looked_at, settled}
use Rattle.early.specs.Fit.{is_fit_thread, is_unfit_threads, is_unfit}
use Rattle.early.specs.Grant.{effect_at, log_after, closed_threads, threads_after, site_after}
use Rattle.early.specs.Request.{is_full}
use Rattle.early_laws.proofs.LogLaws.{In, least_heard-at, with_pairs-kept, with_pairs-new, with_pairs-only, drop_before-only}
use Rattle.early_laws.proofs.OnceLaws.{drop_before-length}
use Rattle.early_laws.proofs.CountedLaws.{Grown, grown-none, grown-pairs, with_running-grown, with_running-new, dropped-shorter}
use Rattle.early_laws.proofs.LookLaws.{heard_at, heard_thread, heard_now-at, heard_at-waits, looked_at-none, looked_at-length, looked_at-other, looked_at-self, Looked, unheard, hears, looked}
use Rattle.early_laws.proofs.SettleLaws.{settled-carries, settled-running}
use Rattle.early_laws.proofs.FitLaws.{→is_fit_thread, FitPair, is_unfit_threads→, →is_unfit_threads, →is_unfit_places, →is_unfit, site_of-fit}
use Rattle.early_laws.proofs.GrantLaws.{log_after-counted, site_after-log, is_full-none, closed_threads-self, closed_threads-other, closed_threads-length}
use Rattle.early_limits.proofs.StateLaws.{FitState, fit-segment, fit-lacks, ready-fit}

-- records of which one is changed, to a fit one
changed-fit : (m : Model) (ts us : List Thread) (k : ℕ) → is_unfit_threads m ts ≡ false → length us ≡ length ts
    → (k < m.t → T (is_fit_thread m k (thread_at us k))) → ((j : ℕ) → (j ≡ k → ⊥) → thread_at us j ≡ thread_at ts j) → is_unfit_threads m us ≡ false
changed-fit m ts us k e size self other = →is_unfit_threads m us (omega (arith, (is_unfit_threads→ m ts e).0)) (λ j h. go j h (ℕ_discrete j k))
  where
    go : (j : ℕ) → j < m.t → Dec (j ≡ k) → T (is_fit_thread m j (thread_at us j))
    go j h (yes p) = rw p (self (omega arith))
    go j h (no p) = rw (other j p) ((is_unfit_threads→ m ts e).1 j h)

module _ (m : Model) (ws : List ℕ) (l : List Notification) where
  -- what is fit stays fit

  -- a thread that has heard what is logged
  heard-fit : (ts : List Thread) (k : ℕ) (x : Cycle) → FitState m ws l ts → k < m.t → heard_at m ws l ts k ≡ At x → T (is_fit_thread m k (heard_thread x (thread_at ts k)))
  heard-fit ts k x fit h p =
      let (e, since, waits, q) = heard_at-waits m ws l ts k x p in
      let pair = (fit.log (pair_of e x) (least_heard-at l e since x (heard_now-at m ws l ts e since x q).0).0).cycle in
      →is_fit_thread
      m
      k
      (heard_thread x (thread_at ts k))
      (record {
        segment = fit-segment fit k h;
        cycle = record { time = omega (arith, heard-time x, pair.time); delta = heard-delta x pair.delta };
        event = λ e c w. absurd (state_after-not-waits (wait_ends wait.Event x) e c w);
        soon = λ r. absurd (subst T (sym r ∙ state_after-unbegun (wait_ends wait.Event x)) tt);
        lacks = fit-lacks fit k h;
      })

  pub looked_at-fit : (ts : List Thread) (k : ℕ) → FitState m ws l ts → FitState m ws l (looked_at m ws l ts k)
  looked_at-fit ts k fit = go (looked m ws l ts k)
    where
      go : Looked m ws l ts k → FitState m ws l (looked_at m ws l ts k)
      go (unheard p) = rw (looked_at-none m ws l ts k p) fit
      go (hears x p) =
          record {
            model = fit.model;
            words = fit.words;
            threads =
                changed-fit
                m
                ts
                (looked_at m ws l ts k)
                k
                fit.threads
                (looked_at-length m ws l ts k)
                (λ h. rw (looked_at-self m ws l ts k x p) (heard-fit ts k x fit h p))
                (looked_at-other m ws l ts k);
            log = fit.log;
          }

  pub settled-fit : (ts : List Thread) → FitState m ws l ts → FitState m ws l (settled m ws l ts)
  settled-fit ts fit = settled-carries m ws l (λ us is. FitState m ws l us) (λ us is k h f. looked_at-fit us k f) ts fit

-- a thread that runs its segment at c, ready and up to the horizon
module _ (m : Model) (ws : List ℕ) (site : Site) (ts : List Thread) (fit : FitState m ws (log_of site) ts) (k : ℕ) (c : Cycle) (thread : k < m.t)
    (ready : ready_cycle (thread_at ts k).state ≡ At c) (before : is_up_to_horizon m c ≡ true)
  where
    kept : Keeps m
    kept = model_fault-keeps m fit.model

    now : c.time.0 < end_time m
    now = horizon→< m c (true→T (is_up_to_horizon m c) before)

    ran-fit : T (is_fit_thread m k (effect_at m site ts k c).thread)
    unfolding effect_at
    ran-fit =
        let s = (thread_at ts k).segment in
        let v = site.variables.at in
        →is_fit_thread
        m
        k
        (effect_at m site ts k c).thread
        (record {
          segment = kept.next k s c v (fit-segment fit k thread);
          cycle =
              record {
                time = omega (arith, kept.time k s c v (fit-segment fit k thread), kept.horizon_most, now);
                delta = kept.delta k s c v (ready-fit fit k c thread ready).delta;
              };
          event = λ e d w. kept.event k s c v e d (fit-segment fit k thread) w;
          soon = λ r. absurd (subst T (sym r ∙ effect_of-unbegun m k s c v) tt);
          lacks = kept.next_lacks k s c v (fit-segment fit k thread) (fit-lacks fit k thread);
        })

    ran-unbegun : is_running (effect_at m site ts k c).thread.state ≡ false
    unfolding effect_at
    ran-unbegun = effect_of-unbegun m k (thread_at ts k).segment c site.variables.at

    logged-fit : (x : Notification) → In x (log_after m site ts k c) → FitPair m x
    unfolding log_after effect_at
    logged-fit x h = go (with_pairs-only (log_of site) c (effect_at m site ts k c).notified h)
      where
        go : In x (log_of site) ⊎ ((x.cycle ≡ c) × T (has (effect_at m site ts k c).notified x.event)) → FitPair m x
        go (inl i) = fit.log x i
        go (inr (p, t)) =
            record {
              event = kept.notifies k (thread_at ts k).segment c site.variables.at x.event (fit-segment fit k thread) t;
              cycle = rw p (record { time = omega (arith, kept.horizon_most, now); delta = (ready-fit fit k c thread ready).delta });
            }

    -- before anything is delivered
    pub granted-fit : FitState m ws (log_after m site ts k c) (closed_threads m site ts k c)
    granted-fit =
        record {
          model = fit.model;
          words = fit.words;
          threads =
              changed-fit
              m
              ts
              (closed_threads m site ts k c)
              k
              fit.threads
              (closed_threads-length m site ts k c)
              (λ h. rw (closed_threads-self m site ts k c (omega (arith, (is_unfit_threads→ m ts fit.threads).0))) ran-fit)
              (closed_threads-other m site ts k c);
          log = logged-fit;
        }

    -- who is running after the whole grant was so before, and is not k
    after-running : (j : ℕ) → is_running (thread_at (threads_after m ws site ts k c) j).state ≡ true → thread_at (threads_after m ws site ts k c) j ≡ thread_at ts j
    unfolding threads_after
    after-running j r = go (ℕ_discrete j k)
      where
        same : thread_at (threads_after m ws site ts k c) j ≡ thread_at (closed_threads m site ts k c) j
        same = settled-running m ws (log_after m site ts k c) (closed_threads m site ts k c) j r

        go : Dec (j ≡ k) → thread_at (threads_after m ws site ts k c) j ≡ thread_at ts j
        go (no other) = same ∙ closed_threads-other m site ts k c j other
        go (yes e) =
            let here = ap (λ (i : ℕ). thread_at (closed_threads m site ts k c) i) e ∙ closed_threads-self m site ts k c (omega (arith, (is_unfit_threads→ m ts fit.threads).0)) in
            absurd (subst T (sym r ∙ ap (λ (t : Thread). is_running t.state) (same ∙ here) ∙ ran-unbegun) tt)

    -- no more is logged and counted then than a log takes that has grown from this one and holds what was counted and what the segment lists
    pub after-counted : (b : List Notification) → Grown (log_of site) b → ((x : Notification) → In x (counted_log m ts (log_of site)) → In x b)
        → ((e : ℕ) → T (has (listed_in m k (thread_at ts k).segment) e) → In (pair_of e c) b)
        → length (counted_log m (threads_after m ws site ts k c) (log_of (site_after m ws site ts k c))) ≤ length b
    unfolding log_after effect_at
    after-counted b grown counted listed =
        rw (site_after-log m site ts k c ws)
        (dropped-shorter m us (log_of site) b c (effect_at m site ts k c).notified (floor_of m us) grown
        (λ e t. listed e (lists e t))
        (λ j e below r t.
        let same = after-running j r in
        subst (λ (u : Thread). In (pair_of e (cycle_of u.state)) b) (sym same)
        (counted (pair_of e (cycle_of (thread_at ts j).state))
        (with_running-new m ts (log_of site) m.t j e below (ap (λ (u : Thread). is_running u.state) (sym same) ∙ r) (subst (λ (u : Thread). T (has (listed_in m j u.segment) e)) same t))))
        (λ j below r. subst (λ (b : Bound). floor_of m us ≼ b) (running-cycle (thread_at us j).state r) (floor_of-≼ m us j below)))
      where
        us : List Thread
        us = threads_after m ws site ts k c

        lists : (e : ℕ) → T (has (effect_at m site ts k c).notified e) → T (has (listed_in m k (thread_at ts k).segment) e)
        lists e t =
            let (rest, p) = effect_of-begins m k (thread_at ts k).segment c site.variables.at in
            subst (λ (es : List ℕ). T (has es e)) (sym p) (append-has (effect_at m site ts k c).notified rest e (inl t))

    -- after the whole grant, where the log had room: 11 need not be asked again
    pub after-fit : is_full m site ts k c ≡ false → is_unfit m ws (site_after m ws site ts k c) (threads_after m ws site ts k c) ≡ false
    unfolding site_after threads_after counted_places
    after-fit room =
        let us = threads_after m ws site ts k c in
        let l = log_of site in
        let fs = listed_in m k (thread_at ts k).segment in
        let counted = after-counted (with_pairs (counted_log m ts l) c fs) (grown-pairs l (counted_log m ts l) c fs (with_running-grown m ts l l m.t (grown-none l)))
        (λ x h. with_pairs-kept (counted_log m ts l) c fs h) (λ e t. with_pairs-new (counted_log m ts l) c fs e t) in
        let log = log_after m site ts k c in
        let rest = settled-fit m ws log (closed_threads m site ts k c) granted-fit in
        let f = floor_of m us in
        →is_unfit
        m
        ws
        (site_after m ws site ts k c)
        us
        (record {
          model = fit.model;
          threads = rest.threads;
          log =
              site_of-fit
              m
              (effect_at m site ts k c).variables
              (drop_before f log)
              (omega (arith, drop_before-length f log, log_after-counted m site ts k c, is_full-none m site ts k c room))
              (λ x h. rest.log x (drop_before-only f log h).0);
          counted = →is_unfit_places m (site_after m ws site ts k c) us (omega (arith, counted, is_full-none m site ts k c room));
          words = fit.words;
        })
