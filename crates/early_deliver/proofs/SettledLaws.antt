-- On a fit state, deliveries on limits are those of `early`.
--     first_limits-is, ahead_of-is     where chains begin, and earliest
--     sooner_on-is, settled_by-is     whether the forecast is smaller, and so all deliveries
use Prim.Native.Nat.{ℕ, ◌<◌}
use mathlib.Core.Path.{◌≡◌, refl, ap}
use mathlib.Core.Bool.{cond}
use mathlib.Core.List.{List}
use native.Mathlib.Omega.{arith}
use native.Mathlib.Decide.{dec_lt}
use lib.Dec.{ltb}
use borrow.Author.Tests.{le-ltb}
use Rattle.base.proofs.IndexLaws.{tabulate-same}
use Rattle.clock.specs.declared.Cycle.{Cycle}
use Rattle.clock.specs.declared.Bound.{Bound}
use Rattle.clock.specs.declared.Bound.TheVariants.{Never, At}
use Rattle.model.specs.declared.Model.{Model}
use Rattle.model.specs.declared.State.{State}
use Rattle.model.specs.declared.Thread.{Thread}
use Rattle.model.specs.Record as view
use Rattle.model.specs.Record.{thread_at, View, view_of, ready_cycle_of}
use Rattle.tables.specs.Word.{all_ones}
use Rattle.early.specs.declared.Notification.{Notification}
use Rattle.early.specs.Log.{least_heard}
use Rattle.early.specs.Earliest.{source_of}
use Rattle.early.specs.Deliver.{forecast_sooner, settled_by, settled}
use Rattle.early_laws.proofs.LinkLaws.{source_of-ready, source_of-waiting, source_of-idle}
use Rattle.early_laws.proofs.SettleLaws.{settled_by-same}
use Rattle.early_laws.proofs.FitLaws.{is_fit_thread→}
use Rattle.early_limits.specs.Limit.{limit_of}
use Rattle.early_limits.specs.Ahead.{reach_of, earliest_limits, crew_of, source_limits}
use Rattle.early_limits.proofs.LimitLaws.{Limited, limit_of-one_delta, limit_of_cycle-is}
use Rattle.early_limits.proofs.StateLaws.{FitState, fit-threads, ready-fit, least_heard-range}
use Rattle.early_limits.proofs.RoundLaws.{limits_of}
use Rattle.early_limits.proofs.AheadLaws.{forecast-heard}
use Rattle.early_limits.proofs.DeliverLaws.{looked_at-fit}
use Rattle.early_deliver.specs.Awake.{bound_limit, first_limit_of, first_limit, first_limits, ahead_of, sooner_at, sooner_on}

bound_limit-is : (b : Bound) → Limited b → bound_limit b ≡ limit_of b
unfolding limit_of
bound_limit-is Never h = refl
bound_limit-is (At c) h = limit_of_cycle-is c (omega arith)

module _ (m : Model) (ws : List ℕ) (l : List Notification) where
  module _ (ts : List Thread) (fit : FitState m ws l ts) where
    first_limit-is : (k : ℕ) → k < m.t → first_limit l (thread_at ts k).state ≡ limit_of (source_of l (thread_at ts k).state)
    unfolding limit_of
    first_limit-is k h = go (view_of s) refl
      where
        s : State
        s = (thread_at ts k).state

        go : (v : View) → view_of s ≡ v → first_limit_of l v ≡ limit_of (source_of l s)
        go view.idle w = rw (source_of-idle l s (rw w tt)) refl
        go (view.ready c) w = rw (source_of-ready l s c w) (limit_of_cycle-is c (omega (arith, (ready-fit fit k c h (ap ready_cycle_of w)).time)))
        go (view.waits e since) w =
            let near = least_heard-range fit e since in
            rw (source_of-waiting l s e since w, limit_of-one_delta (least_heard l e since) near, bound_limit-is (least_heard l e since) near) refl

    first_limits-is : first_limits m.t l ts ≡ source_limits m.t l ts
    unfolding first_limits source_limits
    first_limits-is =
        tabulate-same
        32
        0
        (λ k. cond (ltb k m.t) (first_limit l (thread_at ts k).state) all_ones)
        (λ k. cond (ltb k m.t) (limit_of (source_of l (thread_at ts k).state)) all_ones)
        (λ k h. at k (dec_lt k m.t))
      where
        at : (k : ℕ) → Dec (k < m.t) → cond (ltb k m.t) (first_limit l (thread_at ts k).state) all_ones ≡ cond (ltb k m.t) (limit_of (source_of l (thread_at ts k).state)) all_ones
        at k (yes h) = ap (λ (x : ℕ). cond (ltb k m.t) x all_ones) (first_limit-is k h)
        at k (no h) = rw (le-ltb k m.t (omega arith)) refl

    pub ahead_of-is : ahead_of (reach_of m ws) m.t l ts ≡ limits_of m ws l ts
    unfolding ahead_of
    ahead_of-is = ap (earliest_limits (reach_of m ws) (crew_of m.t ts) m.t) first_limits-is

    -- "if the forecast of the event is not smaller"
    sooner_on-is : (e : ℕ) (since : Cycle) → e < m.e → sooner_on (reach_of m ws) m.t l ts e (least_heard l e since) ≡ forecast_sooner m ws l ts e (least_heard l e since)
    unfolding sooner_on sooner_at forecast_sooner
    sooner_on-is e since h = rw (ahead_of-is, bound_limit-is (least_heard l e since) (least_heard-range fit e since)) (forecast-heard m ws l ts fit e since h)

  pub settled_by-is : (ts : List Thread) → FitState m ws l ts → settled_by (sooner_on (reach_of m ws) m.t l) l m.t ts ≡ settled m ws l ts
  settled_by-is ts fit =
      settled_by-same
      (sooner_on (reach_of m ws) m.t l)
      (forecast_sooner m ws l)
      l
      m.t
      (FitState m ws l)
      (looked_at-fit m ws l)
      (λ us k e since h f w. sooner_on-is us f e since ((is_fit_thread→ m k (thread_at us k) (fit-threads f k h)).event e since w))
      ts
      fit
