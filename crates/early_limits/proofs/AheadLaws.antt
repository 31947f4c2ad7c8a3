-- Looking ahead on limits says what `early` says on bounds, on a fit state: forecasts, and hazards, which need not ask whether a thread is live.
use Prim.Native.Nat.{ℕ, ◌+◌, ◌*◌, ◌<◌}
use mathlib.Core.Path.{◌≡◌, refl, ap, ap₂, sym, ◌∙◌}
use mathlib.Core.Bool.{Bool, true, false, not, ◌&&◌}
use mathlib.Core.List.{List}
use native.Mathlib.Omega.{arith}
use lib.Dec.{T, ltb, eqb, not_T}
use lib.ListN.{get_or}
use Rattle.base.specs.Index.{any_below}
use Rattle.base.proofs.BoolLaws.{T→false, and→both}
use Rattle.base.proofs.IndexLaws.{any_below-some, any_below-same}
use Rattle.clock.specs.declared.Cycle.{Cycle}
use Rattle.clock.specs.declared.Bound.TheVariants.{Never, At}
use Rattle.clock.specs.Cycle.{stamp_at}
use Rattle.clock.specs.Wait.{last_delta}
use Rattle.clock.specs.Advance.{is_bound_before, ◌⊕◌}
use Rattle.model.specs.declared.Model.{Model}
use Rattle.model.specs.declared.Thread.{Thread}
use Rattle.model.specs.Limits.{cut_time, record_time}
use Rattle.model.specs.Record.{thread_at, is_live}
use Rattle.tables.specs.Word.{all_ones, distance_in}
use Rattle.early.specs.declared.Notification.{Notification}
use Rattle.early.specs.Log.{least_heard}
use Rattle.early.specs.Earliest.{soonest_notify}
use Rattle.early.specs.Forecast.{forecast_of}
use Rattle.early.specs.Hazard.{threads_conflict, is_sooner, threatens, hazard}
use Rattle.early_laws.proofs.EarliestLaws.{earliest_at, earliest-idle}
use Rattle.early_laws.proofs.FitLaws.{FitCycle}
use Rattle.early_laws.proofs.RangeLaws.{earliest_time, sum_time, within-least_below, within-distance, within-notify, sum-small}
use Rattle.early_limits.specs.Limit.{limit_of, limit_of_cycle, limit_of_word, sum_of, is_sooner_limit}
use Rattle.early_limits.specs.Ahead.{reach_of, forecast_at, threatens_limit, hazard_at, segments_of}
use Rattle.early_limits.proofs.LimitLaws.{Limited, within-limited, limit_of-before, limit_of-⊕, limit_of-sooner, limit_of_cycle-is}
use Rattle.early_limits.proofs.PlaceLaws.{at_most-is, segments_of-at}
use Rattle.early_limits.proofs.StateLaws.{FitState, fit-counts, fit-threads, fit_words, fit-segment, least_heard-range}
use Rattle.early_limits.proofs.NearestLaws.{distance-limit, forecast_at-is}
use Rattle.early_limits.proofs.RoundLaws.{limits_of, earliest_limits-is, earliest-range}

-- what is never does not threaten
threatens-never : (m : Model) (marks : List (List Bool)) (ws : List ℕ) (ts : List Thread) (i : ℕ) (c : Cycle) (j : ℕ) → threatens m marks ws ts i c j Never ≡ false
unfolding threatens is_sooner ◌⊕◌
threatens-never m marks ws ts i c j = T→false (threatens m marks ws ts i c j Never) (not_T (threatens m marks ws ts i c j Never) none)
  where
    at : ℕ → Bool
    at s = threads_conflict m marks i (thread_at ts i).segment j s && is_sooner (Never ⊕ distance_in m ws (thread_at ts j).segment s) j (stamp_at c i)

    none : T (any_below m.n at) → ⊥
    none t = let (s, h, u) = any_below-some m.n at t in (and→both (threads_conflict m marks i (thread_at ts i).segment j s) false u).1

-- a test that may be dropped: without it the last fails anyway
and-drop : (a b t : Bool) → (T (not b) → t ≡ false) → (a && t) ≡ ((a && b) && t)
and-drop true true t f = refl
and-drop true false t f = f tt
and-drop false b t f = refl

module _ (m : Model) (ws : List ℕ) (l : List Notification) (ts : List Thread) (fit : FitState m ws l ts) where
  -- forecast and hazard

  pub forecast-limit : (e : ℕ) → e < m.e → forecast_at (reach_of m ws) (segments_of m.t ts) (limits_of m ws l ts) m.t e ≡ limit_of (forecast_of m ws l ts e)
  unfolding forecast_of
  forecast-limit e p = forecast_at-is m ws l ts fit (limits_of m ws l ts) (earliest_at m ws l ts) (earliest_limits-is m ws l ts fit) (earliest-range m ws l ts fit) (earliest-idle m ws l ts) e p

  pub forecast-range : (e : ℕ) → Limited (forecast_of m ws l ts e)
  unfolding forecast_of
  forecast-range e =
      within-limited
      sum_time
      34815
      (forecast_of m ws l ts e)
      (omega arith)
      (omega arith)
      (within-least_below
      sum_time
      34815
      m.t
      (λ k. soonest_notify m ws ts k (earliest_at m ws l ts k) e)
      (λ k h. within-notify m ws l ts (fit-threads fit) fit.log (fit_words fit) earliest_time 33792 (earliest_at m ws l ts k) k e h (earliest-range m ws l ts fit k h)))

  -- "if the forecast of the event is not smaller"
  pub forecast-heard : (e : ℕ) (since : Cycle) → e < m.e
      → ltb (forecast_at (reach_of m ws) (segments_of m.t ts) (limits_of m ws l ts) m.t e) (limit_of (least_heard l e since)) ≡ is_bound_before (forecast_of m ws l ts e) (least_heard l e since)
  forecast-heard e since p =
      rw (forecast-limit e p) (limit_of-before (forecast_of m ws l ts e) (least_heard l e since) (forecast-range e) (least_heard-range fit e since))

  -- thread j's segment s, before thread i at c
  module _ (marks : List (List Bool)) (i : ℕ) (c : Cycle) (asks : i < m.t) (fits : FitCycle record_time c) where
    sooner-limit : (j s : ℕ) → j < m.t → s < m.n
        → is_sooner_limit (sum_of (get_or (limits_of m ws l ts) j all_ones) (limit_of_word (get_or ws ((thread_at ts j).segment * m.n + s) 0))) j (limit_of_cycle c) i
        ≡ is_sooner (earliest_at m ws l ts j ⊕ distance_in m ws (thread_at ts j).segment s) j (stamp_at c i)
    sooner-limit j s h p =
        let x = earliest_at m ws l ts j in
        let d = distance_in m ws (thread_at ts j).segment s in
        rw
        (earliest_limits-is m ws l ts fit j h, distance-limit m ws l ts fit (thread_at ts j).segment s (fit-segment fit j h) p, limit_of_cycle-is c (omega (arith, fits.time)))
        (ap
        (λ (y : ℕ). is_sooner_limit y j (limit_of (At c)) i)
        (sym
        (limit_of-⊕
        x
        d
        (within-limited earliest_time 33792 x (omega arith) (omega arith) (earliest-range m ws l ts fit j h))
        (within-limited cut_time last_delta d (omega arith) (omega arith) (within-distance m ws l ts (fit-threads fit) fit.log (fit_words fit) (thread_at ts j).segment s (fit-segment fit j h) p))))
        ∙ limit_of-sooner
        (x ⊕ d)
        j
        c
        i
        (within-limited sum_time 34815 (x ⊕ d) (omega arith) (omega arith) (sum-small m ws l ts (fit-threads fit) fit.log (fit_words fit) j s (fit-counts fit).threads h p))
        (omega (arith, fits.time, fits.delta)))

    -- by conflicts that are those of threads in their segments
    module _ (conflicts : ℕ → ℕ → ℕ → ℕ → Bool)
        (same : (r j s : ℕ) → r < m.n → j < m.t → s < m.n → conflicts i r j s ≡ threads_conflict m marks i r j s) where
      threatens-limit : (j : ℕ) → j < m.t
          → threatens_limit (conflicts i (thread_at ts i).segment j) ws m.n ((thread_at ts j).segment * m.n) (get_or (limits_of m ws l ts) j all_ones) j (limit_of_cycle c) i
          ≡ threatens m marks ws ts i c j (earliest_at m ws l ts j)
      unfolding threatens_limit threatens
      threatens-limit j h =
          rw
          (at_most-is 64 m.n (fit-counts fit).segments)
          (any_below-same
          m.n
          (λ s. conflicts i (thread_at ts i).segment j s && is_sooner_limit (sum_of (get_or (limits_of m ws l ts) j all_ones) (limit_of_word (get_or ws ((thread_at ts j).segment * m.n + s) 0))) j (limit_of_cycle c) i)
          (λ s. threads_conflict m marks i (thread_at ts i).segment j s && is_sooner (earliest_at m ws l ts j ⊕ distance_in m ws (thread_at ts j).segment s) j (stamp_at c i))
          (λ s p. ap₂ ◌&&◌ (same (thread_at ts i).segment j s (fit-segment fit i asks) h p) (sooner-limit j s h p)))

      pub hazard-limit : hazard_at conflicts ws m.n m.t (segments_of m.t ts) (limits_of m ws l ts) (stamp_at c i) ≡ hazard m marks ws l ts i c
      unfolding hazard_at hazard
      hazard-limit =
          rw
          (at_most-is 32 m.t (fit-counts fit).threads, segments_of-at m.t ts i (fit-counts fit).threads asks)
          (any_below-same
          m.t
          (λ j. not (eqb j i) && threatens_limit (conflicts i (thread_at ts i).segment j) ws m.n (get_or (segments_of m.t ts) j 0 * m.n) (get_or (limits_of m ws l ts) j all_ones) j (limit_of_cycle c) i)
          (λ j. (not (eqb j i) && is_live (thread_at ts j).state) && threatens m marks ws ts i c j (earliest_at m ws l ts j))
          (λ j h.
          rw
          (segments_of-at m.t ts j (fit-counts fit).threads h, threatens-limit j h)
          (and-drop
          (not (eqb j i))
          (is_live (thread_at ts j).state)
          (threatens m marks ws ts i c j (earliest_at m ws l ts j))
          (λ t. ap (threatens m marks ws ts i c j) (earliest-idle m ws l ts j h t) ∙ threatens-never m marks ws ts i c j))))
