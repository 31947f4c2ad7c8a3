-- A forecast on limits. A sum with the least is the least of the sums, so that the way to the nearest segment that notifies an event is all that it asks for.
use Prim.Native.Nat.{ℕ, ◌+◌, ◌*◌, ◌<◌}
use mathlib.Core.Path.{◌≡◌, refl, ap, sym, ◌∙◌}
use mathlib.Core.Logic.{◌⊎◌, inl, inr}
use mathlib.Core.Bool.{Bool, true, false, cond, not}
use mathlib.Core.List.{List}
use native.Mathlib.Omega.{arith}
use lib.Dec.{T}
use lib.ListN.{get_or}
use Rattle.base.proofs.BoolLaws.{T-case, cond-case, T→true}
use Rattle.clock.specs.declared.Bound.{Bound}
use Rattle.clock.specs.declared.Bound.TheVariants.{Never}
use Rattle.clock.specs.Wait.{last_delta}
use Rattle.clock.specs.Advance.{least_below, ◌⊕◌}
use Rattle.clock.proofs.LeastLaws.{least_below-same}
use Rattle.clock.proofs.AdvanceLaws.{Never-⊕, ⊕-Never}
use Rattle.model.specs.declared.Model.{Model}
use Rattle.model.specs.declared.Thread.{Thread}
use Rattle.model.specs.Limits.{cut_time}
use Rattle.model.specs.Values.{segment_at, body_of}
use Rattle.model.specs.Statement.{notified_by}
use Rattle.model.specs.Footprint.{has, notifies_in}
use Rattle.model.specs.Record.{thread_at, is_live}
use Rattle.model_effect.proofs.PortLaws.{listed_in-any}
use Rattle.tables.specs.Word.{all_ones, distance_in}
use Rattle.tables_laws.proofs.WordLaws.{place-below}
use Rattle.early.specs.declared.Notification.{Notification}
use Rattle.early.specs.Earliest.{soonest_notify}
use Rattle.early_laws.proofs.LinkLaws.{soonest_notify-idle}
use Rattle.early_laws.proofs.RangeLaws.{earliest_time, sum_time, Within, within-least_below, within-distance, within-notify}
use Rattle.early_limits.specs.Limit.{limit_of, limit_of_word, sum_of}
use Rattle.early_limits.specs.Ahead.{nearest, reach_of, forecast_at, segments_of}
use Rattle.early_limits.proofs.LimitLaws.{within-limited, limit_of-cond, limit_of-below, limit_of-⊕, limit_of_word-is}
use Rattle.early_limits.proofs.PlaceLaws.{⊕-least_below, at_most-is, segments_of-at, reach_of-at}
use Rattle.early_limits.proofs.StateLaws.{FitState, fit-counts, fit-threads, fit_words, fit-segment}

-- the distance from segment r to segment s, if that notifies e; and to the nearest one that does
way_to : Model → List ℕ → ℕ → ℕ → ℕ → Bound
way_to m ws r e s = cond (has (notified_by (body_of (segment_at m s))) e) (distance_in m ws r s) Never

nearest_in : Model → List ℕ → ℕ → ℕ → Bound
nearest_in m ws r e = least_below m.n (way_to m ws r e)

-- a choice after a sum
⊕-cond : (t : Bool) (x d : Bound) → x ⊕ cond t d Never ≡ cond t (x ⊕ d) Never
⊕-cond true x d = refl
⊕-cond false x d = ⊕-Never x

soonest_notify-is : (m : Model) (ws : List ℕ) (ts : List Thread) (k e : ℕ) (x : Bound) → (T (not (is_live (thread_at ts k).state)) → x ≡ Never)
    → soonest_notify m ws ts k x e ≡ x ⊕ nearest_in m ws (thread_at ts k).segment e
unfolding way_to nearest_in soonest_notify notifies_in
soonest_notify-is m ws ts k e x idle = go (T-case (is_live (thread_at ts k).state))
  where
    r : ℕ
    r = (thread_at ts k).segment

    live : T (is_live (thread_at ts k).state) → soonest_notify m ws ts k x e ≡ least_below m.n (λ s. cond (notifies_in m k s e) (x ⊕ distance_in m ws r s) Never)
    live t = rw (T→true (is_live (thread_at ts k).state) t) refl

    go : T (is_live (thread_at ts k).state) ⊎ T (not (is_live (thread_at ts k).state)) → soonest_notify m ws ts k x e ≡ x ⊕ nearest_in m ws r e
    go (inl t) =
        live t
        ∙ least_below-same m.n (λ s. cond (notifies_in m k s e) (x ⊕ distance_in m ws r s) Never) (λ s. x ⊕ way_to m ws r e s) (λ s h. rw (listed_in-any m k s) (sym (⊕-cond (has (notified_by (body_of (segment_at m s))) e) x (distance_in m ws r s))))
        ∙ sym (⊕-least_below m.n x (way_to m ws r e))
    go (inr t) = soonest_notify-idle m ws ts k x e t ∙ rw (idle t, Never-⊕ (nearest_in m ws r e)) refl

module _ (m : Model) (ws : List ℕ) (l : List Notification) (ts : List Thread) (fit : FitState m ws l ts) where
  -- the way to the nearest segment that notifies e

  way-within : (r e s : ℕ) → r < m.n → s < m.n → Within cut_time last_delta (way_to m ws r e s)
  unfolding way_to
  way-within r e s p q =
      cond-case (Within cut_time last_delta) (has (notified_by (body_of (segment_at m s))) e) (λ t. within-distance m ws l ts (fit-threads fit) fit.log (fit_words fit) r s p q) (λ t. tt)

  nearest-within : (r e : ℕ) → r < m.n → Within cut_time last_delta (nearest_in m ws r e)
  unfolding nearest_in
  nearest-within r e p =
      within-least_below cut_time last_delta m.n (way_to m ws r e) (λ s q. way-within r e s p q)

  pub distance-limit : (r s : ℕ) → r < m.n → s < m.n → limit_of_word (get_or ws (r * m.n + s) 0) ≡ limit_of (distance_in m ws r s)
  unfolding distance_in
  distance-limit r s p q = limit_of_word-is (get_or ws (r * m.n + s) 0) (fit_words fit (r * m.n + s) (place-below m.n r s p q))

  nearest-limit : (r e : ℕ) → r < m.n → nearest m ws r e ≡ limit_of (nearest_in m ws r e)
  unfolding nearest way_to nearest_in limit_of
  nearest-limit r e p =
      limit_of-below
      m.n
      (way_to m ws r e)
      (λ s. cond (has (notified_by (body_of (segment_at m s))) e) (limit_of_word (get_or ws (r * m.n + s) 0)) all_ones)
      (λ s q. within-limited cut_time last_delta (way_to m ws r e s) (omega arith) (omega arith) (way-within r e s p q))
      (λ s q.
      let t = has (notified_by (body_of (segment_at m s))) e in
      ap (λ (x : ℕ). cond t x all_ones) (distance-limit r s p q) ∙ sym (limit_of-cond t (distance_in m ws r s) Never))

  -- limits that stand for bounds, thread by thread; never for a thread that is not live
  module _ (xs : List ℕ) (b : ℕ → Bound)
      (same : (k : ℕ) → k < m.t → get_or xs k all_ones ≡ limit_of (b k))
      (small : (k : ℕ) → k < m.t → Within earliest_time 33792 (b k))
      (idle : (k : ℕ) → k < m.t → T (not (is_live (thread_at ts k).state)) → b k ≡ Never)
      (e : ℕ) (event : e < m.e)
    where
      pub notify-small : (k : ℕ) → k < m.t → Within sum_time 34815 (soonest_notify m ws ts k (b k) e)
      notify-small k h = within-notify m ws l ts (fit-threads fit) fit.log (fit_words fit) earliest_time 33792 (b k) k e h (small k h)

      notify-limit : (k : ℕ) → k < m.t → sum_of (get_or xs k all_ones) (get_or (reach_of m ws) (get_or (segments_of m.t ts) k 0 * 32 + e) all_ones) ≡ limit_of (soonest_notify m ws ts k (b k) e)
      notify-limit k h =
          let r = (thread_at ts k).segment in
          rw
          (same k h, segments_of-at m.t ts k (fit-counts fit).threads h, reach_of-at m ws r e (fit-counts fit).segments (fit-segment fit k h) (omega (arith, (fit-counts fit).events)), nearest-limit r e (fit-segment fit k h))
          (sym
          (limit_of-⊕
          (b k)
          (nearest_in m ws r e)
          (within-limited earliest_time 33792 (b k) (omega arith) (omega arith) (small k h))
          (within-limited cut_time last_delta (nearest_in m ws r e) (omega arith) (omega arith) (nearest-within r e (fit-segment fit k h))))
          ∙ ap limit_of (sym (soonest_notify-is m ws ts k e (b k) (λ t. idle k h t))))

      pub forecast_at-is : forecast_at (reach_of m ws) (segments_of m.t ts) xs m.t e ≡ limit_of (least_below m.t (λ k. soonest_notify m ws ts k (b k) e))
      unfolding forecast_at
      forecast_at-is =
          rw
          (at_most-is 32 m.t (fit-counts fit).threads)
          (limit_of-below
          m.t
          (λ k. soonest_notify m ws ts k (b k) e)
          (λ j. sum_of (get_or xs j all_ones) (get_or (reach_of m ws) (get_or (segments_of m.t ts) j 0 * 32 + e) all_ones))
          (λ k h. within-limited sum_time 34815 (soonest_notify m ws ts k (b k) e) (omega arith) (omega arith) (notify-small k h))
          (λ k h. notify-limit k h))
