-- Earliest on limits, round by round. A thread that is not live is never at any cycle, after any round.
use Prim.Native.Nat.{ℕ, zero, suc, ◌<◌, ◌≤◌}
use mathlib.Core.Path.{◌≡◌, refl, ap, sym, ◌∙◌}
use mathlib.Core.Logic.{◌⊎◌, inl, inr}
use mathlib.Core.Bool.{not}
use mathlib.Core.List.{List}
use native.Mathlib.Omega.{arith}
use lib.Dec.{T}
use lib.ListN.{get_or}
use borrow.Author.Tests.{lt-ltb}
use Rattle.clock.specs.declared.Cycle.{Cycle}
use Rattle.clock.specs.declared.Bound.{Bound}
use Rattle.clock.specs.declared.Bound.TheVariants.{Never}
use Rattle.clock.specs.Advance.{least, least_below, ◌⊕◌, one_delta}
use Rattle.clock.proofs.LeastLaws.{least-Never-right, least_below-one, least_below-same}
use Rattle.model.specs.declared.Model.{Model}
use Rattle.model.specs.declared.Thread.{Thread}
use Rattle.model.specs.Record.{thread_at, is_live, Awaited, nothing, awaits, awaited_by, view_of, awaited_of}
use Rattle.tables.specs.Word.{all_ones}
use Rattle.plain_laws.proofs.RecordLaws.{not-live→idle, awaits→waits}
use Rattle.early.specs.declared.Notification.{Notification}
use Rattle.early.specs.Earliest.{soonest_notify, raised, link_to, earliest_of}
use Rattle.early_laws.proofs.RaiseLaws.{raised-least_below}
use Rattle.early_laws.proofs.LinkLaws.{source_of-idle, link_to-waiting, link_to-other}
use Rattle.early_laws.proofs.EarliestLaws.{earliest_at, linked_at, with_links-none, with_links-more}
use Rattle.early_laws.proofs.FitLaws.{is_fit_thread→}
use Rattle.early_laws.proofs.RangeLaws.{earliest_time, sum_time, Within, within-least_below, within-one_delta, within-notify, began-fit, within-raised, links-small, earliest-small}
use Rattle.early_limits.specs.Limit.{limit_of, limit_of_cycle, lesser, sum_of, raised_limit}
use Rattle.early_limits.specs.Ahead.{reach_of, forecast_at, relaxed_by, relaxed_at, after_rounds, earliest_limits, event_awaited, since_awaited, segments_of, crew_of, source_limits}
use Rattle.early_limits.proofs.LimitLaws.{within-limited, limit_of-least, limit_of-raised, limit_of-one_delta, limit_of_cycle-is}
use Rattle.early_limits.proofs.PlaceLaws.{least_below-⊕, events_of-at, since_of-at, source_limits-at, source_limits-past, relaxed_limits-at, relaxed_limits-past}
use Rattle.early_limits.proofs.StateLaws.{FitState, fit-counts, fit-threads, fit_words}
use Rattle.early_limits.proofs.NearestLaws.{forecast_at-is}

-- the limits that a request looks ahead with
abbrev pub limits_of : Model → List ℕ → List Notification → List Thread → List ℕ
limits_of m ws l ts = earliest_limits (reach_of m ws) (crew_of m.t ts) m.t (source_limits m.t l ts)

-- the forecast of e, with thread k no sooner than b k
abbrev forecast_from : Model → List ℕ → List Thread → (ℕ → Bound) → ℕ → Bound
forecast_from m ws ts b e = least_below m.t (λ k. soonest_notify m ws ts k (b k) e)

-- no link leads to a thread that does not wait
no-links : (m : Model) (ws : List ℕ) (ts : List Thread) (k : ℕ) (b : ℕ → Bound) → awaited_by (thread_at ts k).state ≡ nothing → least_below m.t (λ j. link_to m ws ts j k (b j)) ≡ Never
no-links m ws ts k b e = go (least_below-one m.t f)
  where
    f : ℕ → Bound
    f j = link_to m ws ts j k (b j)

    go : (least_below m.t f ≡ Never) ⊎ ((j : ℕ) × (j < m.t) × (least_below m.t f ≡ f j)) → least_below m.t f ≡ Never
    go (inl p) = p
    go (inr (j, h, p)) = p ∙ link_to-other m ws ts j k (b j) e

module _ (m : Model) (ws : List ℕ) (l : List Notification) (ts : List Thread) (fit : FitState m ws l ts) where
  -- earliest, round by round

  linked-idle : (n k : ℕ) → k < m.t → T (not (is_live (thread_at ts k).state)) → linked_at m ws l ts n k ≡ Never
  linked-idle zero k h t = with_links-none m ws l ts k h ∙ source_of-idle l (thread_at ts k).state t
  linked-idle (suc n) k h t =
      let before = linked-idle n k h t in
      with_links-more m ws l ts n k h
      ∙ rw (before, no-links m ws ts k (λ j. linked_at m ws l ts n j) (ap awaited_of (not-live→idle (view_of (thread_at ts k).state) t))) (least-Never-right Never)

  -- one round: xs holds the limits after n rounds
  module _ (n : ℕ) (few : n ≤ 32) (xs : List ℕ) (same : (k : ℕ) → k < m.t → get_or xs k all_ones ≡ limit_of (linked_at m ws l ts n k)) (k : ℕ) (h : k < m.t) where
    small : (j : ℕ) → j < m.t → Within earliest_time 33792 (linked_at m ws l ts n j)
    small j p = links-small m ws l ts (fit-threads fit) fit.log (fit_words fit) n j few p

    -- a waiting thread, one delta after the forecast of its event, raised to its wait
    module _ (e : ℕ) (since : Cycle) (awaited : awaited_by (thread_at ts k).state ≡ awaits e since) (event : e < m.e) where
      links-are : least_below m.t (λ j. link_to m ws ts j k (linked_at m ws l ts n j)) ≡ raised since (forecast_from m ws ts (linked_at m ws l ts n) e) ⊕ one_delta
      links-are =
          least_below-same
          m.t
          (λ j. link_to m ws ts j k (linked_at m ws l ts n j))
          (λ j. raised since (soonest_notify m ws ts j (linked_at m ws l ts n j) e) ⊕ one_delta)
          (λ j p. link_to-waiting m ws ts j k e since (linked_at m ws l ts n j) (awaits→waits (view_of (thread_at ts k).state) e since awaited))
          ∙ sym (least_below-⊕ m.t (λ j. raised since (soonest_notify m ws ts j (linked_at m ws l ts n j) e)) one_delta)
          ∙ ap (λ (b : Bound). b ⊕ one_delta) (sym (raised-least_below since m.t (λ j. soonest_notify m ws ts j (linked_at m ws l ts n j) e)))

      forecast-small : Within sum_time 34815 (forecast_from m ws ts (linked_at m ws l ts n) e)
      forecast-small =
          within-least_below
          sum_time
          34815
          m.t
          (λ j. soonest_notify m ws ts j (linked_at m ws l ts n j) e)
          (λ j p. within-notify m ws l ts (fit-threads fit) fit.log (fit_words fit) earliest_time 33792 (linked_at m ws l ts n j) j e p (small j p))

      raised-small : Within sum_time 34815 (raised since (forecast_from m ws ts (linked_at m ws l ts n) e))
      raised-small =
          within-raised m ws l ts (fit-threads fit) fit.log (fit_words fit) sum_time 34815 k e since (forecast_from m ws ts (linked_at m ws l ts n) e) (omega arith) (omega arith) h awaited forecast-small

      raised-limit : raised_limit (limit_of_cycle since) (forecast_at (reach_of m ws) (segments_of m.t ts) xs m.t e) ≡ limit_of (raised since (forecast_from m ws ts (linked_at m ws l ts n) e))
      raised-limit =
          let f = forecast_from m ws ts (linked_at m ws l ts n) e in
          let began = began-fit m ws l ts (fit-threads fit) fit.log (fit_words fit) k e since h awaited in
          rw
          (limit_of_cycle-is since (omega (arith, began.time)), forecast_at-is m ws l ts fit xs (linked_at m ws l ts n) same small (λ j p t. linked-idle n j p t) e event)
          (sym (limit_of-raised since f (omega (arith, began.time, began.delta)) (within-limited sum_time 34815 f (omega arith) (omega arith) forecast-small)))

      woken-limit : lesser (limit_of (linked_at m ws l ts n k)) (sum_of (raised_limit (limit_of_cycle since) (forecast_at (reach_of m ws) (segments_of m.t ts) xs m.t e)) 1) ≡ limit_of (least (linked_at m ws l ts n k) (least_below m.t (λ j. link_to m ws ts j k (linked_at m ws l ts n j))))
      woken-limit =
          let x = linked_at m ws l ts n k in
          let f = raised since (forecast_from m ws ts (linked_at m ws l ts n) e) in
          rw
          (links-are, raised-limit)
          (ap (lesser (limit_of x)) (sym (limit_of-one_delta f (within-limited sum_time 34815 f (omega arith) (omega arith) raised-small)))
          ∙ sym
          (limit_of-least
          x
          (f ⊕ one_delta)
          (within-limited earliest_time 33792 x (omega arith) (omega arith) (small k h))
          (within-limited sum_time 34816 (f ⊕ one_delta) (omega arith) (omega arith) (within-one_delta sum_time 34815 f raised-small))))

    round-limit : relaxed_at (reach_of m ws) (crew_of m.t ts) xs m.t k ≡ limit_of (linked_at m ws l ts (suc n) k)
    unfolding relaxed_at relaxed_by event_awaited since_awaited crew_of
    round-limit = go (awaited_by (thread_at ts k).state) refl ∙ ap limit_of (sym (with_links-more m ws l ts n k h))
      where
        x : Bound
        x = linked_at m ws l ts n k

        links : Bound
        links = least_below m.t (λ j. link_to m ws ts j k (linked_at m ws l ts n j))

        go : (a : Awaited) → awaited_by (thread_at ts k).state ≡ a → relaxed_at (reach_of m ws) (crew_of m.t ts) xs m.t k ≡ limit_of (least x links)
        go nothing p =
            rw
            (events_of-at m.t ts k (fit-counts fit).threads h, p, same k h, no-links m ws ts k (λ j. linked_at m ws l ts n j) p)
            (ap limit_of (sym (least-Never-right x)))
        go (awaits e since) p =
            let waits = awaits→waits (view_of (thread_at ts k).state) e since p in
            let event = (is_fit_thread→ m k (thread_at ts k) (fit-threads fit k h)).event e since waits in
            rw
            (events_of-at m.t ts k (fit-counts fit).threads h, since_of-at m.t ts k (fit-counts fit).threads h, p, lt-ltb e 32 (omega (arith, (fit-counts fit).events)), same k h)
            (woken-limit e since p event)

  rounds-limit : (n : ℕ) → n ≤ 32 → (k : ℕ) → k < m.t
      → get_or (after_rounds (reach_of m ws) (crew_of m.t ts) m.t n (source_limits m.t l ts)) k all_ones ≡ limit_of (linked_at m ws l ts n k)
  unfolding after_rounds
  rounds-limit zero few k h = source_limits-at m.t ts k (fit-counts fit).threads h l ∙ ap limit_of (sym (with_links-none m ws l ts k h))
  rounds-limit (suc n) few k h =
      let xs = after_rounds (reach_of m ws) (crew_of m.t ts) m.t n (source_limits m.t l ts) in
      relaxed_limits-at (reach_of m ws) (crew_of m.t ts) m.t xs k (fit-counts fit).threads h
      ∙ round-limit n (omega arith) xs (λ j p. rounds-limit n (omega arith) j p) k h

  rounds-past : (n k : ℕ) → m.t ≤ k → get_or (after_rounds (reach_of m ws) (crew_of m.t ts) m.t n (source_limits m.t l ts)) k all_ones ≡ all_ones
  unfolding after_rounds
  rounds-past zero k h = source_limits-past m.t l ts k h
  rounds-past (suc n) k h =
      let xs = after_rounds (reach_of m ws) (crew_of m.t ts) m.t n (source_limits m.t l ts) in
      let before = rounds-past n k h in
      relaxed_limits-past (reach_of m ws) (crew_of m.t ts) m.t xs k h before

  -- earliest

  pub earliest_limits-is : (k : ℕ) → k < m.t → get_or (limits_of m ws l ts) k all_ones ≡ limit_of (earliest_at m ws l ts k)
  unfolding earliest_limits earliest_of
  earliest_limits-is k h = rounds-limit m.t (fit-counts fit).threads k h

  pub earliest_limits-past : (k : ℕ) → m.t ≤ k → get_or (limits_of m ws l ts) k all_ones ≡ all_ones
  unfolding earliest_limits
  earliest_limits-past k h = rounds-past m.t k h

  pub earliest-range : (k : ℕ) → k < m.t → Within earliest_time 33792 (earliest_at m ws l ts k)
  earliest-range k h = earliest-small m ws l ts (fit-threads fit) fit.log (fit_words fit) k (fit-counts fit).threads h
