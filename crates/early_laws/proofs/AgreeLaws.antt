-- What a request asks of the thread records it asks of the first T alone, and of the words it asks the distances from where these stand: where
-- two lists agree on those, every definition of "Early issue" gives the same for both. "records past those are neither read nor written"
--     Agree     two lists of records, at least T each, that agree on the first T
--     SameFrom     words of two tables that say the same distances from where the threads stand
--     earliest_of-same, forecast_of-same, hazard-same, floor_of-same, heard_now-same, effect_at-same, log_after-same, is_unfit_threads-same
use Prim.Native.Nat.{ℕ, zero, suc, ◌<◌, ◌≤◌}
use mathlib.Core.Path.{◌≡◌, refl, ap, ap₂, ◌∙◌}
use mathlib.Core.Bool.{Bool, cond, not, ◌&&◌}
use mathlib.Core.List.{List}
use native.Mathlib.Omega.{arith}
use lib.Dec.{eqb}
use lib.ListN.{length, get_or}
use borrow.Author.Tests.{le-ltb}
use Rattle.base.proofs.IndexLaws.{any_below-same, tabulate-same}
use Rattle.clock.specs.declared.Cycle.{Cycle}
use Rattle.clock.specs.declared.Bound.{Bound}
use Rattle.clock.specs.declared.Bound.TheVariants.{Never}
use Rattle.clock.specs.Cycle.{stamp_at}
use Rattle.clock.specs.Advance.{least, least_below, ◌⊕◌, one_delta, is_bound_before}
use Rattle.clock.proofs.LeastLaws.{least_below-same}
use Rattle.model.specs.declared.Model.{Model}
use Rattle.model.specs.declared.Thread.{Thread}
use Rattle.model.specs.Record.{thread_at, is_live, ready_cycle, Awaited, nothing, awaits, awaited_by}
use Rattle.model.specs.Footprint.{notifies_in}
use Rattle.tables.specs.Word.{distance_in}
use Rattle.plain.specs.Wake.{floor_below, floor_of}
use Rattle.early.specs.declared.Notification.{Notification}
use Rattle.early.specs.declared.Site.{Site}
use Rattle.early.specs.Log.{least_heard}
use Rattle.early.specs.Earliest.{source_of, soonest_notify, raised, after_notify, link_to, sources, relaxed, with_links, earliest_of}
use Rattle.early.specs.Forecast.{forecast_of}
use Rattle.early.specs.Hazard.{threads_conflict, is_sooner, threatens, hazard}
use Rattle.early.specs.Deliver.{forecast_sooner, heard_by, heard_now}
use Rattle.early.specs.Fit.{is_fit_thread, is_unfit_threads}
use Rattle.early.specs.Grant.{effect_at, log_after}

-- the first T records of two lists
pub record Agree (m : Model) (ts us : List Thread) : Type 0 where
  pub left : m.t ≤ length ts
  pub right : m.t ≤ length us
  pub same : (k : ℕ) → k < m.t → thread_at ts k ≡ thread_at us k

-- the distances from the segments of the first T records
abbrev pub SameFrom : Model → List ℕ → List ℕ → List Thread → Type 0
SameFrom m ws ys ts = (k s : ℕ) → k < m.t → s < m.n → distance_in m ws (thread_at ts k).segment s ≡ distance_in m ys (thread_at ts k).segment s

module _ (m : Model) (ts us : List Thread) (agree : Agree m ts us) where
  pub is_unfit_threads-same : is_unfit_threads m ts ≡ is_unfit_threads m us
  unfolding is_unfit_threads
  is_unfit_threads-same =
      rw (le-ltb (length ts) m.t agree.left, le-ltb (length us) m.t agree.right)
      (any_below-same m.t (λ k. not (is_fit_thread m k (thread_at ts k))) (λ k. not (is_fit_thread m k (thread_at us k))) (λ k h. ap (λ (t : Thread). not (is_fit_thread m k t)) (agree.same k h)))

  pub floor_of-same : floor_of m ts ≡ floor_of m us
  unfolding floor_below
  floor_of-same = least_below-same m.t (λ k. ready_cycle (thread_at ts k).state) (λ k. ready_cycle (thread_at us k).state) (λ k h. ap (λ (t : Thread). ready_cycle t.state) (agree.same k h))

  module _ (ws ys : List ℕ) (from : SameFrom m ws ys us) where
    soonest_notify-same : (k : ℕ) (x : Bound) (e : ℕ) → k < m.t → soonest_notify m ws ts k x e ≡ soonest_notify m ys us k x e
    unfolding soonest_notify
    soonest_notify-same k x e h =
        rw (agree.same k h)
        (ap
        (λ (b : Bound). cond (is_live (thread_at us k).state) b Never)
        (least_below-same
        m.n
        (λ s. cond (notifies_in m k s e) (x ⊕ distance_in m ws (thread_at us k).segment s) Never)
        (λ s. cond (notifies_in m k s e) (x ⊕ distance_in m ys (thread_at us k).segment s) Never)
        (λ s l. ap (λ (d : Bound). cond (notifies_in m k s e) (x ⊕ d) Never) (from k s h l))))

    link_to-same : (j k : ℕ) (x : Bound) → j < m.t → k < m.t → link_to m ws ts j k x ≡ link_to m ys us j k x
    unfolding link_to after_notify
    link_to-same j k x p h = rw (agree.same k h) (go (awaited_by (thread_at us k).state))
      where
        go : (a : Awaited) → after_notify m ws ts j x a ≡ after_notify m ys us j x a
        go nothing = refl
        go (awaits e since) = ap (λ (b : Bound). raised since b ⊕ one_delta) (soonest_notify-same j x e p)

    module _ (l : List Notification) where
      sources-same : sources m l ts ≡ sources m l us
      unfolding sources
      sources-same = tabulate-same m.t 0 (λ k. source_of l (thread_at ts k).state) (λ k. source_of l (thread_at us k).state) (λ k h. ap (λ (t : Thread). source_of l t.state) (agree.same k (omega arith)))

      relaxed-same : (xs : List Bound) → relaxed m ws ts xs ≡ relaxed m ys us xs
      unfolding relaxed
      relaxed-same xs =
          tabulate-same
          m.t
          0
          (λ k. least (get_or xs k Never) (least_below m.t (λ j. link_to m ws ts j k (get_or xs j Never))))
          (λ k. least (get_or xs k Never) (least_below m.t (λ j. link_to m ys us j k (get_or xs j Never))))
          (λ k h.
          ap
          (least (get_or xs k Never))
          (least_below-same m.t (λ j. link_to m ws ts j k (get_or xs j Never)) (λ j. link_to m ys us j k (get_or xs j Never)) (λ j p. link_to-same j k (get_or xs j Never) p (omega arith))))

      with_links-same : (n : ℕ) → with_links m ws l ts n ≡ with_links m ys l us n
      unfolding with_links
      with_links-same zero = sources-same
      with_links-same (suc n) = relaxed-same (with_links m ws l ts n) ∙ ap (relaxed m ys us) (with_links-same n)

      pub earliest_of-same : earliest_of m ws l ts ≡ earliest_of m ys l us
      unfolding earliest_of
      earliest_of-same = with_links-same m.t

      pub forecast_of-same : (e : ℕ) → forecast_of m ws l ts e ≡ forecast_of m ys l us e
      unfolding forecast_of
      forecast_of-same e =
          least_below-same
          m.t
          (λ k. soonest_notify m ws ts k (get_or (earliest_of m ws l ts) k Never) e)
          (λ k. soonest_notify m ys us k (get_or (earliest_of m ys l us) k Never) e)
          (λ k h. soonest_notify-same k (get_or (earliest_of m ws l ts) k Never) e h ∙ ap (λ (xs : List Bound). soonest_notify m ys us k (get_or xs k Never) e) earliest_of-same)

      pub heard_now-same : (a : Awaited) → heard_now m ws l ts a ≡ heard_now m ys l us a
      unfolding heard_by forecast_sooner
      heard_now-same nothing = refl
      heard_now-same (awaits e since) = ap (λ (b : Bound). cond (is_bound_before b (least_heard l e since)) Never (least_heard l e since)) (forecast_of-same e)

      pub hazard-same : (marks : List (List Bool)) (i : ℕ) (c : Cycle) → i < m.t → hazard m marks ws l ts i c ≡ hazard m marks ys l us i c
      unfolding hazard threatens
      hazard-same marks i c p =
          any_below-same
          m.t
          (λ j. (not (eqb j i) && is_live (thread_at ts j).state) && threatens m marks ws ts i c j (get_or (earliest_of m ws l ts) j Never))
          (λ j. (not (eqb j i) && is_live (thread_at us j).state) && threatens m marks ys us i c j (get_or (earliest_of m ys l us) j Never))
          (λ j h. ap₂ ◌&&◌ (ap (λ (t : Thread). not (eqb j i) && is_live t.state) (agree.same j h)) (threat j h))
        where
          threat : (j : ℕ) → j < m.t → threatens m marks ws ts i c j (get_or (earliest_of m ws l ts) j Never) ≡ threatens m marks ys us i c j (get_or (earliest_of m ys l us) j Never)
          threat j h =
              let b = get_or (earliest_of m ys l us) j Never in
              rw (agree.same i p, agree.same j h, earliest_of-same)
              (any_below-same
              m.n
              (λ s. threads_conflict m marks i (thread_at us i).segment j s && is_sooner (b ⊕ distance_in m ws (thread_at us j).segment s) j (stamp_at c i))
              (λ s. threads_conflict m marks i (thread_at us i).segment j s && is_sooner (b ⊕ distance_in m ys (thread_at us j).segment s) j (stamp_at c i))
              (λ s l. ap (λ (d : Bound). threads_conflict m marks i (thread_at us i).segment j s && is_sooner (b ⊕ d) j (stamp_at c i)) (from j s h l)))

  module _ (site : Site) (k : ℕ) (c : Cycle) (h : k < m.t) where
    pub effect_at-same : effect_at m site ts k c ≡ effect_at m site us k c
    unfolding effect_at
    effect_at-same = rw (agree.same k h) refl

    pub log_after-same : log_after m site ts k c ≡ log_after m site us k c
    unfolding log_after
    log_after-same = rw effect_at-same refl
