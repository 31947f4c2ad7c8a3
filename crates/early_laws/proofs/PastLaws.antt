-- What stands past the model's counts is not asked: variables from V on are neither read nor written, and entries past N segments, past T threads
-- and past a segment's statements are not read.
--     request_of-variables, request_of-untouched     variables past V
--     request_of-entries     entries past the counts
use Prim.Native.Nat.{ℕ, zero, suc, ◌<◌, ◌≤◌}
use mathlib.Core.Path.{◌≡◌, refl, ap, fun_ext, ◌∙◌}
use mathlib.Core.Bool.{Bool, true, false, cond, not, ◌&&◌, ◌||◌}
use mathlib.Core.List.{List}
use native.Mathlib.Omega.{arith}
use native.Mathlib.Decide.{dec_lt, ℕ_discrete}
use lib.Dec.{not_T, ltb, eqb}
use lib.ListN.{length, get_or}
use borrow.Author.Tests.{le-ltb, eq-eqb, ne_eqb}
use Rattle.base.proofs.BoolLaws.{T→false}
use Rattle.base.proofs.IndexLaws.{any_below-same, tabulate-same}
use Rattle.clock.specs.declared.Cycle.{Cycle}
use Rattle.clock.specs.declared.Bound.{Bound}
use Rattle.clock.specs.declared.Bound.TheVariants.{Never}
use Rattle.clock.specs.Cycle.{stamp_at}
use Rattle.clock.specs.Advance.{least, least_below, ◌⊕◌, one_delta, is_bound_before}
use Rattle.clock.proofs.LeastLaws.{least_below-same}
use Rattle.model.specs.declared.Segment.{Segment}
use Rattle.model.specs.declared.Start.{Start}
use Rattle.model.specs.declared.Model.{Model}
use Rattle.model.specs.declared.Thread.{Thread}
use Rattle.model.specs.declared.Variables.{Variables}
use Rattle.model.specs.Refusal.{accepted, wrong_thread, unfit}
use Rattle.model.specs.Values.{segment_at, start_at}
use Rattle.model.specs.Limits.{record_time, is_up_to_horizon}
use Rattle.model.specs.Record.{thread_at, is_live, cycle_of, Awaited, nothing, awaits, awaited_by}
use Rattle.model.specs.Footprint.{has, writes_in, listed_in, notifies_in}
use Rattle.model.specs.Reach.{lacks_from}
use Rattle.model.specs.Rules.{model_fault}
use Rattle.model_effect.proofs.FrameLaws.{Agree, effect_of-within, effect_of-frame}
use Rattle.model_reach.proofs.ReachLaws.{lacks_from-self}
use Rattle.model_rules.proofs.RuleLaws.{model_fault-uses, model_fault-writes}
use Rattle.tables.specs.Word.{distance_in}
use Rattle.early.specs.declared.Site.{Site}
use Rattle.early.specs.declared.Notification.{Notification}
use Rattle.early.specs.Log.{log_of, site_of, counted_log}
use Rattle.early.specs.Earliest.{sources, soonest_notify, raised, after_notify, link_to, relaxed, with_links, earliest_of}
use Rattle.early.specs.Forecast.{forecast_of}
use Rattle.early.specs.Hazard.{threads_conflict, is_sooner, threatens, hazard}
use Rattle.early.specs.Deliver.{forecast_sooner}
use Rattle.early.specs.Fit.{is_fit_cycle, is_fit_wait, is_fit_run, is_fit_thread, is_fit_pair, is_unfit_threads, is_unfit_log, is_unfit_places, is_unfit_words, is_unfit, is_unfit_state}
use Rattle.early.specs.Grant.{log_by, effect_at, log_after, closed_threads, items_after}
use Rattle.early.specs.Request.{number_for, number_in, Requested, refused_with, granted_to, answered_by, request_fit, request_of}
use Rattle.early_laws.proofs.CountedLaws.{with_running-same}
use Rattle.early_laws.proofs.FitLaws.{FitThread, is_fit_thread→, is_unfit_threads→, is_unfit→}
use Rattle.early_laws.proofs.NumberLaws.{number_for→passed}
use Rattle.early_laws.proofs.RequestLaws as asked
use Rattle.early_laws.proofs.EntryLaws.{with_entries, SameSegment, model_fault-same, listed_in-same, effect_of-same, lacks_from-same, threads_conflict-same}

-- VARIABLES PAST V

-- what two requests leave, where the variables agree below V
pub record AlikeBelow (m : Model) (a b : Requested) : Type 0 where
  pub answer : a.answer ≡ b.answer
  pub threads : a.threads ≡ b.threads
  pub items : (j : ℕ) → a.items j ≡ b.items j
  pub variables : Agree (λ i. i < m.v) a.site.variables.at b.site.variables.at
  pub log : a.site.log ≡ b.site.log
  pub count : a.site.count ≡ b.site.count

abbrev pub with_variables : Site → Variables → Site
with_variables site v = record { variables = v; log = site.log; count = site.count }

module _ (m : Model) (marks : List (List Bool)) (ws : List ℕ) (ts : List Thread) (k : ℕ) where
  -- "neither read": states that differ in variables from V on
  module _ (site : Site) (v : Variables) (same : Agree (λ i. i < m.v) site.variables.at v.at) where
    refused-alike : (n : ℕ) → AlikeBelow m (refused_with n site ts) (refused_with n (with_variables site v) ts)
    refused-alike n = record { answer = refl; threads = refl; items = λ j. refl; variables = same; log = refl; count = refl }

    granted-alike : (c : Cycle) → model_fault m ≡ accepted → k < m.t → FitThread m k (thread_at ts k)
        → AlikeBelow m (granted_to m ws site ts k c) (granted_to m ws (with_variables site v) ts k c)
    unfolding granted_to items_after log_after closed_threads effect_at log_of site_of
    granted-alike c fit l f =
        let s = (thread_at ts k).segment in
        let none = lacks_from-self m k s f.segment f.lacks in
        let x = effect_of-within m k s c (λ i. i < m.v) (model_fault-uses m fit k s f.segment l none) site.variables.at v.at same in
        record {
          answer = refl;
          threads = rw (x.same_notified, x.same_thread) refl;
          items = λ j. rw (x.same_notified, x.same_thread) refl;
          variables = x.variables_agree;
          log = rw (x.same_notified, x.same_thread) refl;
          count = rw (x.same_notified, x.same_thread) refl;
        }

    pub request_of-variables : AlikeBelow m (request_of m marks ws site ts k) (request_of m marks ws (with_variables site v) ts k)
    unfolding request_of request_fit answered_by number_in log_of is_unfit is_unfit_state is_unfit_log is_unfit_places
    request_of-variables = whole (is_unfit m ws site ts) refl
      where
        n : ℕ
        n = number_in m marks ws site ts k

        c : Cycle
        c = cycle_of (thread_at ts k).state

        decided : is_unfit m ws site ts ≡ false → Dec (n ≡ accepted)
            → AlikeBelow m (answered_by n site ts (granted_to m ws site ts k c)) (answered_by n (with_variables site v) ts (granted_to m ws (with_variables site v) ts k c))
        decided e (no d) = rw (ne_eqb n accepted d) (refused-alike n)
        decided e (yes d) =
            let fit = is_unfit→ m ws site ts e in
            let (_, p) = number_for→passed _ _ _ _ _ _ ts k d in
            rw (eq-eqb n accepted d) (granted-alike c fit.model p.thread (is_fit_thread→ m k (thread_at ts k) ((is_unfit_threads→ m ts fit.threads).1 k p.thread)))

        whole : (b : Bool) → is_unfit m ws site ts ≡ b
            → AlikeBelow m (cond b (refused_with unfit site ts) (request_fit m marks ws site ts k)) (cond b (refused_with unfit (with_variables site v) ts) (request_fit m marks ws (with_variables site v) ts k))
        whole true e = refused-alike unfit
        whole false e = decided e (ℕ_discrete n accepted)

  -- "nor written"
  pub request_of-untouched : (site : Site) (i : ℕ) → m.v ≤ i → get_or (request_of m marks ws site ts k).site.variables.at i 0 ≡ get_or site.variables.at i 0
  unfolding granted_to effect_at site_of
  request_of-untouched site i past = go (asked.request_of-asked m marks ws site ts k)
    where
      go : {r : Requested} → asked.Asked m marks ws site ts k r → get_or r.site.variables.at i 0 ≡ get_or site.variables.at i 0
      go (asked.refused n h u) = refl
      go (asked.granted c g) =
          let fit = is_unfit→ m ws site ts g.fit in
          let s = (thread_at ts k).segment in
          let f = is_fit_thread→ m k (thread_at ts k) ((is_unfit_threads→ m ts fit.threads).1 k g.thread) in
          let none = lacks_from-self m k s f.segment f.lacks in
          effect_of-frame m k s c site.variables.at i
          (T→false (writes_in m k s i) (not_T (writes_in m k s i) (λ t. absurd (omega (arith, model_fault-writes m fit.model k s f.segment g.thread none i t)))))

-- ENTRIES PAST THE COUNTS

-- a thread's number from T on
number_in-past : (m : Model) (marks : List (List Bool)) (ws : List ℕ) (site : Site) (ts : List Thread) (k : ℕ) → (k < m.t → ⊥) → number_in m marks ws site ts k ≡ wrong_thread
unfolding number_in number_for
number_in-past m marks ws site ts k other = rw (le-ltb k m.t (omega arith)) refl

module _ (m : Model) (gs : List Segment) (ss : List Start)
    (segments : (s : ℕ) → s < m.n → SameSegment (segment_at (with_entries m gs ss) s) (segment_at m s))
    (starts : (k : ℕ) → k < m.t → start_at (with_entries m gs ss) k ≡ start_at m k) where
  o : Model
  o = with_entries m gs ss

  module _ (ws : List ℕ) where
    soonest_notify-same : (ts : List Thread) (k : ℕ) (x : Bound) (e : ℕ) → soonest_notify o ws ts k x e ≡ soonest_notify m ws ts k x e
    unfolding o soonest_notify notifies_in distance_in
    soonest_notify-same ts k x e =
        ap
        (λ (b : Bound). cond (is_live (thread_at ts k).state) b Never)
        (least_below-same
        m.n
        (λ s. cond (has (listed_in (with_entries m gs ss) k s) e) (x ⊕ distance_in m ws (thread_at ts k).segment s) Never)
        (λ s. cond (has (listed_in m k s) e) (x ⊕ distance_in m ws (thread_at ts k).segment s) Never)
        (λ s l. ap (λ (es : List ℕ). cond (has es e) (x ⊕ distance_in m ws (thread_at ts k).segment s) Never) (listed_in-same m gs ss segments starts k s l)))

    link_to-same : (ts : List Thread) (j k : ℕ) (x : Bound) → link_to o ws ts j k x ≡ link_to m ws ts j k x
    unfolding link_to after_notify
    link_to-same ts j k x = go (awaited_by (thread_at ts k).state)
      where
        go : (a : Awaited) → after_notify o ws ts j x a ≡ after_notify m ws ts j x a
        go nothing = refl
        go (awaits e since) = ap (λ (b : Bound). raised since b ⊕ one_delta) (soonest_notify-same ts j x e)

    relaxed-same : (ts : List Thread) (xs : List Bound) → relaxed o ws ts xs ≡ relaxed m ws ts xs
    unfolding o relaxed
    relaxed-same ts xs =
        tabulate-same
        m.t
        0
        (λ k. least (get_or xs k Never) (least_below m.t (λ j. link_to (with_entries m gs ss) ws ts j k (get_or xs j Never))))
        (λ k. least (get_or xs k Never) (least_below m.t (λ j. link_to m ws ts j k (get_or xs j Never))))
        (λ k h.
        ap
        (least (get_or xs k Never))
        (least_below-same m.t (λ j. link_to (with_entries m gs ss) ws ts j k (get_or xs j Never)) (λ j. link_to m ws ts j k (get_or xs j Never)) (λ j p. link_to-same ts j k (get_or xs j Never))))

    module _ (l : List Notification) where
      with_links-same : (ts : List Thread) (n : ℕ) → with_links o ws l ts n ≡ with_links m ws l ts n
      unfolding o with_links sources
      with_links-same ts zero = refl
      with_links-same ts (suc n) = relaxed-same ts (with_links o ws l ts n) ∙ ap (relaxed m ws ts) (with_links-same ts n)

      earliest_of-same : (ts : List Thread) → earliest_of o ws l ts ≡ earliest_of m ws l ts
      unfolding o earliest_of
      earliest_of-same ts = with_links-same ts m.t

      sooner-same : forecast_sooner o ws l ≡ forecast_sooner m ws l
      unfolding o forecast_sooner forecast_of
      sooner-same =
          fun_ext (λ ts. fun_ext (λ e. fun_ext (λ x. ap (λ (b : Bound). is_bound_before b x) (least_below-same m.t (λ k. soonest_notify (with_entries m gs ss) ws ts k (get_or (earliest_of (with_entries m gs ss) ws l ts) k Never) e) (λ k. soonest_notify m ws ts k (get_or (earliest_of m ws l ts) k Never) e) (λ k h. soonest_notify-same ts k _ e ∙ ap (λ (xs : List Bound). soonest_notify m ws ts k (get_or xs k Never) e) (earliest_of-same ts))))))

      hazard-same : (marks : List (List Bool)) (ts : List Thread) (i : ℕ) → i < m.t → (thread_at ts i).segment < m.n → hazard o marks ws l ts i ≡ hazard m marks ws l ts i
      unfolding o hazard threatens distance_in
      hazard-same marks ts i it rn =
          fun_ext (λ c.
          rw (earliest_of-same ts)
          (any_below-same
          m.t
          (λ j. (not (eqb j i) && is_live (thread_at ts j).state) && threatens (with_entries m gs ss) marks ws ts i c j (get_or (earliest_of m ws l ts) j Never))
          (λ j. (not (eqb j i) && is_live (thread_at ts j).state) && threatens m marks ws ts i c j (get_or (earliest_of m ws l ts) j Never))
          (λ j jt. ap (λ (b : Bool). (not (eqb j i) && is_live (thread_at ts j).state) && b) (threat c j (get_or (earliest_of m ws l ts) j Never) jt))))
        where
          threat : (c : Cycle) (j : ℕ) (b : Bound) → j < m.t → threatens (with_entries m gs ss) marks ws ts i c j b ≡ threatens m marks ws ts i c j b
          threat c j b jt =
              any_below-same
              m.n
              (λ s. threads_conflict (with_entries m gs ss) marks i (thread_at ts i).segment j s && is_sooner (b ⊕ distance_in m ws (thread_at ts j).segment s) j (stamp_at c i))
              (λ s. threads_conflict m marks i (thread_at ts i).segment j s && is_sooner (b ⊕ distance_in m ws (thread_at ts j).segment s) j (stamp_at c i))
              (λ s sn.
              ap (λ (x : Bool). x && is_sooner (b ⊕ distance_in m ws (thread_at ts j).segment s) j (stamp_at c i))
              (threads_conflict-same m gs ss segments starts marks i (thread_at ts i).segment j s it rn jt sn))

  module _ (marks : List (List Bool)) (ws : List ℕ) (site : Site) (ts : List Thread) (k : ℕ) where
    items-same : (c : Cycle) → k < m.t → (thread_at ts k).segment < m.n → items_after o ws site ts k c ≡ items_after m ws site ts k c
    unfolding o items_after log_after closed_threads effect_at
    items-same c l h = fun_ext (λ j. rw (effect_of-same m gs ss segments starts k (thread_at ts k).segment c site.variables.at l h, sooner-same ws (log_by site c (effect_at m site ts k c))) refl)

    granted-same : (c : Cycle) → k < m.t → (thread_at ts k).segment < m.n → granted_to o ws site ts k c ≡ granted_to m ws site ts k c
    unfolding o granted_to effect_at
    granted-same c l h =
        rw (effect_of-same m gs ss segments starts k (thread_at ts k).segment c site.variables.at l h, sooner-same ws (log_by site c (effect_at m site ts k c)), items-same c l h) refl

    -- the same is counted where every thread is in a segment below N
    counted_same : ((j : ℕ) → j < m.t → (thread_at ts j).segment < m.n) → counted_log o ts (log_of site) ≡ counted_log m ts (log_of site)
    unfolding o
    counted_same below =
        with_running-same (with_entries m gs ss) m ts ts (log_of site) m.t (λ j h. refl) (λ j h. listed_in-same m gs ss segments starts j (thread_at ts j).segment (below j h))

    number_same : ((j : ℕ) → j < m.t → (thread_at ts j).segment < m.n) → k < m.t → number_in o marks ws site ts k ≡ number_in m marks ws site ts k
    unfolding o number_in
    number_same below l =
        let h = below k l in
        rw (hazard-same ws (log_of site) marks ts k l h, listed_in-same m gs ss segments starts k (thread_at ts k).segment h, counted_same below) refl

    is_fit_wait-same : (a : Awaited) → is_fit_wait o a ≡ is_fit_wait m a
    unfolding o is_fit_wait
    is_fit_wait-same nothing = refl
    is_fit_wait-same (awaits e since) = refl

    is_unfit_threads-same : is_unfit_threads o ts ≡ is_unfit_threads m ts
    unfolding o is_unfit_threads is_fit_thread is_fit_run is_up_to_horizon
    is_unfit_threads-same =
        ap
        (λ (b : Bool). ltb (length ts) m.t || b)
        (any_below-same
        m.t
        (λ j. not (is_fit_thread (with_entries m gs ss) j (thread_at ts j)))
        (λ j. not (is_fit_thread m j (thread_at ts j)))
        (λ j h. rw (is_fit_wait-same (awaited_by (thread_at ts j).state)) (ap not (go j h (dec_lt (thread_at ts j).segment m.n)))))
      where
        -- a segment not below N is refused before what it lacks is asked
        go : (j : ℕ) → j < m.t → Dec ((thread_at ts j).segment < m.n)
            → (ltb (thread_at ts j).segment m.n && ((is_fit_cycle record_time (cycle_of (thread_at ts j).state) && (is_fit_wait m (awaited_by (thread_at ts j).state) && is_fit_run m (thread_at ts j).state)) && not (lacks_from (with_entries m gs ss) j (thread_at ts j).segment)))
            ≡ (ltb (thread_at ts j).segment m.n && ((is_fit_cycle record_time (cycle_of (thread_at ts j).state) && (is_fit_wait m (awaited_by (thread_at ts j).state) && is_fit_run m (thread_at ts j).state)) && not (lacks_from m j (thread_at ts j).segment)))
        go j h (yes l) = rw (lacks_from-same m gs ss segments starts j (thread_at ts j).segment h l) refl
        go j h (no l) = rw (le-ltb (thread_at ts j).segment m.n (omega arith)) refl

    is_unfit-same : is_unfit o ws site ts ≡ is_unfit m ws site ts
    unfolding o is_unfit is_unfit_state is_unfit_log is_unfit_places is_fit_pair is_unfit_words
    is_unfit-same = rw (model_fault-same m gs ss segments starts, is_unfit_threads-same) (go (is_unfit_threads m ts) refl)
      where
        -- a record that is not fit is refused before anything is counted
        go : (b : Bool) → is_unfit_threads m ts ≡ b
            → ((not (eqb (model_fault m) accepted) || (b || (is_unfit_log m site || is_unfit_places (with_entries m gs ss) site ts))) || is_unfit_words m ws)
            ≡ ((not (eqb (model_fault m) accepted) || (b || (is_unfit_log m site || is_unfit_places m site ts))) || is_unfit_words m ws)
        go true e = refl
        go false e = rw (counted_same (λ j l. (is_fit_thread→ m j (thread_at ts j) ((is_unfit_threads→ m ts e).1 j l)).segment)) refl

    -- a request asks of a model its counts, and what stands below them
    pub request_of-entries : request_of (with_entries m gs ss) marks ws site ts k ≡ request_of m marks ws site ts k
    unfolding o request_of request_fit answered_by
    request_of-entries = rw is_unfit-same (whole (is_unfit m ws site ts) refl)
      where
        past : is_unfit m ws site ts ≡ false → Dec (k < m.t) → request_fit o marks ws site ts k ≡ request_fit m marks ws site ts k
        past e (yes l) =
            let below : (j : ℕ) → j < m.t → (thread_at ts j).segment < m.n = λ j b. (is_fit_thread→ m j (thread_at ts j) ((is_unfit_threads→ m ts (is_unfit→ m ws site ts e).threads).1 j b)).segment in
            let h = below k l in
            rw (number_same below l, granted-same (cycle_of (thread_at ts k).state) l h) refl
        past e (no l) = rw (number_in-past m marks ws site ts k l, number_in-past o marks ws site ts k l) refl

        whole : (b : Bool) → is_unfit m ws site ts ≡ b → cond b (refused_with unfit site ts) (request_fit o marks ws site ts k) ≡ cond b (refused_with unfit site ts) (request_fit m marks ws site ts k)
        whole true e = refl
        whole false e = past e (dec_lt k m.t)
