-- A request does the same on lists of records that agree on the first T and words that agree on the first N × N, and leaves every record from T
-- on: "records past those are neither read nor written". Where fewer than T are lent, and for a model against the file rules, it is refused with 11.
--     looked_at-agree, settled-agree, closed_threads-agree, threads_after-agree, site_after-same, items_after-same     what stays the same
--     closed_threads-past, threads_after-past     what is left as it was
--     request_of-unread     a request: the same answer, state and history, and records that agree again
--     request_of-unwritten     it leaves the records past the threads
--     request_of-length, request_of-short, request_of-faulty
use Prim.Native.Nat.{ℕ, ◌+◌, ◌*◌, ◌<◌, ◌≤◌, min}
use mathlib.Core.Path.{◌≡◌, refl, ap, ap₂, sym, ◌∙◌}
use mathlib.Core.Bool.{Bool, true, false, cond, not, ◌||◌}
use mathlib.Core.List.{List, ◌++◌}
use native.Mathlib.Omega.{arith}
use native.Mathlib.Decide.{dec_lt, ℕ_discrete}
use lib.Dec.{ltb, eqb}
use lib.ListN.{length, get_or, set, take, length-set, length-take}
use lib.Seq.{get_or-take}
use borrow.Author.Tests.{lt-ltb, le-ltb, eq-eqb, ne_eqb}
use Rattle.base.proofs.IndexLaws.{any_below-same}
use Rattle.clock.specs.declared.Cycle.{Cycle}
use Rattle.model.specs.declared.Model.{Model}
use Rattle.model.specs.declared.Thread.{Thread}
use Rattle.model.specs.Refusal.{accepted, unfit}
use Rattle.model.specs.Limits.{end_time}
use Rattle.model.specs.Record.{thread_at, ready_cycle, cycle_of, is_running, awaited_by}
use Rattle.model.specs.Footprint.{listed_in}
use Rattle.model.specs.Rules.{model_fault}
use Rattle.tables.specs.Word.{bound_of, distance_in}
use Rattle.tables_laws.proofs.WordLaws.{place-below}
use Rattle.plain.specs.Wake.{floor_of}
use Rattle.plain.specs.History.{Item}
use Rattle.plain_laws.proofs.RecordLaws.{thread_at-set, thread_at-other}
use Rattle.plain_laws.proofs.KeepLaws.{model_fault-keeps}
use Rattle.early.specs.declared.Notification.{Notification}
use Rattle.early.specs.declared.Site.{Site}
use Rattle.early.specs.declared.Answer.TheVariants.{Granted}
use Rattle.early.specs.Log.{log_of, counted_log}
use Rattle.early.specs.Hazard.{hazard}
use Rattle.early.specs.Deliver.{forecast_sooner, looked_by, look_items_by, after_hearing, heard_now, looked_at, look_items, settled, settled_items}
use Rattle.early.specs.Fit.{is_fit_word, is_unfit_threads, is_unfit_log, is_unfit_places, is_unfit_words, is_unfit_state, is_unfit}
use Rattle.early.specs.Grant.{effect_at, log_after, closed_threads, threads_after, site_after, items_after}
use Rattle.early.specs.Request.{number_in, Requested, refused_with, granted_to, answered_by, request_fit, request_of}
use Rattle.early_laws.proofs.LookLaws.{looked_at-segment}
use Rattle.early_laws.proofs.SettleLaws.{settled_by-both, settled-past}
use Rattle.early_laws.proofs.CountedLaws.{with_running-same}
use Rattle.early_laws.proofs.FitLaws.{is_fit_thread→, is_unfit_threads→, is_unfit→}
use Rattle.early_laws.proofs.GrantLaws.{closed_threads-self, closed_threads-other, threads_after-length}
use Rattle.early_laws.proofs.NumberLaws.{number_for→passed, number_for-same}
use Rattle.early_laws.proofs.RequestLaws as asked
use Rattle.early_laws.proofs.AgreeLaws.{Agree, SameFrom, is_unfit_threads-same, floor_of-same, heard_now-same, hazard-same, effect_at-same, log_after-same}

-- the same record set in both
set-agree : (m : Model) (ts us : List Thread) (k : ℕ) (t u : Thread) → t ≡ u → Agree m ts us → Agree m (set ts k t) (set us k u)
set-agree m ts us k t u e agree =
    record {
      left = rw (length-set ts k t) agree.left;
      right = rw (length-set us k u) agree.right;
      same = λ j h. go j h (ℕ_discrete j k);
    }
  where
    go : (j : ℕ) → j < m.t → Dec (j ≡ k) → thread_at (set ts k t) j ≡ thread_at (set us k u) j
    go j h (yes same) = rw same (thread_at-set ts k t (omega (arith, agree.left)) ∙ e ∙ sym (thread_at-set us k u (omega (arith, agree.right))))
    go j h (no other) = thread_at-other ts k j t other ∙ agree.same j h ∙ sym (thread_at-other us k j u other)

module _ (m : Model) (ws ys : List ℕ) (l : List Notification) where
  pub looked_at-agree : (ts us : List Thread) (k : ℕ) → k < m.t → SameFrom m ws ys us → Agree m ts us → Agree m (looked_at m ws l ts k) (looked_at m ys l us k)
  unfolding looked_by
  looked_at-agree ts us k h from agree =
      set-agree
      m
      ts
      us
      k
      (record { segment = (thread_at ts k).segment; state = after_hearing (heard_now m ws l ts (awaited_by (thread_at ts k).state)) (thread_at ts k).state })
      (record { segment = (thread_at us k).segment; state = after_hearing (heard_now m ys l us (awaited_by (thread_at us k).state)) (thread_at us k).state })
      (rw (agree.same k h, heard_now-same m ts us agree ws ys from l (awaited_by (thread_at us k).state)) refl)
      agree

  look_items-same : (ts us : List Thread) (k j : ℕ) → k < m.t → SameFrom m ws ys us → Agree m ts us → look_items m ws l ts k j ≡ look_items m ys l us k j
  unfolding look_items_by
  look_items-same ts us k j h from agree = rw (agree.same k h, heard_now-same m ts us agree ws ys from l (awaited_by (thread_at us k).state)) refl

  -- a look at both keeps this, with what was heard so far
  record InStep (ts us : List Thread) (is js : ℕ → List Item) : Type 0 where
    from : SameFrom m ws ys us
    agree : Agree m ts us
    heard : (j : ℕ) → is j ≡ js j

  looked-in-step : (ts us : List Thread) (is js : ℕ → List Item) (k : ℕ) → k < m.t → InStep ts us is js
      → InStep (looked_at m ws l ts k) (looked_at m ys l us k) (λ j. is j ++ look_items m ws l ts k j) (λ j. js j ++ look_items m ys l us k j)
  looked-in-step ts us is js k h p =
      record {
        from = λ j s i n. rw (looked_at-segment m ys l us k j) (p.from j s i n);
        agree = looked_at-agree ts us k h p.from p.agree;
        heard = λ j. ap₂ ◌++◌ (p.heard j) (look_items-same ts us k j h p.from p.agree);
      }

  settled-in-step : (ts us : List Thread) → SameFrom m ws ys us → Agree m ts us
      → InStep (settled m ws l ts) (settled m ys l us) (settled_items m ws l ts) (settled_items m ys l us)
  settled-in-step ts us from agree =
      settled_by-both (forecast_sooner m ws l) (forecast_sooner m ys l) l m.t InStep looked-in-step ts us (record { from = from; agree = agree; heard = λ j. refl })

  pub settled-agree : (ts us : List Thread) → SameFrom m ws ys us → Agree m ts us → Agree m (settled m ws l ts) (settled m ys l us)
  settled-agree ts us from agree = (settled-in-step ts us from agree).agree

  pub settled_items-same : (ts us : List Thread) → SameFrom m ws ys us → Agree m ts us → (j : ℕ) → settled_items m ws l ts j ≡ settled_items m ys l us j
  settled_items-same ts us from agree = (settled-in-step ts us from agree).heard

module _ (m : Model) (site : Site) (k : ℕ) (c : Cycle) (h : k < m.t) where
  pub closed_threads-agree : (ts us : List Thread) → Agree m ts us → Agree m (closed_threads m site ts k c) (closed_threads m site us k c)
  unfolding closed_threads
  closed_threads-agree ts us agree =
      set-agree m ts us k (effect_at m site ts k c).thread (effect_at m site us k c).thread (rw (effect_at-same m ts us agree site k c h) refl) agree

  pub closed_threads-past : (ts : List Thread) (j : ℕ) → m.t ≤ j → thread_at (closed_threads m site ts k c) j ≡ thread_at ts j
  closed_threads-past ts j past = closed_threads-other m site ts k c j (λ same. omega arith)

  pub threads_after-past : (ws : List ℕ) (ts : List Thread) (j : ℕ) → m.t ≤ j → thread_at (threads_after m ws site ts k c) j ≡ thread_at ts j
  unfolding threads_after
  threads_after-past ws ts j past = settled-past m ws (log_after m site ts k c) (closed_threads m site ts k c) j past ∙ closed_threads-past ts j past

  module _ (ws ys : List ℕ) (ts us : List Thread) (from : SameFrom m ws ys (closed_threads m site us k c)) (agree : Agree m ts us) where
    pub threads_after-agree : Agree m (threads_after m ws site ts k c) (threads_after m ys site us k c)
    unfolding threads_after
    threads_after-agree =
        rw (log_after-same m ts us agree site k c h)
        (settled-agree m ws ys (log_after m site us k c) (closed_threads m site ts k c) (closed_threads m site us k c) from (closed_threads-agree ts us agree))

    pub site_after-same : site_after m ws site ts k c ≡ site_after m ys site us k c
    unfolding site_after
    site_after-same =
        rw
        (effect_at-same m ts us agree site k c h, log_after-same m ts us agree site k c h, floor_of-same m (threads_after m ws site ts k c) (threads_after m ys site us k c) threads_after-agree)
        refl

    pub items_after-same : (j : ℕ) → items_after m ws site ts k c j ≡ items_after m ys site us k c j
    unfolding items_after
    items_after-same j =
        rw
        (agree.same k h, log_after-same m ts us agree site k c h, settled_items-same m ws ys (log_after m site us k c) (closed_threads m site ts k c) (closed_threads m site us k c) from (closed_threads-agree ts us agree) j)
        refl

-- what two requests leave, where the records agree
pub record AlikeAfter (m : Model) (a b : Requested) : Type 0 where
  pub answer : a.answer ≡ b.answer
  pub site : a.site ≡ b.site
  pub threads : Agree m a.threads b.threads
  pub items : (j : ℕ) → a.items j ≡ b.items j

-- the first N × N words alike: as many of those, and the same
module _ (m : Model) (ws ys : List ℕ) (words : take (m.n * m.n) ws ≡ take (m.n * m.n) ys) where
  word_same : (i : ℕ) → i < m.n * m.n → get_or ws i 0 ≡ get_or ys i 0
  word_same i h = sym (get_or-take (m.n * m.n) ws i 0 h) ∙ ap (λ (l : List ℕ). get_or l i 0) words ∙ get_or-take (m.n * m.n) ys i 0 h

  short-same : ltb (length ws) (m.n * m.n) ≡ ltb (length ys) (m.n * m.n)
  short-same = go (dec_lt (length ws) (m.n * m.n)) (dec_lt (length ys) (m.n * m.n))
    where
      few : min (m.n * m.n) (length ws) ≡ min (m.n * m.n) (length ys)
      few = sym (length-take (m.n * m.n) ws) ∙ ap length words ∙ length-take (m.n * m.n) ys

      go : Dec (length ws < m.n * m.n) → Dec (length ys < m.n * m.n) → ltb (length ws) (m.n * m.n) ≡ ltb (length ys) (m.n * m.n)
      go (yes p) (yes q) = rw (lt-ltb (length ws) (m.n * m.n) p, lt-ltb (length ys) (m.n * m.n) q) refl
      go (yes p) (no q) = absurd (omega (arith, few))
      go (no p) (yes q) = absurd (omega (arith, few))
      go (no p) (no q) = rw (le-ltb (length ws) (m.n * m.n) (omega arith), le-ltb (length ys) (m.n * m.n) (omega arith)) refl

  is_unfit_words-same : is_unfit_words m ws ≡ is_unfit_words m ys
  unfolding is_unfit_words
  is_unfit_words-same =
      rw short-same
      (ap
      (λ (b : Bool). ltb (length ys) (m.n * m.n) || b)
      (any_below-same
      (m.n * m.n)
      (λ i. not (is_fit_word (get_or ws i 0)))
      (λ i. not (is_fit_word (get_or ys i 0)))
      (λ i h. ap (λ (w : ℕ). not (is_fit_word w)) (word_same i h))))

  -- from threads that stand in segments of the model
  same_from : (ts : List Thread) → ((k : ℕ) → k < m.t → (thread_at ts k).segment < m.n) → SameFrom m ws ys ts
  unfolding distance_in
  same_from ts below k s h l = ap bound_of (word_same ((thread_at ts k).segment * m.n + s) (place-below m.n (thread_at ts k).segment s (below k h) l))

-- a segment of the model leads to another
closed-below : (m : Model) (site : Site) (ts : List Thread) (k : ℕ) (c : Cycle) → model_fault m ≡ accepted → m.t ≤ length ts
    → ((j : ℕ) → j < m.t → (thread_at ts j).segment < m.n) → (j : ℕ) → j < m.t → (thread_at (closed_threads m site ts k c) j).segment < m.n
unfolding effect_at
closed-below m site ts k c fit enough below j h = go (ℕ_discrete j k)
  where
    go : Dec (j ≡ k) → (thread_at (closed_threads m site ts k c) j).segment < m.n
    go (yes e) = rw (e, closed_threads-self m site ts k c (omega arith)) ((model_fault-keeps m fit).next k (thread_at ts k).segment c site.variables.at (below k (omega arith)))
    go (no other) = rw (closed_threads-other m site ts k c j other) (below j h)

-- the same is counted
pub counted_log-same : (m : Model) (ts us : List Thread) → Agree m ts us → (l : List Notification) → counted_log m ts l ≡ counted_log m us l
counted_log-same m ts us agree l = with_running-same m m ts us l m.t agree.same (λ j h. refl)

pub is_unfit_places-same : (m : Model) (ts us : List Thread) → Agree m ts us → (site : Site) → is_unfit_places m site ts ≡ is_unfit_places m site us
unfolding is_unfit_places
is_unfit_places-same m ts us agree site = rw (counted_log-same m ts us agree (log_of site)) refl

module _ (m : Model) (marks : List (List Bool)) (ws : List ℕ) (site : Site) (k : ℕ) where
  module _ (ys : List ℕ) (ts us : List Thread) (agree : Agree m ts us) where
    refused-alike : (n : ℕ) → AlikeAfter m (refused_with n site ts) (refused_with n site us)
    refused-alike n = record { answer = refl; site = refl; threads = agree; items = λ j. refl }

    -- the words say the same from where the threads stand, and from where they stand after this one has run
    module _ (from : SameFrom m ws ys us) (onward : (c : Cycle) → SameFrom m ws ys (closed_threads m site us k c)) where
      granted-alike : (c : Cycle) → k < m.t → AlikeAfter m (granted_to m ws site ts k c) (granted_to m ys site us k c)
      unfolding granted_to site_after threads_after log_after closed_threads
      granted-alike c h =
          record {
            answer = ap (λ (t : Thread). Granted t.segment c) (agree.same k h);
            site = site_after-same m site k c h ws ys ts us (onward c) agree;
            threads = threads_after-agree m site k c h ws ys ts us (onward c) agree;
            items = items_after-same m site k c h ws ys ts us (onward c) agree;
          }

      number_same : number_in m marks ws site ts k ≡ number_in m marks ys site us k
      unfolding number_in
      number_same =
          rw (counted_log-same m ts us agree (log_of site))
          (number_for-same m.t (end_time m) (hazard m marks ws (log_of site) ts k) (floor_of m ts) (listed_in m k (thread_at ts k).segment) (counted_log m us (log_of site)) ts k
          (hazard m marks ys (log_of site) us k) (floor_of m us) (listed_in m k (thread_at us k).segment) us
          (λ h.
          record {
            running = ap (λ (t : Thread). is_running t.state) (agree.same k h);
            ready = ap (λ (t : Thread). ready_cycle t.state) (agree.same k h);
            hazards = λ c _ _. hazard-same m ts us agree ws ys from (log_of site) marks k c h;
            floors = floor_of-same m ts us agree;
            listed = ap (λ (t : Thread). listed_in m k t.segment) (agree.same k h);
          }))

      fit-alike : AlikeAfter m (request_fit m marks ws site ts k) (request_fit m marks ys site us k)
      unfolding request_fit answered_by number_in
      fit-alike = rw number_same (go (ℕ_discrete n accepted))
        where
          n : ℕ
          n = number_in m marks ys site us k

          go : Dec (n ≡ accepted)
              → AlikeAfter m (answered_by n site ts (granted_to m ws site ts k (cycle_of (thread_at ts k).state))) (answered_by n site us (granted_to m ys site us k (cycle_of (thread_at us k).state)))
          go (no other) = rw (ne_eqb n accepted other) (refused-alike n)
          go (yes e) =
              let (c, p) = number_for→passed m.t (end_time m) (hazard m marks ys (log_of site) us k) (floor_of m us) (listed_in m k (thread_at us k).segment) (counted_log m us (log_of site)) us k e in
              rw (eq-eqb n accepted e, agree.same k p.thread) (granted-alike (cycle_of (thread_at us k).state) p.thread)

    -- "neither read": whatever stands past the threads' records and past N × N words, a request gives the same answer, state and history, and
    -- records that agree
    pub request_of-unread : take (m.n * m.n) ws ≡ take (m.n * m.n) ys → AlikeAfter m (request_of m marks ws site ts k) (request_of m marks ys site us k)
    unfolding request_of is_unfit is_unfit_state
    request_of-unread words =
        rw (is_unfit_threads-same m ts us agree, is_unfit_places-same m ts us agree site, is_unfit_words-same m ws ys words) (go (is_unfit m ys site us) refl)
      where
        go : (b : Bool) → is_unfit m ys site us ≡ b
            → AlikeAfter m (cond b (refused_with unfit site ts) (request_fit m marks ws site ts k)) (cond b (refused_with unfit site us) (request_fit m marks ys site us k))
        go true e = refused-alike unfit
        go false e =
            let fit = is_unfit→ m ys site us e in
            let below : (j : ℕ) → j < m.t → (thread_at us j).segment < m.n = λ j h. (is_fit_thread→ m j (thread_at us j) ((is_unfit_threads→ m us fit.threads).1 j h)).segment in
            fit-alike
            (same_from m ws ys words us below)
            (λ c. same_from m ws ys words (closed_threads m site us k c) (closed-below m site us k c fit.model agree.right below))

  module _ (ts : List Thread) where
    -- "nor written": records past the threads are as they were
    pub request_of-unwritten : (j : ℕ) → m.t ≤ j → thread_at (request_of m marks ws site ts k).threads j ≡ thread_at ts j
    unfolding granted_to threads_after log_after closed_threads
    request_of-unwritten j past = go (asked.request_of-asked m marks ws site ts k)
      where
        go : {r : Requested} → asked.Asked m marks ws site ts k r → thread_at r.threads j ≡ thread_at ts j
        go (asked.refused n h u) = refl
        go (asked.granted c g) = threads_after-past m site k c g.thread ws ts j past

    pub request_of-length : length (request_of m marks ws site ts k).threads ≡ length ts
    unfolding granted_to threads_after log_after closed_threads
    request_of-length = go (asked.request_of-asked m marks ws site ts k)
      where
        go : {r : Requested} → asked.Asked m marks ws site ts k r → length r.threads ≡ length ts
        go (asked.refused n h u) = refl
        go (asked.granted c g) = threads_after-length m site ts k c ws

    -- "records below T"
    pub request_of-short : length ts < m.t → request_of m marks ws site ts k ≡ refused_with unfit site ts
    unfolding request_of is_unfit is_unfit_state is_unfit_threads
    request_of-short h = go (not (eqb (model_fault m) accepted))
      where
        go : (b : Bool) → cond ((b || (is_unfit_threads m ts || (is_unfit_log m site || is_unfit_places m site ts))) || is_unfit_words m ws) (refused_with unfit site ts) (request_fit m marks ws site ts k) ≡ refused_with unfit site ts
        go true = refl
        go false = rw (lt-ltb (length ts) m.t h) refl

    -- a model against the file rules
    pub request_of-faulty : (model_fault m ≡ accepted → ⊥) → request_of m marks ws site ts k ≡ refused_with unfit site ts
    unfolding request_of is_unfit is_unfit_state
    request_of-faulty other = rw (ne_eqb (model_fault m) accepted other) refl
