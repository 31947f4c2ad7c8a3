-- The exits of the test of 11, one law for each.
use Prim.Native.Nat.{ℕ, ◌<◌, ◌≤◌, ◌*◌, ◌/◌}
use mathlib.Core.Path.{◌≡◌, refl, ap, sym, subst, ◌∙◌}
use mathlib.Core.Bool.{Bool, true, false, not, ◌&&◌, ◌||◌, and-true, and-false, or-true, or_assoc}
use mathlib.Core.List.{List}
use native.Mathlib.Omega.{arith}
use native.Mathlib.Decide.{ℕ_discrete, dec_lt}
use lib.Dec.{ltb, leb, eqb}
use lib.ListN.{length, get_or, take, length-take}
use lib.Seq.{get_or-take}
use borrow.Author.Tests.{lt-ltb, le-ltb, le-leb, lt-leb, eq-eqb, ne_eqb}
use Rattle.std.specs.Prelude.{Ok, Err, is_err}
use Rattle.std.specs.declared.result.Result.{Result}
use Rattle.std.specs.Bool.{MatchBool}
use Rattle.std.specs.List.{zip, AllWithin, HoldsAt}
use Rattle.std.proofs.lemmas.Slice.Zip.{length-zip, get_or-zip}
use Rattle.refusal.specs.declared.Refusal.{Refusal}
use Rattle.refusal.specs.Number.{number_told}
use Rattle.refusal.proofs.NumberLaws.{number_of-not_0}
use Rattle.masks.specs.Mask.{bit_at}
use Rattle.base.specs.Index.{any_below}
use Rattle.base.proofs.BoolLaws.{T→false, false→T, true→T, not-or→both}
use Rattle.base.proofs.IndexLaws.{any_below-here, any_below-same}
use Rattle.model.specs.declared.Model.{Model}
use Rattle.model.specs.declared.State.{State}
use Rattle.model.specs.declared.Thread.{Thread}
use Rattle.model.specs.Limits.{cut_time, record_time}
use Rattle.model.specs.Record.{no_thread, thread_at, cycle_of, is_running, awaited_by}
use Rattle.model.specs.Reach.{lacks_from}
use Rattle.model.specs.Rules.{model_fault}
use Rattle.model_reach.specs.Lacks.{HoldsLacks}
use Rattle.plain_laws.proofs.RecordLaws.{thread_at-at}
use Rattle.tables.specs.Word.{all_ones}
use Rattle.early.specs.declared.Site.{Site}
use Rattle.early.specs.Log.{places, log_of}
use Rattle.early.specs.Fit.{is_fit_cycle, is_fit_wait, is_fit_run, is_fit_thread, is_fit_pair, is_fit_word, is_unfit_threads, is_unfit_log, is_unfit_places, is_unfit_words, is_unfit_state}
use Rattle.early_laws.proofs.FitLaws.{place_of, is_fit_thread→, is_unfit_threads→, →is_unfit_threads, →is_unfit_places}
use Rattle.early_log.proofs.RunningLaws.{counted_none}

-- what is asked of a state
abbrev pub is_fit_state : Model → State → Bool
is_fit_state m s = is_fit_cycle record_time (cycle_of s) && (is_fit_wait m (awaited_by s) && is_fit_run m s)

module _ (m : Model) (k : ℕ) (t : Thread) where
  pub is_fit_thread-below : (r : Bool) → t.segment < m.n → lacks_from m k t.segment ≡ false → r ≡ is_fit_state m t.state → r ≡ is_fit_thread m k t
  unfolding is_fit_thread
  is_fit_thread-below r h none e = rw (lt-ltb t.segment m.n h, none) (e ∙ sym (and-true (is_fit_state m t.state)))

  pub is_fit_thread-lacks : lacks_from m k t.segment ≡ true → false ≡ is_fit_thread m k t
  unfolding is_fit_thread
  is_fit_thread-lacks some = rw (some, and-false (is_fit_state m t.state)) (sym (and-false (ltb t.segment m.n)))

  pub is_fit_thread-above : m.n ≤ t.segment → false ≡ is_fit_thread m k t
  unfolding is_fit_thread
  is_fit_thread-above h = rw (le-ltb t.segment m.n h) refl

-- something unfit below a count
unfit-here : (m : Model) (ts : List Thread) (i : ℕ) → i < m.t → is_fit_thread m i (thread_at ts i) ≡ false → true ≡ is_unfit_threads m ts
unfolding is_unfit_threads
unfit-here m ts i h e = rw (any_below-here m.t (λ k. not (is_fit_thread m k (thread_at ts k))) i h (ap not e)) (sym (or-true (ltb (length ts) m.t)))

-- a word that the code lets through: below the cut, or all ones
unfit-word : (w : ℕ) → (leb (1024 * cut_time) w && not (eqb w all_ones)) ≡ not (is_fit_word w)
unfolding is_fit_word
unfit-word w = go (ℕ_discrete w all_ones) (dec_lt w (1024 * cut_time))
  where
    go : Dec (w ≡ all_ones) → Dec (w < 1024 * cut_time) → (leb (1024 * cut_time) w && not (eqb w all_ones)) ≡ not (eqb w all_ones || ltb (w / 1024) cut_time)
    go (yes e) h = rw (eq-eqb w all_ones e) (and-false (leb (1024 * cut_time) w))
    go (no e) (yes h) = rw (ne_eqb w all_ones e, lt-leb (1024 * cut_time) w h, lt-ltb (w / 1024) cut_time (omega arith)) refl
    go (no e) (no h) = rw (ne_eqb w all_ones e, le-leb (1024 * cut_time) w (omega arith), le-ltb (w / 1024) cut_time (omega arith)) refl

-- a record and the word of its thread are fit, or not: whatever the thread, if the word has the segments from which it lacks a port
abbrev pub Judged : Model → Bool → Thread × ℕ → Type 0
Judged m b (x, w) = (k : ℕ) → ((s : ℕ) → s < m.n → bit_at w s ≡ lacks_from m k s) → is_fit_thread m k x ≡ b

module _ (m : Model) (ts : List Thread) (ws : List ℕ) (size : length ts ≡ 32) (few : m.t ≤ 32) (room : m.n ≤ 64) (lacks : HoldsLacks m ws) where
  abbrev pairs : List (Thread × ℕ)
  pairs = zip (take m.t ts) ws

  count : length pairs ≡ m.t
  count = length-zip (take m.t ts) ws ∙ omega (arith, length-take m.t ts, lacks.places)

  judged : (b : Bool) (i : ℕ) → i < m.t → Judged m b (get_or pairs i (no_thread, 0)) → is_fit_thread m i (thread_at ts i) ≡ b
  judged b i h j =
      let front : i < length (take m.t ts) = omega (arith, length-take m.t ts) in
      let here = get_or-zip (take m.t ts) ws i (no_thread, 0) front (omega (arith, lacks.places)) in
      let x : get_or (take m.t ts) i no_thread ≡ thread_at ts i = get_or-take m.t ts i no_thread h ∙ sym (thread_at-at ts i) in
      let fit : Judged m b (get_or (take m.t ts) i no_thread, get_or ws i 0) = subst (Judged m b) here j in
      ap (is_fit_thread m i) (sym x) ∙ fit i (λ s l. lacks.bits room i s (omega arith) l)

  pub unfit-threads : (r : Bool) → MatchBool r ((i : ℕ) × (i < length pairs) × HoldsAt (Judged m false) pairs i) (AllWithin (Judged m true) pairs 0 (length pairs)) → r ≡ is_unfit_threads m ts
  unfit-threads true (i, h, j) = unfit-here m ts i (omega (arith, count)) (judged false i (omega (arith, count)) (j (no_thread, 0)))
  unfit-threads false all = sym (→is_unfit_threads m ts (omega arith) (λ i h. true→T _ (judged true i h (all i (no_thread, 0) (omega arith) (omega (arith, count))))))

module _ (m : Model) (site : Site) where
  pub is_unfit_log-above : places < site.count → ltb places site.count ≡ is_unfit_log m site
  unfolding is_unfit_log
  is_unfit_log-above h = rw (lt-ltb places site.count h) refl

  pub is_unfit_log-below : site.count ≤ places → any_below site.count (λ i. not (is_fit_pair m (place_of site i))) ≡ is_unfit_log m site
  unfolding is_unfit_log
  is_unfit_log-below h = rw (le-ltb places site.count h) refl

module _ (m : Model) (ws : List ℕ) where
  pub is_unfit_words-short : length ws < m.n * m.n → ltb (length ws) (m.n * m.n) ≡ is_unfit_words m ws
  unfolding is_unfit_words
  is_unfit_words-short h = rw (lt-ltb (length ws) (m.n * m.n) h) refl

  pub is_unfit_words-all : m.n * m.n ≤ length ws → any_below (m.n * m.n) (λ i. leb (1024 * cut_time) (get_or ws i 0) && not (eqb (get_or ws i 0) all_ones)) ≡ is_unfit_words m ws
  unfolding is_unfit_words
  is_unfit_words-all h = rw (le-ltb (length ws) (m.n * m.n) h) (any_below-same (m.n * m.n) _ _ (λ i k. unfit-word (get_or ws i 0)))

-- a refusal has a number that is not 0
pub told-err : {A : Type 0} (r : Result A Refusal) → is_err r ≡ true → number_told r ≡ 0 → ⊥
told-err (Ok a) e z = cc
told-err (Err f) e z = number_of-not_0 f z

pub told-ok : {A : Type 0} (r : Result A Refusal) → is_err r ≡ false → number_told r ≡ 0
told-ok (Ok a) e = refl
told-ok (Err f) e = cc

-- the tests of 11, one after the other
module _ (m : Model) (site : Site) (ts : List Thread) where
  pub is_unfit_state-model : (model_fault m ≡ 0 → ⊥) → true ≡ is_unfit_state m site ts
  unfolding is_unfit_state
  is_unfit_state-model broken = rw (ne_eqb (model_fault m) 0 broken) refl

  pub is_unfit_state-parts : model_fault m ≡ 0 → (is_unfit_threads m ts || is_unfit_log m site) ≡ true → true ≡ is_unfit_state m site ts
  unfolding is_unfit_state
  is_unfit_state-parts kept e = rw (eq-eqb (model_fault m) 0 kept, ← or_assoc (is_unfit_threads m ts) (is_unfit_log m site) (is_unfit_places m site ts), e) refl

  pub is_unfit_state-places : (r : Bool) → model_fault m ≡ 0 → (is_unfit_threads m ts || is_unfit_log m site) ≡ false → r ≡ is_unfit_places m site ts → r ≡ is_unfit_state m site ts
  unfolding is_unfit_state
  is_unfit_state-places r kept e f = rw (eq-eqb (model_fault m) 0 kept, ← or_assoc (is_unfit_threads m ts) (is_unfit_log m site) (is_unfit_places m site ts), e) f

  -- every thread is in one of the segments
  pub parts-segments : (is_unfit_threads m ts || is_unfit_log m site) ≡ false → (k : ℕ) → k < m.t → (thread_at ts k).segment < m.n
  parts-segments e k h =
      let (p, q) = not-or→both (is_unfit_threads m ts) (is_unfit_log m site) (false→T (is_unfit_threads m ts || is_unfit_log m site) e) in
      (is_fit_thread→ m k (thread_at ts k) ((is_unfit_threads→ m ts (T→false (is_unfit_threads m ts) p)).1 k h)).segment

  -- the log alone has its places
  pub is_unfit_places-none : length (log_of site) ≤ places → any_below m.t (λ k. is_running (thread_at ts k).state) ≡ false → false ≡ is_unfit_places m site ts
  is_unfit_places-none few idle = sym (→is_unfit_places m site ts (rw (← counted_none m ts site idle) few))
