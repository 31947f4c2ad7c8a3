-- Number 11: a state that is not refused with it is fit, each part by name; and a state whose parts are fit is not refused.
-- For states that a grant leaves, the log's part is read off its pairs.
use Prim.Native.Nat.{ℕ, ◌<◌, ◌≤◌, ◌*◌, ◌/◌}
use mathlib.Core.Path.{◌≡◌, refl, sym, ◌∙◌, subst}
use mathlib.Core.Logic.{◌⊎◌, inl, inr}
use mathlib.Core.Bool.{Bool, true, false, not, ◌&&◌, ◌||◌}
use mathlib.Core.List.{List}
use native.Mathlib.Omega.{arith}
use lib.Dec.{T, ltb, leb, eqb, T_not, not_T, ltb→lt, lt→ltb, nltb→le, leb→le, le→leb, eqb→eq}
use lib.ListN.{length, get_or, length-take, get_or-append}
use lib.Seq.{get_or-take}
use borrow.Author.Tests.{le-ltb, eq-eqb}
use Rattle.base.specs.Index.{any_below}
use Rattle.base.proofs.BoolLaws.{T→true, true→T, T→false, false→T, not-not, and→both, both→and, or→either, either→or, not-or→both, eq→eqb}
use Rattle.base.proofs.IndexLaws.{any_below-none, any_below-some}
use Rattle.clock.specs.declared.Cycle.{Cycle}
use Rattle.clock.specs.Cycle.{cycle_at}
use Rattle.clock.specs.Wait.{last_delta}
use Rattle.model.specs.declared.Model.{Model}
use Rattle.model.specs.declared.Thread.{Thread}
use Rattle.model.specs.Refusal.{accepted}
use Rattle.model.specs.Limits.{cut_time, record_time, is_up_to_horizon}
use Rattle.model.specs.Record as view
use Rattle.model.specs.Record.{thread_at, cycle_of, is_running, awaited_by, view_of, View, awaited_of}
use Rattle.model.specs.Reach.{lacks_from}
use Rattle.model.specs.Rules.{model_fault}
use Rattle.tables.specs.Word.{all_ones}
use Rattle.early.specs.declared.Notification.{Notification}
use Rattle.early.specs.declared.Site.{Site}
use Rattle.early.specs.Log.{places, pair_of, log_of, site_of, counted_log}
use Rattle.early.specs.Fit.{is_fit_cycle, is_fit_wait, is_fit_thread, is_fit_pair, is_fit_word, is_fit_run, is_unfit_threads, is_unfit_log, is_unfit_places, is_unfit_words, is_unfit, is_unfit_state}
use Rattle.early_laws.proofs.LogLaws.{In}
use Rattle.early_laws.proofs.OnceLaws.{get_d-In, In-get_d}

pub record FitCycle (limit : ℕ) (c : Cycle) : Type 0 where
  pub time : c.time.0 < limit
  pub delta : c.delta.0 ≤ last_delta

pub is_fit_cycle→ : (limit : ℕ) (c : Cycle) → T (is_fit_cycle limit c) → FitCycle limit c
unfolding is_fit_cycle
is_fit_cycle→ limit c t =
    let (p, q) = and→both (ltb c.time.0 limit) (leb c.delta.0 last_delta) t in
    record { time = ltb→lt c.time.0 limit p; delta = leb→le c.delta.0 last_delta q }

pub →is_fit_cycle : (limit : ℕ) (c : Cycle) → FitCycle limit c → T (is_fit_cycle limit c)
unfolding is_fit_cycle
→is_fit_cycle limit c f =
    both→and
    (ltb c.time.0 limit)
    (leb c.delta.0 last_delta)
    (lt→ltb c.time.0 limit f.time)
    (le→leb c.delta.0 last_delta f.delta)

pub record FitThread (m : Model) (k : ℕ) (t : Thread) : Type 0 where
  pub segment : t.segment < m.n
  pub cycle : FitCycle record_time (cycle_of t.state)
  pub event : (e : ℕ) (since : Cycle) → view_of t.state ≡ view.waits e since → e < m.e
  pub soon : is_running t.state ≡ true → is_up_to_horizon m (cycle_of t.state) ≡ true
  pub lacks : lacks_from m k t.segment ≡ false

pub is_fit_thread→ : (m : Model) (k : ℕ) (t : Thread) → T (is_fit_thread m k t) → FitThread m k t
unfolding is_fit_thread is_fit_wait is_fit_run
is_fit_thread→ m k t u =
    let lacked = lacks_from m k t.segment in
    let waits = is_fit_wait m (awaited_by t.state) in
    let runs = is_fit_run m t.state in
    let timely = is_fit_cycle record_time (cycle_of t.state) in
    let (p, q) = and→both (ltb t.segment m.n) ((timely && (waits && runs)) && not lacked) u in
    let (x, n) = and→both (timely && (waits && runs)) (not lacked) q in
    let (r, y) = and→both timely (waits && runs) x in
    let (s, z) = and→both waits runs y in
    record {
      segment = ltb→lt t.segment m.n p;
      cycle = is_fit_cycle→ record_time (cycle_of t.state) r;
      event = λ e since w. ltb→lt e m.e (subst (λ (v : View). T (is_fit_wait m (awaited_of v))) w s);
      soon = λ e. T→true (is_up_to_horizon m (cycle_of t.state)) (subst (λ (b : Bool). T (not b || is_up_to_horizon m (cycle_of t.state))) e z);
      lacks = T→false lacked n;
    }

pub →is_fit_thread : (m : Model) (k : ℕ) (t : Thread) → FitThread m k t → T (is_fit_thread m k t)
unfolding is_fit_thread is_fit_wait is_fit_run
→is_fit_thread m k t f =
    let lacked = lacks_from m k t.segment in
    let waits = is_fit_wait m (awaited_by t.state) in
    let runs = is_fit_run m t.state in
    let timely = is_fit_cycle record_time (cycle_of t.state) in
    both→and
    (ltb t.segment m.n)
    ((timely && (waits && runs)) && not lacked)
    (lt→ltb t.segment m.n f.segment)
    (both→and
    (timely && (waits && runs))
    (not lacked)
    (both→and
    timely
    (waits && runs)
    (→is_fit_cycle record_time (cycle_of t.state) f.cycle)
    (both→and waits runs (wait (view_of t.state) f.event) (run (is_running t.state) f.soon)))
    (false→T lacked f.lacks))
  where
    run : (b : Bool) → (b ≡ true → is_up_to_horizon m (cycle_of t.state) ≡ true) → T (not b || is_up_to_horizon m (cycle_of t.state))
    run false h = tt
    run true h = true→T (is_up_to_horizon m (cycle_of t.state)) (h refl)

    wait : (v : View) → ((e : ℕ) (since : Cycle) → v ≡ view.waits e since → e < m.e) → T (is_fit_wait m (awaited_of v))
    wait view.idle h = tt
    wait (view.ready c) h = tt
    wait (view.waits e c) h = lt→ltb e m.e (h e c refl)

pub record FitPair (m : Model) (x : Notification) : Type 0 where
  pub event : x.event < m.e
  pub cycle : FitCycle cut_time x.cycle

pub is_fit_pair→ : (m : Model) (x : Notification) → T (is_fit_pair m x) → FitPair m x
unfolding is_fit_pair
is_fit_pair→ m x t =
    let (p, q) = and→both (ltb x.event m.e) (is_fit_cycle cut_time x.cycle) t in
    record { event = ltb→lt x.event m.e p; cycle = is_fit_cycle→ cut_time x.cycle q }

pub →is_fit_pair : (m : Model) (x : Notification) → FitPair m x → T (is_fit_pair m x)
unfolding is_fit_pair
→is_fit_pair m x f =
    both→and
    (ltb x.event m.e)
    (is_fit_cycle cut_time x.cycle)
    (lt→ltb x.event m.e f.event)
    (→is_fit_cycle cut_time x.cycle f.cycle)

-- "a distance word, all ones apart," with a time above 1,000,000,000 is none of these
abbrev pub FitWord : ℕ → Type 0
FitWord w = (w ≡ all_ones) ⊎ (w / 1024 < cut_time)

pub is_fit_word→ : (w : ℕ) → T (is_fit_word w) → FitWord w
unfolding is_fit_word
is_fit_word→ w t = go (or→either (eqb w all_ones) (ltb (w / 1024) cut_time) t)
  where
    go : T (eqb w all_ones) ⊎ T (ltb (w / 1024) cut_time) → FitWord w
    go (inl s) = inl (eqb→eq w all_ones s)
    go (inr s) = inr (ltb→lt (w / 1024) cut_time s)

pub →is_fit_word : (w : ℕ) → FitWord w → T (is_fit_word w)
unfolding is_fit_word
→is_fit_word w (inl e) = either→or (eqb w all_ones) (ltb (w / 1024) cut_time) (inl (eq→eqb w all_ones e))
→is_fit_word w (inr h) = either→or (eqb w all_ones) (ltb (w / 1024) cut_time) (inr (lt→ltb (w / 1024) cut_time h))

-- a count that is not too large, and below it nothing unfit
module _ (a b n : ℕ) (f : ℕ → Bool) where
  within→ : (ltb a b || any_below n (λ i. not (f i))) ≡ false → (b ≤ a) × ((i : ℕ) → i < n → T (f i))
  within→ e =
      let (p, q) = not-or→both (ltb a b) (any_below n (λ i. not (f i))) (false→T (ltb a b || any_below n (λ i. not (f i))) e) in
      (nltb→le a b p, λ i h. not-not (f i) (any_below-none n (λ i. not (f i)) q i h))

  →within : b ≤ a → ((i : ℕ) → i < n → T (f i)) → (ltb a b || any_below n (λ i. not (f i))) ≡ false
  →within h all = rw (le-ltb a b h) (T→false (any_below n (λ i. not (f i))) (not_T (any_below n (λ i. not (f i))) none))
    where
      none : T (any_below n (λ i. not (f i))) → ⊥
      none t = let (i, k, u) = any_below-some n (λ i. not (f i)) t in T_not (f i) u (all i k)

-- the parts

pub is_unfit_threads→ : (m : Model) (ts : List Thread) → is_unfit_threads m ts ≡ false → (m.t ≤ length ts) × ((k : ℕ) → k < m.t → T (is_fit_thread m k (thread_at ts k)))
unfolding is_unfit_threads
is_unfit_threads→ m ts e = within→ (length ts) m.t m.t (λ k. is_fit_thread m k (thread_at ts k)) e

pub →is_unfit_threads : (m : Model) (ts : List Thread) → m.t ≤ length ts → ((k : ℕ) → k < m.t → T (is_fit_thread m k (thread_at ts k))) → is_unfit_threads m ts ≡ false
unfolding is_unfit_threads
→is_unfit_threads m ts h all = →within (length ts) m.t m.t (λ k. is_fit_thread m k (thread_at ts k)) h all

-- place i of a log
abbrev pub place_of : Site → ℕ → Notification
place_of site i = get_or site.log i (pair_of 0 (cycle_at 0 0))

pub is_unfit_log→ : (m : Model) (site : Site) → is_unfit_log m site ≡ false → (site.count ≤ places) × ((i : ℕ) → i < site.count → T (is_fit_pair m (place_of site i)))
unfolding is_unfit_log
is_unfit_log→ m site e = within→ places site.count site.count (λ i. is_fit_pair m (place_of site i)) e

pub →is_unfit_log : (m : Model) (site : Site) → site.count ≤ places → ((i : ℕ) → i < site.count → T (is_fit_pair m (place_of site i))) → is_unfit_log m site ≡ false
unfolding is_unfit_log
→is_unfit_log m site h all = →within places site.count site.count (λ i. is_fit_pair m (place_of site i)) h all

pub is_unfit_words→ : (m : Model) (ws : List ℕ) → is_unfit_words m ws ≡ false → (m.n * m.n ≤ length ws) × ((i : ℕ) → i < m.n * m.n → T (is_fit_word (get_or ws i 0)))
unfolding is_unfit_words
is_unfit_words→ m ws e = within→ (length ws) (m.n * m.n) (m.n * m.n) (λ i. is_fit_word (get_or ws i 0)) e

pub →is_unfit_words : (m : Model) (ws : List ℕ) → m.n * m.n ≤ length ws → ((i : ℕ) → i < m.n * m.n → T (is_fit_word (get_or ws i 0))) → is_unfit_words m ws ≡ false
unfolding is_unfit_words
→is_unfit_words m ws h all = →within (length ws) (m.n * m.n) (m.n * m.n) (λ i. is_fit_word (get_or ws i 0)) h all

pub is_unfit_places→ : (m : Model) (site : Site) (ts : List Thread) → is_unfit_places m site ts ≡ false → length (counted_log m ts (log_of site)) ≤ places
unfolding is_unfit_places
is_unfit_places→ m site ts e = nltb→le places (length (counted_log m ts (log_of site))) (false→T (is_unfit_places m site ts) e)

pub →is_unfit_places : (m : Model) (site : Site) (ts : List Thread) → length (counted_log m ts (log_of site)) ≤ places → is_unfit_places m site ts ≡ false
unfolding is_unfit_places
→is_unfit_places m site ts h = le-ltb places (length (counted_log m ts (log_of site))) h

-- the whole

pub record Fit (m : Model) (ws : List ℕ) (site : Site) (ts : List Thread) : Type 0 where
  pub model : model_fault m ≡ accepted
  pub threads : is_unfit_threads m ts ≡ false
  pub log : is_unfit_log m site ≡ false
  pub counted : is_unfit_places m site ts ≡ false
  pub words : is_unfit_words m ws ≡ false

-- without the words
pub state-fit : (m : Model) (site : Site) (ts : List Thread) → is_unfit_state m site ts ≡ false
    → (model_fault m ≡ accepted) × (is_unfit_threads m ts ≡ false) × (is_unfit_log m site ≡ false) × (is_unfit_places m site ts ≡ false)
unfolding is_unfit_state
state-fit m site ts e =
    let broken = not (eqb (model_fault m) accepted) in
    let (a, q) = not-or→both broken (is_unfit_threads m ts || (is_unfit_log m site || is_unfit_places m site ts)) (false→T (is_unfit_state m site ts) e) in
    let (b, r) = not-or→both (is_unfit_threads m ts) (is_unfit_log m site || is_unfit_places m site ts) q in
    let (c, d) = not-or→both (is_unfit_log m site) (is_unfit_places m site ts) r in (
      eqb→eq (model_fault m) accepted (not-not (eqb (model_fault m) accepted) a),
      T→false (is_unfit_threads m ts) b,
      T→false (is_unfit_log m site) c,
      T→false (is_unfit_places m site ts) d,
    )

pub is_unfit→ : (m : Model) (ws : List ℕ) (site : Site) (ts : List Thread) → is_unfit m ws site ts ≡ false → Fit m ws site ts
unfolding is_unfit
is_unfit→ m ws site ts e =
    let (p, d) = not-or→both (is_unfit_state m site ts) (is_unfit_words m ws) (false→T (is_unfit m ws site ts) e) in
    let (a, b, c, f) = state-fit m site ts (T→false (is_unfit_state m site ts) p) in
    record { model = a; threads = b; log = c; counted = f; words = T→false (is_unfit_words m ws) d }

pub →is_unfit : (m : Model) (ws : List ℕ) (site : Site) (ts : List Thread) → Fit m ws site ts → is_unfit m ws site ts ≡ false
unfolding is_unfit is_unfit_state
→is_unfit m ws site ts f = rw (eq-eqb (model_fault m) accepted f.model, f.threads, f.log, f.counted, f.words) refl

-- what is logged is fit

pub fit-logged : (m : Model) (site : Site) (x : Notification) → is_unfit_log m site ≡ false → In x (log_of site) → FitPair m x
unfolding log_of
fit-logged m site x e h =
    let (i, k, p) = In-get_d (pair_of 0 (cycle_at 0 0)) h in
    let below : i < site.count = omega (arith, length-take site.count site.log) in
    is_fit_pair→
    m
    x
    (subst
    (λ (y : Notification). T (is_fit_pair m y))
    (sym (get_or-take site.count site.log i (pair_of 0 (cycle_at 0 0)) below) ∙ p)
    ((is_unfit_log→ m site e).1 i below))

-- and a state that holds fit pairs has a fit log
pub site_of-fit : (m : Model) (v : List ℕ) (l : List Notification) → length l ≤ places → ((x : Notification) → In x l → FitPair m x) → is_unfit_log m (site_of v l) ≡ false
unfolding site_of
site_of-fit m v l h all =
    →is_unfit_log
    m
    (site_of v l)
    h
    (λ i k.
    let d = pair_of 0 (cycle_at 0 0) in
    subst
    (λ (y : Notification). T (is_fit_pair m y))
    (sym (get_or-append l _ d i k))
    (→is_fit_pair m (get_or l i d) (all (get_or l i d) (get_d-In l i d k))))
