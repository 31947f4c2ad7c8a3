-- On a fit state, the code's answer to a call is `call_fit`: the same is asked, with the same effect and the same deliveries.
--     hazard-is, number_is     the number
--     effect_is, granted-is, run_is, finish-is     what a segment does on values, and what it leaves
--     called_is     the whole call
--     room-fit, enough-both, enough-fit     the room that a call needs
--     neither, request-unfit, request-both, after-answers     11 first
use Prim.Native.Nat.{ℕ, ◌*◌, ◌<◌, ◌≤◌}
use mathlib.Core.Path.{◌≡◌, refl, ap, sym, ◌∙◌, subst}
use mathlib.Core.Bool.{Bool, true, false, cond, ◌||◌}
use mathlib.Core.List.{List, []}
use native.Mathlib.Omega.{arith}
use native.Mathlib.Decide.{dec_lt, ℕ_discrete}
use lib.Dec.{T, ltb, eqb, nltb→le}
use lib.ListN.{length, get_or, replicate}
use borrow.Author.Tests.{lt-ltb, le-ltb, eq-eqb, ne_eqb}
use Rattle.base.proofs.BoolLaws.{T→false, false→T, not-or→both}
use Rattle.base.proofs.ListLaws.{get_d_any}
use Rattle.clock.specs.declared.Cycle.{Cycle}
use Rattle.clock.specs.declared.Bound.TheVariants.{At}
use Rattle.model.specs.declared.Model.{Model}
use Rattle.model.specs.declared.Segment.{Segment}
use Rattle.model.specs.declared.Thread.{Thread}
use Rattle.model.specs.declared.Closer.TheVariants.{End}
use Rattle.model.specs.Values.{no_segment, segment_at, start_at, ports_at, segment_for, body_of}
use Rattle.model.specs.Statement.{notified_by}
use Rattle.model.specs.Limits.{end_time, is_up_to_horizon}
use Rattle.model.specs.Record.{thread_at, ready_cycle, cycle_of, is_running}
use Rattle.model.specs.Effect.{Effect, effect_in, effect_of, held_effect}
use Rattle.model.specs.Footprint.{has, writes_of, writes_in, listed_in}
use Rattle.model_effect.proofs.EffectLaws.{held_thread-small}
use Rattle.model_reach.proofs.ReachLaws.{lacks_from-self}
use Rattle.plain.specs.Wake.{floor_below, floor_of}
use Rattle.plain.specs.History.{Item}
use Rattle.plain_laws.proofs.RecordLaws.{running-cycle}
use Rattle.early.specs.declared.Site.{Site}
use Rattle.early.specs.declared.Call.{Call}
use Rattle.early.specs.declared.Call.TheVariants.{Both, Grant, Finish}
use Rattle.early.specs.declared.After.{After}
use Rattle.early.specs.Log.{places, log_of, counted_log}
use Rattle.early.specs.Deliver.{settled, settled_items}
use Rattle.early.specs.Hazard.{threads_conflict, hazard}
use Rattle.early.specs.Grant.{log_by, closed_by, effect_at, log_after, closed_threads}
use Rattle.early.specs.Request.{number_in, granted_by, granted_to, refused_with, answered_by, request_fit, request_of, Answers}
use Rattle.early.specs.Call.{held_count, held_at, is_unfit_held, stored_over, effect_held, finished_from, finish_number, Called, call_fit}
use Rattle.early.specs.Fit.{is_unfit}
use Rattle.early_ports.specs.Names.{names_for}
use Rattle.early_ports.specs.Cross.{ports_in, segment_with, conflicts_on}
use Rattle.early_ports.proofs.MapLaws.{segment_with-runs, segment_with-listed}
use Rattle.early_ports.proofs.CrossLaws.{conflicts_on-is}
use Rattle.early_laws.proofs.FitLaws.{is_fit_thread→, is_unfit_threads→, is_unfit_places→, is_unfit→}
use Rattle.early_laws.proofs.CountedLaws.{places_with-counted, running-counted}
use Rattle.early_laws.proofs.NumberLaws.{ready_cycle→cycle, number_for→passed, number_for-same}
use Rattle.early_laws.proofs.GrantLaws.{closed_threads-self}
use Rattle.early_laws.proofs.RequestLaws.{request_of-answers}
use Rattle.early_limits.specs.Ahead.{reach_of}
use Rattle.early_limits.proofs.StateLaws.{FitState, is_unfit→FitState, fit-counts, fit-threads, fit-segment, fit-lacks, ready-fit}
use Rattle.early_limits.proofs.AheadLaws.{hazard-limit}
use Rattle.early_limits.proofs.DeliverLaws.{granted-fit}
use Rattle.early_deliver.proofs.SettledLaws.{ahead_of-is, settled_by-is}
use Rattle.early_answer.specs.After.{after_of}
use Rattle.early_answer.specs.Answered.{thread_of, hazard_on, number_on, call_number_on, effect_from, grant_on, stored_in, effect_on, run_on, emptied_by, done_on, called_on, EnoughHeld, HasRoom}
use Rattle.early_answer.proofs.AnsweredLaws.{held_events-taken, finish_number→running}

-- what is run of a segment: its body and its closer
abbrev RunsAs : Segment → Segment → Type 0
RunsAs g h = (body_of g ≡ body_of h) × (g.closer ≡ h.closer)

effect_in-runs : (g h : Segment) (s : ℕ) (c : Cycle) (v : List ℕ) → RunsAs g h → effect_in g s c v ≡ effect_in h s c v
unfolding effect_in
effect_in-runs g h s c v (b, z) = rw (b, z) refl

stored_in-runs : (m : Model) (k s : ℕ) (g : Segment) (v w : List ℕ) → RunsAs g (segment_for m k s) → stored_in g v w ≡ stored_over m k s v w
unfolding stored_in stored_over writes_in writes_of
stored_in-runs m k s g v w (b, z) = rw b refl

-- a state with other variables
abbrev with_values : Site → List ℕ → Site
with_values site u = record { variables = record { at = u }; log = site.log; count = site.count }

module _ (m : Model) (ws : List ℕ) (site : Site) (ts : List Thread) (fit : FitState m ws (log_of site) ts) (k : ℕ) where
  -- what an effect leaves, with deliveries on limits
  granted-is : (c : Cycle) (x : Effect) (items : ℕ → List Item) → FitState m ws (log_by site c x) (closed_by ts k x)
      → after_of (grant_on (reach_of m ws) m.t site ts k c x) ≡ after_of (granted_by (floor_of m) (settled m ws) items site ts k c x)
  unfolding after_of grant_on
  granted-is c x items closed = rw (settled_by-is m ws (log_by site c x) (closed_by ts k x) closed) refl

  module _ (g : Segment) (same : RunsAs g (segment_for m k (thread_at ts k).segment)) (c : Cycle) (thread : k < m.t) (ready : ready_cycle (thread_at ts k).state ≡ At c)
      (before : is_up_to_horizon m c ≡ true) (u : List ℕ) where
    abbrev s : ℕ
    s = (thread_at ts k).segment

    -- the segment's effect on values u, whichever they are: the state that it leaves is fit
    closed-fit : FitState m ws (log_after m (with_values site u) ts k c) (closed_threads m (with_values site u) ts k c)
    unfolding log_of
    closed-fit = granted-fit m ws (with_values site u) ts fit k c thread ready before

    -- and the record fits its words
    effect_is : effect_from (held_effect (effect_in g s c u)) ≡ effect_of m k s c u
    unfolding held_effect effect_at effect_of
    effect_is =
        let x = effect_at m (with_values site u) ts k c in
        let fits = (is_fit_thread→ m k (thread_at (closed_threads m (with_values site u) ts k c) k) (fit-threads closed-fit k thread)).cycle.time in
        let here = closed_threads-self m (with_values site u) ts k c (omega (arith, (is_unfit_threads→ m ts fit.threads).0)) in
        let small = ap (λ (t : Thread). (cycle_of t.state).time.0) here in
        rw (effect_in-runs g (segment_for m k s) s c u same, held_events-taken x.notified, held_thread-small x.thread (omega arith)) refl

  module _ (g : Segment) (same : RunsAs g (segment_for m k (thread_at ts k).segment)) (held : List ℕ) where
    -- a request runs on the variables
    run_is : (c : Cycle) → k < m.t → ready_cycle (thread_at ts k).state ≡ At c → is_up_to_horizon m c ≡ true
        → after_of (run_on false (reach_of m ws) m.t g site ts held k) ≡ after_of (granted_to m ws site ts k (cycle_of (thread_at ts k).state))
    unfolding run_on effect_on granted_to effect_at log_after closed_threads
    run_is c thread ready before =
        let v = site.variables.at in
        rw (ready_cycle→cycle (thread_at ts k).state c ready, effect_is g same c thread ready before v) (granted-is c (effect_of m k (thread_at ts k).segment c v) _ (closed-fit g same c thread ready before v))

    -- a finish on the values that are held, and stores what it writes
    finish-is : k < m.t → is_running (thread_at ts k).state ≡ true
        → after_of (run_on true (reach_of m ws) m.t g site ts held k) ≡ after_of (finished_from m ws site ts held k)
    unfolding run_on effect_on finished_from effect_held effect_at log_after closed_threads log_of
    finish-is thread runs =
        let c = cycle_of (thread_at ts k).state in
        let s = (thread_at ts k).segment in
        let u = held_at held k in
        let v = site.variables.at in
        let ready = running-cycle (thread_at ts k).state runs in
        let before = (is_fit_thread→ m k (thread_at ts k) (fit-threads fit k thread)).soon runs in
        let x = effect_held m site ts held k in
        let y = effect_of m k s c u in
        let e : effect_on true g s c v u ≡ x =
        ap (λ (z : Effect). record { variables = stored_in g v z.variables; notified = z.notified; thread = z.thread }) (effect_is g same c thread ready before u)
        ∙ ap (λ (w : List ℕ). record { variables = w; notified = y.notified; thread = y.thread }) (stored_in-runs m k s g v y.variables same) in
        ap (λ (z : Effect). after_of (grant_on (reach_of m ws) m.t site ts k c z)) e
        ∙ granted-is c x (λ j. settled_items m ws (log_by site c x) (closed_by ts k x) j) (closed-fit g same c thread ready before u)

-- a call on a fit state, by conflicts that are those of its thread, and by a state whose log has what is counted
module _ (m : Model) (marks : List (List Bool)) (ws : List ℕ) (counted site : Site) (ts : List Thread) (fit : FitState m ws (log_of site) ts) (k : ℕ)
    (counts : log_of counted ≡ counted_log m ts (log_of site)) (conflicts : ℕ → ℕ → ℕ → ℕ → Bool)
    (agree : (r j s : ℕ) → k < m.t → r < m.n → j < m.t → s < m.n → conflicts k r j s ≡ threads_conflict m marks k r j s) where
  hazard-is : (c : Cycle) → k < m.t → ready_cycle (thread_at ts k).state ≡ At c
      → hazard_on m.n m.t conflicts ws (reach_of m ws) (log_of site) ts k c ≡ hazard m marks ws (log_of site) ts k c
  unfolding hazard_on
  hazard-is c thread ready = rw (ahead_of-is m ws (log_of site) ts fit) (hazard-limit m ws (log_of site) ts fit marks k c thread (ready-fit fit k c thread ready) conflicts (λ r j s p q u. agree r j s thread p q u))

  module _ (g : Segment) (same : k < m.t → RunsAs g (segment_for m k (thread_at ts k).segment)) (held : List ℕ) where
    number_is : number_on (end_time m) m.n m.t (notified_by (body_of g)) conflicts ws (reach_of m ws) (log_of counted) (log_of site) ts k ≡ number_in m marks ws site ts k
    unfolding number_on number_in listed_in
    number_is =
        rw counts
        (number_for-same m.t (end_time m) (hazard_on m.n m.t conflicts ws (reach_of m ws) (log_of site) ts k) (floor_below m.t ts) (notified_by (body_of g)) (counted_log m ts (log_of site)) ts k
        (hazard m marks ws (log_of site) ts k) (floor_of m ts) (listed_in m k (thread_at ts k).segment) ts
        (λ h. record {
          running = refl;
          ready = refl;
          hazards = λ c ready _. hazard-is c h ready;
          floors = refl;
          listed = ap notified_by (same h).0;
        }))

    -- what a call leaves, as the code holds it
    abbrev Same : Called → Called → Type 0
    Same a b = (a.held ≡ b.held) × (after_of a.left ≡ after_of b.left)

    both_is : Same (called_on (end_time m) m.n m.t g conflicts ws (reach_of m ws) counted site ts held (Both k)) (call_fit m marks ws site ts held (Both k))
    unfolding called_on call_number_on done_on emptied_by call_fit request_fit answered_by number_in is_up_to_horizon
    both_is = rw number_is (go (ℕ_discrete (number_in m marks ws site ts k) 0))
      where
        n : ℕ
        n = number_in m marks ws site ts k

        go : Dec (n ≡ 0)
            → (cond (eqb n 0) held held ≡ held)
            × (after_of (answered_by n site ts (run_on false (reach_of m ws) m.t g site ts held k)) ≡ after_of (answered_by n site ts (granted_to m ws site ts k (cycle_of (thread_at ts k).state))))
        go (no other) = (rw (ne_eqb n 0 other) refl, rw (ne_eqb n 0 other) refl)
        go (yes e) =
            let (c, p) = number_for→passed m.t (end_time m) (hazard m marks ws (log_of site) ts k) (floor_of m ts) (listed_in m k (thread_at ts k).segment) (counted_log m ts (log_of site)) ts k e in
            (rw (eq-eqb n 0 e) refl, rw (eq-eqb n 0 e) (run_is m ws site ts fit k g (same p.thread) held c p.thread p.ready p.in-time))

    grant-is : Same (called_on (end_time m) m.n m.t g conflicts ws (reach_of m ws) counted site ts held (Grant k)) (call_fit m marks ws site ts held (Grant k))
    unfolding called_on call_number_on done_on call_fit
    grant-is = rw number_is (refl, refl)

    finished-is : Same (called_on (end_time m) m.n m.t g conflicts ws (reach_of m ws) counted site ts held (Finish k)) (call_fit m marks ws site ts held (Finish k))
    unfolding called_on call_number_on done_on emptied_by call_fit answered_by
    finished-is = (refl, go (ℕ_discrete (finish_number m.t ts k) 0))
      where
        n : ℕ
        n = finish_number m.t ts k

        go : Dec (n ≡ 0) → after_of (answered_by n site ts (run_on true (reach_of m ws) m.t g site ts held k)) ≡ after_of (answered_by n site ts (finished_from m ws site ts held k))
        go (no other) = rw (ne_eqb n 0 other) refl
        go (yes e) = let (below, runs) = finish_number→running m.t ts k e in rw (eq-eqb n 0 e) (finish-is m ws site ts fit k g (same below) held below runs)

-- the whole call, by its thread
called_is : (m : Model) (marks : List (List Bool)) (ws : List ℕ) (counted site : Site) (ts : List Thread) (fit : FitState m ws (log_of site) ts) (call : Call)
    → log_of counted ≡ counted_log m ts (log_of site) → (conflicts : ℕ → ℕ → ℕ → ℕ → Bool)
    → ((r j s : ℕ) → thread_of call < m.t → r < m.n → j < m.t → s < m.n → conflicts (thread_of call) r j s ≡ threads_conflict m marks (thread_of call) r j s)
    → (g : Segment) → (thread_of call < m.t → RunsAs g (segment_for m (thread_of call) (thread_at ts (thread_of call)).segment)) → (held : List ℕ)
    → ((called_on (end_time m) m.n m.t g conflicts ws (reach_of m ws) counted site ts held call).held ≡ (call_fit m marks ws site ts held call).held)
    × (after_of (called_on (end_time m) m.n m.t g conflicts ws (reach_of m ws) counted site ts held call).left ≡ after_of (call_fit m marks ws site ts held call).left)
called_is m marks ws counted site ts fit (Both k) counts conflicts agree g same held = both_is m marks ws counted site ts fit k counts conflicts agree g same held
called_is m marks ws counted site ts fit (Grant k) counts conflicts agree g same held = grant-is m marks ws counted site ts fit k counts conflicts agree g same held
called_is m marks ws counted site ts fit (Finish k) counts conflicts agree g same held = finished-is m marks ws counted site ts fit k counts conflicts agree g same held

-- a call on a state to which 11 does not apply; s is the segment that the thread is in, g what stands there
module _ (m : Model) (marks : List (List Bool)) (ws : List ℕ) (site : Site) (ts : List Thread) (call : Call) (e : is_unfit m ws site ts ≡ false) where
  abbrev k : ℕ
  k = thread_of call

  fit : FitState m ws (log_of site) ts
  fit = is_unfit→FitState m ws site ts e

  pub fit-threads-few : m.t ≤ 32
  fit-threads-few = (fit-counts fit).threads

  pub fit-segments-few : (j : ℕ) → j < m.t → (thread_at ts j).segment < 64
  fit-segments-few j h = omega (arith, fit-segment fit j h, (fit-counts fit).segments)

  pub fit-places : length (counted_log m ts (log_of site)) ≤ places
  fit-places = is_unfit_places→ m site ts (is_unfit→ m ws site ts e).counted

  pub fit-segment-few : cond (ltb k m.t) (thread_at ts k).segment 0 < 64
  fit-segment-few = go (dec_lt k m.t)
    where
      go : Dec (k < m.t) → cond (ltb k m.t) (thread_at ts k).segment 0 < 64
      go (yes h) = rw (lt-ltb k m.t h) (fit-segments-few k h)
      go (no h) = rw (le-ltb k m.t (omega arith)) (omega arith)

  module _ (s : ℕ) (g : Segment) (p : s ≡ cond (ltb k m.t) (thread_at ts k).segment 0) (count : length m.segments ≡ 64)
      (there : g ≡ get_or m.segments s (record { closer = End; n = 0; statements = [] })) (counted : Site) (counts : log_of counted ≡ counted_log m ts (log_of site))
    where
      here : k < m.t → g ≡ segment_at m (thread_at ts k).segment
      unfolding segment_at
      here h =
          there ∙ get_d_any m.segments s (record { closer = End; n = 0; statements = [] }) no_segment (omega (arith, count, p, fit-segment-few))
          ∙ ap (segment_at m) (p ∙ ap (λ (b : Bool). cond b (thread_at ts k).segment 0) (lt-ltb k m.t h))

      runs : k < m.t → RunsAs (segment_with (ports_in m.starts k) g) (segment_for m k (thread_at ts k).segment)
      unfolding ports_in ports_at start_at
      runs h = rw (here h) (segment_with-runs m k (thread_at ts k).segment (lacks_from-self m k (thread_at ts k).segment (fit-segment fit k h) (fit-lacks fit k h)))

      -- what is counted takes no fewer places than the log, and what a running thread lists is counted
      pub room-fit : HasRoom m.t g counted site ts call
      unfolding listed_in
      room-fit =
          record {
            counts = λ c es. rw counts (places_with-counted m ts (log_of site) c es es (λ w t. t));
            running = λ f below r.
                let lists : notified_by (body_of g) ≡ listed_in m k (thread_at ts k).segment = sym (segment_with-listed (ports_in m.starts k) g) ∙ ap notified_by (runs below).0 in
                let n = running-counted m ts (log_of site) k (notified_by (body_of g)) below r (λ w t. subst (λ (es : List ℕ). T (has es w)) lists t) in
                omega (arith, n, fit-places);
          }

      pub call-fit : (names reach : List ℕ) → names ≡ names_for m (replicate 256 0) → reach ≡ reach_of m ws → (held : List ℕ)
          → ((called_on (end_time m) m.n m.t (segment_with (ports_in m.starts k) g) (conflicts_on marks names m.starts) ws reach counted site ts held call).held
          ≡ (call_fit m marks ws site ts held call).held)
          × (after_of (called_on (end_time m) m.n m.t (segment_with (ports_in m.starts k) g) (conflicts_on marks names m.starts) ws reach counted site ts held call).left
          ≡ after_of (call_fit m marks ws site ts held call).left)
      call-fit names reach f r held =
          rw (r, f)
          (called_is m marks ws counted site ts fit call counts (conflicts_on marks (names_for m (replicate 256 0)) m.starts)
          (λ r j s kt rn jt sn. conflicts_on-is m fit.model marks k r j s kt rn jt sn)
          (segment_with (ports_in m.starts k) g) runs held)

-- the values that are held: none are asked for by a request, and a set for each thread where 11 does not apply
pub enough-both : (t : ℕ) (held : List ℕ) (k : ℕ) → EnoughHeld t held (Both k)
enough-both t held k = record { granted = λ e. absurd (subst T (sym e) tt); finished = λ e. absurd (subst T (sym e) tt) }

pub enough-fit : (m : Model) (held : List ℕ) (call : Call) → is_unfit_held m held ≡ false → EnoughHeld m.t held call
unfolding is_unfit_held
enough-fit m held call e = let h = nltb→le (length held) (held_count * m.t) (false→T (is_unfit_held m held) e) in record { granted = λ _. h; finished = λ _. h }

-- 11 applies to a call neither by the state nor by what is held
pub neither : (a b : Bool) → (a || b) ≡ false → (a ≡ false) × (b ≡ false)
neither a b e = let (p, q) = not-or→both a b (false→T (a || b) e) in (T→false a p, T→false b q)

-- 11 first
module _ (m : Model) (marks : List (List Bool)) (ws : List ℕ) (site : Site) (ts : List Thread) where
  -- what a request returns, with its answer by number and values
  pub after-answers : (k : ℕ) {a : After} → a ≡ after_of (request_of m marks ws site ts k) → (a ≡ after_of (request_of m marks ws site ts k)) × Answers m marks ws site ts k a.answer
  unfolding after_of
  after-answers k e = (e, rw e (request_of-answers m marks ws site ts k))

  pub request-unfit : (k : ℕ) → is_unfit m ws site ts ≡ true → after_of (refused_with 11 site ts) ≡ after_of (request_of m marks ws site ts k)
  unfolding request_of
  request-unfit k e = rw e refl

  -- the combined call is the request, whatever is held
  pub request-both : (k : ℕ) (held : List ℕ) → is_unfit m ws site ts ≡ false → after_of (call_fit m marks ws site ts held (Both k)).left ≡ after_of (request_of m marks ws site ts k)
  unfolding call_fit request_of
  request-both k held e = rw e refl
