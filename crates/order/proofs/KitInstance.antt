-- The kit's laws for every model that keeps the file rules, with marks that hold the needed ones and words that begin with the
-- reader's; the reader's marks are such (`marks_of-needed`). Footprints by model_effect, conflict and distance by tables_laws (what a
-- mark means, and that a distance is the least over all paths), earliest, forecast and hazard by early_laws.
-- Assumes nothing.
use Prim.Native.Nat.{ℕ, ◌≤◌, ◌<◌, ◌+◌, ◌*◌}
use mathlib.Core.Path.{◌≡◌, refl, ap, sym, ◌∙◌, subst}
use mathlib.Core.Logic.{◌⊎◌, inl, inr}
use mathlib.Core.Bool.{Bool}
use mathlib.Core.List.{List}
use native.Mathlib.Omega.{arith}
use lib.Dec.{T}
use lib.ListN.{length, get_or, length-append, get_or-append}
use Rattle.base.proofs.BoolLaws.{T→true}
use Rattle.clock.specs.declared.Cycle.{Cycle}
use Rattle.clock.specs.declared.Wait.TheVariants as wait
use Rattle.clock.specs.declared.Bound.{Bound}
use Rattle.clock.specs.declared.Bound.TheVariants.{At}
use Rattle.clock.specs.Cycle.{cycle_at}
use Rattle.clock.specs.Advance.{◌⊕◌, one_delta}
use Rattle.clock.specs.Order.{◌⊑◌, ◌≼◌}
use Rattle.clock.specs.Wait.{wait_ends}
use Rattle.clock.proofs.OrderLaws.{≼_refl, ≼_trans}
use Rattle.clock.proofs.AdvanceLaws.{⊕-mono, ⊕-one_delta, advance_of-Event}
use Rattle.clock.proofs.WaitLaws.{wait_ends-advance}
use Rattle.model.specs.declared.Closer.{Closer}
use Rattle.model.specs.declared.Closer.TheVariants.{End, Time, Event}
use Rattle.model.specs.declared.Model.{Model}
use Rattle.model.specs.declared.Thread.{Thread}
use Rattle.model.specs.Limits.{end_time, cut_time, is_up_to_horizon}
use Rattle.model.specs.Record as view
use Rattle.model.specs.Record.{view_of}
use Rattle.model.specs.Port.{map_closer, map_segment}
use Rattle.model.specs.Values.{segment_at, ports_at, segment_for}
use Rattle.model.specs.Effect.{next_of, closed_at, effect_of}
use Rattle.model.specs.Reach.{goes_to}
use Rattle.model.specs.Rules.{model_fault}
use Rattle.model_effect.proofs.FrameLaws.{writes_in→uses_in, effect_of-frame, effect_of-length, effect_of-local}
use Rattle.model_rules.proofs.RuleLaws.{model_fault-horizon, model_fault-counts, model_fault-notifies}
use Rattle.tables.specs.Conflict.{marks_of}
use Rattle.tables.specs.Distance.{step_of, edge, distance_of}
use Rattle.tables.specs.Word.{words_of, distance_in}
use Rattle.tables_laws.proofs.DistanceLaws.{distance_of-is, distance_of-self, distance_of-step, distance_of-after}
use Rattle.tables_laws.proofs.WordLaws.{place-below, words_of-length, distance_in-words_of, words_of-fit}
use Rattle.plain_laws.proofs.RecordLaws.{goes_to-next, state_after-ready, state_after-not-waits, effect_of-thread, effect_of-waits, horizon→<}
use Rattle.plain_laws.proofs.RangeLaws as range
use Rattle.plain_laws.proofs.KeepLaws.{effect_of-notifies, model_fault-keeps}
use Rattle.early.specs.declared.Notification.{Notification}
use Rattle.early.specs.Fit.{is_fit_word}
use Rattle.early_laws.proofs.EarliestLaws.{earliest_at, FromReady, FromLogged, earliest-ready, earliest-heard, earliest-link, earliest-attained}
use Rattle.early_laws.proofs.ForecastLaws as forecast
use Rattle.early_laws.proofs.HazardLaws as danger
use Rattle.early_laws.proofs.FitLaws.{→is_fit_thread, →is_fit_cycle, →is_unfit_words}
use Rattle.order.proofs.Places.{record_at, now_at}
use Rattle.order.proofs.KitLaws.{Source, from_ready, from_logged, Begins, Footprints, Needed, Distances, Ranges, Forecasts, KitLaws}
use Rattle.order.proofs.Conflicts.{MayRun, shared→threads_conflict}

-- a step of the segment graph hangs on no port
step_of-mapped : (ps : List ℕ) (g : Closer) (s : ℕ) → step_of (map_closer ps g) s ≡ step_of g s
unfolding step_of goes_to
step_of-mapped ps End s = refl
step_of-mapped ps (Time k x) s = refl
step_of-mapped ps (Event w x) s = refl

-- a segment that closes ready at d has taken a step of the segment graph, whose advance leads from c to d
closed-ready : (s : ℕ) (g : Closer) (c d : Cycle) (v : List ℕ) → view_of (closed_at s g c v).state ≡ view.ready d
    → At c ⊕ step_of g (closed_at s g c v).segment ≡ At d
unfolding closed_at step_of
closed-ready s End c d v e = let z : ◌≡◌ {A = ℕ} 0 1 = cc in absurd (omega arith)
closed-ready s (Time k x) c d v e =
    rw (T→true (goes_to x (next_of x v)) (goes_to-next x v)) (wait_ends-advance (wait.Time k) c (state_after-ready _ d e))
closed-ready s (Event w x) c d v e = let z : ◌≡◌ {A = ℕ} 0 1 = cc in absurd (omega arith)

-- one that waits on an event has taken a step of one delta
closed-waits : (s : ℕ) (g : Closer) (c since : Cycle) (v : List ℕ) (e : ℕ) → view_of (closed_at s g c v).state ≡ view.waits e since
    → step_of g (closed_at s g c v).segment ≡ one_delta
unfolding closed_at step_of
closed-waits s End c since v e f = let z : ◌≡◌ {A = ℕ} 0 1 = cc in absurd (omega arith)
closed-waits s (Time k x) c since v e f = absurd (state_after-not-waits (wait_ends (wait.Time k) c) e since f)
closed-waits s (Event w x) c since v e f = rw (T→true (goes_to x (next_of x v)) (goes_to-next x v)) advance_of-Event

-- the reader's marks, for threads that lack no port
pub marks_of-needed : (m : Model) → model_fault m ≡ 0 → Needed m (marks_of m)
marks_of-needed m fit =
    record {
      Reaches = MayRun m;
      reached = λ i k r.
          let p = (range.in-range m (model_fault-keeps m fit) i).fits k r.below in
          record { thread = r.below; segment = p.segment; lacks = p.lacks };
      marked = λ i r j s v n p q h. shared→threads_conflict m fit i r j s v p q h;
    }

module _ (m : Model) (fit : model_fault m ≡ 0) (ws : List ℕ) (begins : Begins (words_of m) ws) where
  -- what is read of the words is the reader's
  word-at : (i : ℕ) → i < m.n * m.n → get_or ws i 0 ≡ get_or (words_of m) i 0
  word-at i h = rw begins.1 (get_or-append (words_of m) begins.0 0 i (omega (arith, words_of-length m)))

  distance-at : (r s : ℕ) → r < m.n → s < m.n → distance_in m ws r s ≡ distance_of m r s
  unfolding distance_in
  distance-at r s h l = rw (word-at (r * m.n + s) (place-below m.n r s h l)) (distance_in-words_of m fit r s h l)

  words-enough : m.n * m.n ≤ length ws
  words-enough = rw begins.1 (simp length-append (omega (arith, words_of-length m)))

  -- no time up to the horizon is cut
  end-cut : end_time m ≤ cut_time
  end-cut = omega (arith, (model_fault-horizon m fit).1)

  before-cut : (c : Cycle) → T (is_up_to_horizon m c) → c.time.0 < cut_time
  before-cut c t = omega (arith, horizon→< m c t, end-cut)

  footprints : Footprints m
  footprints =
      record {
        writes_uses = λ k s v t. writes_in→uses_in m k s v t;
        sized = λ k s c x. effect_of-length m k s c x;
        frame = λ k s c x v e. effect_of-frame m k s c x v e;
        local = λ k s c x y a. effect_of-local m k s c x y a;
      }

  -- the bound on the distance to the next segment, from that to this one
  onward : (r a b : ℕ) (y : Bound) (c d : Cycle) → r < m.n → a < m.n → b < m.n → d.time.0 < cut_time → At c ⊕ edge m a b ≼ At d
      → y ⊕ distance_in m ws r a ≼ At c → y ⊕ distance_in m ws r b ≼ At d
  onward r a b y c d rn an bn before step h =
      rw (distance-at r b rn bn)
      (distance_of-after m r a b rn an bn y d before
      (≼_trans ((y ⊕ distance_of m r a) ⊕ edge m a b) (At c ⊕ edge m a b) (At d)
      (⊕-mono (y ⊕ distance_of m r a) (At c) (edge m a b) (edge m a b) (rw (distance-at r a rn an) at h) (≼_refl (edge m a b))) step))

  next-below : (k a : ℕ) (c : Cycle) (x : List ℕ) → a < m.n → (effect_of m k a c x).thread.segment < m.n
  next-below k a c x h = (model_fault-keeps m fit).next k a c x h

  steps-same : (k a b : ℕ) → step_of (segment_for m k a).closer b ≡ edge m a b
  unfolding edge segment_for map_segment
  steps-same k a b = step_of-mapped (ports_at m k) (segment_at m a).closer b

  edge-ready : (k a : ℕ) (c d : Cycle) (x : List ℕ) → view_of (effect_of m k a c x).thread.state ≡ view.ready d
      → At c ⊕ edge m a (effect_of m k a c x).thread.segment ≡ At d
  unfolding edge
  edge-ready k a c d x e =
      let g = (segment_for m k a).closer in
      rw (← steps-same k a (effect_of m k a c x).thread.segment)
      (subst (λ (t : Thread). view_of t.state ≡ view.ready d → At c ⊕ step_of g t.segment ≡ At d) (sym (effect_of-thread m k a c x))
      (closed-ready a g c d (effect_of m k a c x).variables) e)

  edge-waits : (k a e : ℕ) (c since : Cycle) (x : List ℕ) → view_of (effect_of m k a c x).thread.state ≡ view.waits e since
      → edge m a (effect_of m k a c x).thread.segment ≡ one_delta
  unfolding edge
  edge-waits k a e c since x f =
      let g = (segment_for m k a).closer in
      sym (steps-same k a (effect_of m k a c x).thread.segment)
      ∙ subst (λ (t : Thread). view_of t.state ≡ view.waits e since → step_of g t.segment ≡ one_delta) (sym (effect_of-thread m k a c x))
      (closed-waits a g c since (effect_of m k a c x).variables e) f

  over_event : (k r a e : ℕ) (c since h : Cycle) (x : List ℕ) (y : Bound) → k < m.t → r < m.n → a < m.n
      → view_of (effect_of m k a c x).thread.state ≡ view.waits e since → since ⊑ h → T (is_up_to_horizon m h)
      → y ⊕ distance_in m ws r a ≼ At c → y ⊕ distance_in m ws r (effect_of m k a c x).thread.segment ≼ At h ⊕ one_delta
  over_event k r a e c since h x y kt rn an f b t l =
      let start : c ⊑ h = subst (λ (z : Cycle). z ⊑ h) (effect_of-waits m k a c x e since f) b in
      let next = (effect_of m k a c x).thread.segment in
      rw (⊕-one_delta h)
      (onward r a next y c (cycle_at h.time.0 (h.delta.0 + 1)) rn an (next-below k a c x an) (before-cut h t)
      (rw (edge-waits k a e c since x f, ← ⊕-one_delta h) (⊕-mono (At c) (At h) one_delta one_delta start (≼_refl one_delta))) l)

  -- the bound on the distance from this segment, from that after a step
  ahead : (a b s : ℕ) (y : Bound) (c z : Cycle) → a < m.n → b < m.n → s < m.n → T (is_up_to_horizon m z) → At c ⊕ edge m a b ≡ y
      → y ⊕ distance_in m ws b s ≼ At z → At c ⊕ distance_in m ws a s ≼ At z
  ahead a b s y c z an bn sn t step l =
      rw (distance-at a s an sn)
      (distance_of-step m a b s an bn sn (At c) z (before-cut z t) (rw (step, ← distance-at b s bn sn) l))

  distances : Distances m ws
  distances =
      record {
        holds = record { each = λ r s rn sn. rw (distance-at r s rn sn) (distance_of-is m r s rn sn) };
        over_wait = λ k r a c d x y kt rn an f t l.
            let step = subst (λ (z : Bound). z ≼ At d) (sym (edge-ready k a c d x f)) (≼_refl (At d)) in
            onward r a (effect_of m k a c x).thread.segment y c d rn an (next-below k a c x an) (before-cut d t) step l;
        over_event = over_event;
        from_wait = λ k a s c d z x an sn f t l.
            ahead a (effect_of m k a c x).thread.segment s (At d) c z an (next-below k a c x an) sn t (edge-ready k a c d x f) l;
        from_event = λ k a e s c since z x an sn f t l.
            ahead a (effect_of m k a c x).thread.segment s (At c ⊕ one_delta) c z an (next-below k a c x an) sn t
            (ap (λ (b : Bound). At c ⊕ b) (edge-waits k a e c since x f)) l;
        self = λ r h. distance-at r r h h ∙ distance_of-self m r h;
        listed = λ k s c x e t. effect_of-notifies m k s c x e t;
        listed_below = λ k s e h t. model_fault-notifies m fit k s h e t;
        wait_begins = λ k s c x e since f. effect_of-waits m k s c x e since f;
      }

  ranges : Ranges m ws
  unfolding is_fit_word
  ranges =
      let kept = model_fault-keeps m fit in
      record {
        model = fit;
        words = →is_unfit_words m ws (words-enough) (λ i h. rw (word-at i h) (words_of-fit m fit i h));
        events = (model_fault-counts m fit).events;
        fit_record = λ i k l.
            let p = (range.in-range m kept i).fits k l in
            →is_fit_thread m k (record_at m i k)
            (record { segment = p.segment; cycle = record { time = range.record-time m kept i k l; delta = p.delta }; event = p.event; soon = λ r. absurd (subst T (sym r ∙ p.unbegun) tt); lacks = p.lacks });
        fit_now = λ i.
            let time = before-cut (now_at m i) (range.now_before m kept i) in
            →is_fit_cycle cut_time (now_at m i) (record { time = time; delta = (range.in-range m kept i).now_delta });
      }

  module _ (marks : List (List Bool)) where
    forecasts : (l : List Notification) (ts : List Thread) → Forecasts m marks ws l ts
    forecasts l ts =
        record {
          earliest = earliest_at m ws l ts;
          ready = earliest-ready m ws l ts;
          heard = λ k y h. earliest-heard m ws l ts k y.event h.since y h.below h.waits h.logged refl h.begun;
          linked = λ k e since j s x. earliest-link m ws l ts k e since j s (At x);
          attained = λ k b h e. source k b (earliest-attained m ws l ts k b h e);
          forecast_below = forecast.forecast_below m ws l ts;
          forecast_attained = λ e b f. let (k, s, p, q, _, _, r) = forecast.forecast_attained m ws l ts e b f in (k, s, p, q, r);
          no_hazard = λ i c. danger.no_hazard m marks ws l ts i c;
          some_hazard = λ i c e. let (j, s, t) = danger.hazard→threat m marks ws l ts i c e in (j, s, t.thread, t.other, t.live, t.sooner);
        }
      where
        source : (k : ℕ) (b : Cycle) → FromReady m ws l ts k b ⊎ FromLogged m ws l ts b → Source m l ts k b
        source k b (inl (j, c, below, r, cb, strict)) = from_ready j c below r cb strict
        source k b (inr (j, e, since, y, below, w, held, same, begun, yb)) =
            let waits = w ∙ ap (λ (a : ℕ). view.waits a since) (sym same) in
            from_logged j y (record { below = below; since = since; waits = waits; logged = held; begun = begun }) yb

    pub kit-laws : Needed m marks → KitLaws m marks ws
    kit-laws needed = record { footprints = footprints; needed = needed; distances = distances; ranges = ranges; forecasts = forecasts }
