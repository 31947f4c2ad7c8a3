-- The loop of `cycles`: its locals are a place of the plain run, from which the rest of the run is still to come.
--     count_of     steps are counted by cycle and turn; there are never more than the last step
--     Stands, stands-step     the run from a place, with enough steps left, is the whole run
--     Loop     the locals stand for a place, the marks for the events notified
--     loop-start, loop-passed, loop-ran, loop-begun     before the loop, and after each turn
--     loop-ahead     once all are looked at, every word is ahead
--     loop-out, loop-rest     where the budget is out, and where no thread is ready up to the horizon
use Prim.Native.Nat.{ℕ, zero, suc, ◌+◌, ◌-◌, ◌*◌, ◌<◌, ◌≤◌, ◌^◌}
use mathlib.Core.Path.{◌≡◌, refl, ap, sym, ◌∙◌, subst}
use mathlib.Core.Logic.{◌⊎◌, inl, inr}
use mathlib.Core.Bool.{Bool, true, false, cond, not, ◌&&◌}
use mathlib.Core.List.{List, [], ◌∷◌, ◌++◌}
use native.Mathlib.Nat.{add-mul, one-mul, mul-le-mul_right}
use native.Mathlib.Omega.{arith}
use native.Mathlib.Decide.{ℕ_discrete, dec_lt}
use lib.Dec.{T, ltb, leb}
use lib.ListN.{length, get_or, set, replicate, length-set, length-append, length-replicate, get_or-replicate, get_or-append}
use lib.Seq.{get_or-set_same, get_or-set_other, ext_get_or}
use borrow.Author.Tests.{lt-ltb, le-ltb, le-leb, lt-leb}
use Rattle.base.specs.Index.{tabulate}
use Rattle.base.proofs.BoolLaws.{T→true, true→T}
use Rattle.base.proofs.IndexLaws.{tabulate-length, tabulate-at}
use Rattle.clock.specs.declared.Cycle.{Cycle}
use Rattle.clock.specs.declared.Bound.{Bound}
use Rattle.clock.specs.declared.Bound.TheVariants.{Never, At}
use Rattle.clock.specs.Cycle.{cycle_at}
use Rattle.clock.specs.Order.{Before, sooner, same_time}
use Rattle.model.specs.declared.Closer.{Closer}
use Rattle.model.specs.declared.Closer.TheVariants.{End, Time, Event}
use Rattle.model.specs.declared.Model.{Model}
use Rattle.model.specs.declared.Thread.{Thread}
use Rattle.model.specs.Values.{segment_for, start_at, body_of}
use Rattle.model.specs.Statement.{execute, notified_by}
use Rattle.model.specs.Limits.{largest_time, is_up_to_horizon, is_bound_up_to_horizon}
use Rattle.model.specs.Record.{no_thread, thread_at, ready_cycle}
use Rattle.model.specs.Effect.{closed_at, effect_in, effect_of}
use Rattle.model.specs.Footprint.{listed_in, notifies_in}
use Rattle.model.specs.Reach.{lacks_port}
use Rattle.model.specs.Rules.{model_fault}
use Rattle.model_effect.proofs.EffectLaws.{delay_of}
use Rattle.model_reach.proofs.ReachLaws.{lacks_from-self}
use Rattle.model_rules.proofs.RuleLaws.{model_fault-counts, model_fault-notifies, segment_for-delay}
use Rattle.plain_words.specs.Pack.{pack_end, IsCodeFor}
use Rattle.plain_words.specs.Unpack.{end_by}
use Rattle.plain_words.specs.Shared.{Shared, shared, marked, reached, execute_by}
use Rattle.plain_words.proofs.MarkLaws.{Tells, Within, marked-length, tells_none, tells_more}
use Rattle.plain_words.proofs.CodeLaws.{mark, code-end, code-execute, code-follow}
use Rattle.plain.specs.declared.PlainRun.{PlainRun}
use Rattle.plain.specs.Start.{Place, started, fresh_threads, fresh_variables, start_of}
use Rattle.plain.specs.Wake.{woken_thread, woken, floor_of, some_ready}
use Rattle.plain.specs.Step.{is_at, is_due, ran_on, passed_on, begun, closed_on, stepped, place_at}
use Rattle.plain.specs.Run.{is_done, is_out, run_for, last_step, reported}
use Rattle.plain_laws.proofs.RecordLaws.{thread_at-set}
use Rattle.plain_laws.proofs.StepLaws.{effect_at, is_due→ready, place_at-more}
use Rattle.plain_laws.proofs.StartLaws.{start_of-record}
use Rattle.plain_laws.proofs.WakeLaws.{woken-at, woken-length, floor_of-attained, some_ready-found}
use Rattle.plain_state.specs.Words.{key_of, limit_of, word_of, state_from, threads_to, answer, close_word, wake_word, least_word}
use Rattle.plain_state.specs.Turn.{Locals, locals, ran_by}
use Rattle.plain_state.proofs.LimitLaws.{horizon→limit, limit-small}
use Rattle.plain_state.proofs.FloorLaws.{some_ready-rest, begun-rest, stepped-close, run_for-done, run_for-out, run_for-on}
use Rattle.plain_state.proofs.SoundLaws.{Ranged, Sound, sound-at}
use Rattle.plain_state.proofs.WordLaws.{Small, InRange, units_of, state_from-word, word_after, word-due, word-not-due, close_word-mark, close_word-closed, wake_word-woken}
use Rattle.plain_state.proofs.LeastLaws.{least_word-one, floor-word, floor-late}

-- how many steps lie before a turn of a cycle: T + 1 for each cycle, whether it is run or not
abbrev pub count_at : ℕ → ℕ → ℕ → ℕ
count_at t key turn = key * (t + 1) + turn

cycle-room : (t a b : ℕ) → a < b → a * (t + 1) + (t + 1) ≤ b * (t + 1)
cycle-room t a b h =
    let e : (a + 1) * (t + 1) ≡ a * (t + 1) + 1 * (t + 1) = add-mul a 1 (t + 1) in
    let i : 1 * (t + 1) ≡ t + 1 = one-mul (t + 1) in
    let l : (a + 1) * (t + 1) ≤ b * (t + 1) = mul-le-mul_right (t + 1) (omega arith) in
    omega arith

pub count_at-room : (t l key turn : ℕ) → key < l → turn ≤ t → count_at t key turn < l * (t + 1)
count_at-room t l key turn h u = let r = cycle-room t key l h in omega arith

key-later : {c d : Cycle} → Before c d → c.delta.0 ≤ 1023 → 1024 * c.time.0 + c.delta.0 < 1024 * d.time.0 + d.delta.0
key-later (sooner h) l = omega arith
key-later (same_time h k) l = omega arith

pub count_at-later : (t : ℕ) {c d : Cycle} (turn : ℕ) → Before c d → c.delta.0 ≤ 1023 → turn ≤ t → count_at t (key_of c) turn < count_at t (key_of d) 0
count_at-later t {c} {d} turn b l u =
    let r = cycle-room t (1024 * c.time.0 + c.delta.0) (1024 * d.time.0 + d.delta.0) (key-later b l) in
    omega arith

abbrev count_of : Model → Place → ℕ
count_of m p = count_at m.t (key_of p.now) p.turn

pub record Stands (m : Model) (budget : ℕ) (p : Place) : Type 0 where
  pub index : ℕ
  pub place : p ≡ place_at m index
  pub steps : ℕ
  pub same : run_for m budget steps p ≡ run_for m budget (last_step m) (start_of m)
  pub left : last_step m ≤ steps + count_of m p

module _ (m : Model) (fit : model_fault m ≡ 0) (budget : ℕ) (p : Place) (st : Stands m budget p) where
  next_place : stepped m p ≡ place_at m (suc st.index)
  next_place = ap (stepped m) st.place ∙ sym (place_at-more m st.index)

  pub stands-sound : Sound m p
  stands-sound = subst (Sound m) (sym st.place) (sound-at m fit st.index)

  -- and so is the next place
  pub stands-next : Sound m (stepped m p)
  stands-next = subst (Sound m) (sym next_place) (sound-at m fit (suc st.index))

stands-steps : (m : Model) (budget s s' : ℕ) (p q : Place) → s ≡ suc s' → T (not (is_out m budget p)) → stepped m p ≡ q → run_for m budget s p ≡ run_for m budget s' q
stands-steps m budget s s' p q e o f = rw (e, ← f) (run_for-on m budget s' p o)

pub stands-step : (m : Model) → model_fault m ≡ 0 → (budget : ℕ) (p q : Place) → Stands m budget p → T (not (is_out m budget p)) → stepped m p ≡ q → count_of m p < count_of m q → Stands m budget q
stands-step m fit budget p q st o e later =
    let sound = stands-sound m fit budget p st in
    let key = horizon→limit m p.now sound.time sound.delta in
    let room : count_of m p < last_step m = count_at-room m.t (limit_of m) (key_of p.now) p.turn key sound.turn in
    let left = st.left in
    let n : st.steps ≡ suc (st.steps - 1) = omega arith in
    record {
      index = suc st.index;
      place = sym e ∙ next_place m fit budget p st;
      steps = st.steps - 1;
      same = sym (stands-steps m budget st.steps (st.steps - 1) p q n o e) ∙ st.same;
      left = omega arith;
    }

abbrev pub place_of : List ℕ → List Thread → Cycle → ℕ → List ℕ → ℕ → Place
place_of v ts now turn es n = record { variables = v; threads = ts; now = now; turn = turn; notified = es; n = n }

-- the locals stand for a place: their words and segments for threads, the marks for events, and now for a cycle
pub record Loop (m : Model) (budget : ℕ) (x : Locals) (now turn : ℕ) : Type 0 where
  pub threads : List Thread
  pub cycle : Cycle
  pub events : List ℕ
  pub key : now ≡ key_of cycle
  pub words : (k : ℕ) → k < m.t → get_or x.state k 0 ≡ word_of (thread_at threads k).state
  pub segments : (k : ℕ) → k < m.t → get_or x.segments k 0 ≡ (thread_at threads k).segment
  pub tells : Tells x.shared.told events
  pub marks_size : length x.shared.told ≡ 32
  pub words_size : length x.state ≡ 32
  pub segments_size : length x.segments ≡ 32
  pub stands : Stands m budget (place_of x.shared.variables threads cycle turn events x.n)

-- what the run answers
abbrev pub answer_of : Model → ℕ → PlainRun
answer_of m budget = reported m (run_for m budget (last_step m) (start_of m))

reported-as : (m : Model) (p : Place) (spent : Bool) → some_ready m p.threads ≡ spent → answer p.variables p.threads p.n spent ≡ reported m p
unfolding reported
reported-as m p spent e = rw (← e) refl

-- tests of a place, from what the code has tested
is_due-at : (p : Place) → is_at p.now (ready_cycle (thread_at p.threads p.turn).state) ≡ is_due p
unfolding is_due
is_due-at p = refl

is_out-not-due : (m : Model) (budget : ℕ) (p : Place) → is_due p ≡ false → T (not (is_out m budget p))
unfolding is_out
is_out-not-due m budget p e = go (ltb p.turn m.t)
  where
    go : (b : Bool) → T (not ((b && is_due p) && leb budget p.n))
    go true = rw e tt
    go false = tt

is_out-room : (m : Model) (budget : ℕ) (p : Place) → p.n < budget → T (not (is_out m budget p))
unfolding is_out
is_out-room m budget p h = go (ltb p.turn m.t && is_due p)
  where
    go : (b : Bool) → T (not (b && leb budget p.n))
    go true = rw (lt-leb budget p.n h) tt
    go false = tt

is_out-closed : (m : Model) (budget : ℕ) (p : Place) → m.t ≤ p.turn → T (not (is_out m budget p))
unfolding is_out
is_out-closed m budget p h = rw (le-ltb p.turn m.t h) tt

is_out-full : (m : Model) (budget : ℕ) (p : Place) → p.turn < m.t → is_due p ≡ true → budget ≤ p.n → T (is_out m budget p)
unfolding is_out
is_out-full m budget p h d l = rw (lt-ltb p.turn m.t h, d, le-leb budget p.n l) tt

stepped-passed : (m : Model) (p : Place) → p.turn < m.t → is_due p ≡ false → stepped m p ≡ passed_on p
unfolding stepped
stepped-passed m p h d = rw (lt-ltb p.turn m.t h, d) refl

stepped-ran : (m : Model) (p : Place) → p.turn < m.t → is_due p ≡ true → stepped m p ≡ ran_on m p
unfolding stepped
stepped-ran m p h d = rw (lt-ltb p.turn m.t h, d) refl

is_done-rest : (m : Model) (p : Place) → m.t ≤ p.turn → p.notified ≡ [] → some_ready m p.threads ≡ false → T (is_done m p)
unfolding is_done
is_done-rest m p h e r = rw (le-leb m.t p.turn h, e, r) tt

closed_on-as : (m : Model) (p : Place) → closed_on m p ≡ begun m (floor_of m (woken p.notified p.now p.threads)) (place_of p.variables (woken p.notified p.now p.threads) p.now p.turn [] p.n)
unfolding closed_on
closed_on-as m p = refl

begun-at : (m : Model) (f : Bound) (c : Cycle) (p : Place) → f ≡ At c → T (is_up_to_horizon m c) → begun m f p ≡ place_of p.variables p.threads c 0 p.notified p.n
unfolding begun
begun-at m f c p e t = rw (e, T→true (is_up_to_horizon m c) t) refl

-- a due thread is ready up to the horizon
some_ready-due : (m : Model) (p : Place) → Sound m p → p.turn < m.t → T (is_due p) → some_ready m p.threads ≡ true
some_ready-due m p s h d = some_ready-found m p.threads p.turn p.now h (is_due→ready p d) s.time

begun-threads : (m : Model) (f : Bound) (p : Place) → (begun m f p).threads ≡ p.threads
unfolding begun
begun-threads m Never p = refl
begun-threads m (At c) p = go (is_up_to_horizon m c)
  where
    go : (b : Bool) → (cond b (place_of p.variables p.threads c 0 p.notified p.n) p).threads ≡ p.threads
    go true = refl
    go false = refl

-- a record and its word, set together
set_both : (t : ℕ) (ws : List ℕ) (ts : List Thread) (i w : ℕ) (x : Thread) (f : Thread → ℕ) → i < length ws → i < length ts → w ≡ f x →
    ((k : ℕ) → k < t → get_or ws k 0 ≡ f (thread_at ts k)) → (k : ℕ) → k < t → get_or (set ws i w) k 0 ≡ f (thread_at (set ts i x) k)
unfolding thread_at
set_both t ws ts i w x f h l e g k b = go (ℕ_discrete k i)
  where
    go : Dec (k ≡ i) → get_or (set ws i w) k 0 ≡ f (get_or (set ts i x) k no_thread)
    go (yes q) = rw (q, get_or-set_same ws i w 0 h, get_or-set_same ts i x no_thread l) e
    go (no q) = rw (get_or-set_other ws i k w 0 q, get_or-set_other ts i k x no_thread q) (g k b)

past_end : (xs : List Thread) (r k : ℕ) → length xs ≤ k → get_or (xs ++ replicate r no_thread) k no_thread ≡ no_thread
past_end [] zero k h = refl
past_end [] (suc r) zero h = refl
past_end [] (suc r) (suc k) h = past_end [] r k (omega arith)
past_end (x ∷ xs) r zero h = absurd (omega arith)
past_end (x ∷ xs) r (suc k) h = past_end xs r k (omega arith)

threads_to-length : (ws ss : List ℕ) (t : ℕ) → t ≤ 32 → length (threads_to ws ss t) ≡ 32
unfolding threads_to
threads_to-length ws ss t h =
    let f : ℕ → Thread = λ j. record { segment = get_or ss j 0; state = state_from (get_or ws j 0) } in
    length-append (tabulate t 0 f) (replicate (32 - t) no_thread) ∙ omega (arith, tabulate-length t 0 f, length-replicate (32 - t) no_thread)

-- the words are read back as the threads that they stand for
threads_to-as : (ws ss : List ℕ) (t : ℕ) (ts : List Thread) → t ≤ 32 → length ts ≡ 32 →
    ((k : ℕ) → k < t → get_or ws k 0 ≡ word_of (thread_at ts k).state) → ((k : ℕ) → k < t → get_or ss k 0 ≡ (thread_at ts k).segment) → Ranged t ts → threads_to ws ss t ≡ ts
unfolding threads_to thread_at
threads_to-as ws ss t ts h size words segments r =
    ext_get_or no_thread (threads_to ws ss t) ts (threads_to-length ws ss t h ∙ sym size) (λ k l. go k (dec_lt k t))
  where
    f : ℕ → Thread
    f j = record { segment = get_or ss j 0; state = state_from (get_or ws j 0) }

    go : (k : ℕ) → Dec (k < t) → get_or (tabulate t 0 f ++ replicate (32 - t) no_thread) k no_thread ≡ get_or ts k no_thread
    go k (yes l) =
        let b : k < length (tabulate t 0 f) = omega (arith, tabulate-length t 0 f) in
        let z : 0 + k ≡ k = omega arith in
        get_or-append (tabulate t 0 f) (replicate (32 - t) no_thread) no_thread k b ∙
        (tabulate-at t 0 k f no_thread l ∙ rw (z, words k l, segments k l, state_from-word (get_or ts k no_thread).state (r.range k l)) refl)
    go k (no l) =
        past_end (tabulate t 0 f) (32 - t) k (omega (arith, tabulate-length t 0 f)) ∙ sym (r.rest k (omega arith))

effect-within : (m : Model) → model_fault m ≡ 0 → (k s : ℕ) → s < m.n → Within 32 (notified_by (body_of (segment_for m k s)))
unfolding notifies_in listed_in
effect-within m fit k s l e t = let few = (model_fault-counts m fit).events in omega (arith, model_fault-notifies m fit k s l e t)

closes : (m : Model) (fit : model_fault m ≡ 0) (k : ℕ) (words : List ℕ) → IsCodeFor m k words → (s : ℕ) → s < m.n → (c : Cycle) → Small c → (x : List ℕ) →
    InRange (closed_at s (segment_for m k s).closer c x).state → close_word (end_by words s) (key_of c) ≡ word_of (closed_at s (segment_for m k s).closer c x).state
closes m fit k words is s l c small x r =
    ap (λ (e : ℕ). close_word e (key_of c)) (code-end m fit k words is s l) ∙
    (close_word-mark (mark m fit k words is s l) (pack_end (segment_for m k s).n (segment_for m k s).closer) (key_of c) ∙
    close_word-closed c small (segment_for m k s).n s (segment_for m k s).closer x (units (segment_for m k s).closer (segment_for-delay m fit k s l)) r)
  where
    units : (z : Closer) → delay_of z ≤ largest_time → units_of z < 4294967296
    units End h = omega arith
    units (Time k y) h = omega arith
    units (Event w y) h = omega arith

module _ (m : Model) (fit : model_fault m ≡ 0) (budget : ℕ) where
  pub loop-start : (ss rs : List ℕ) → length ss ≡ 32 → ((k : ℕ) → k < m.t → get_or ss k 0 ≡ (start_at m k).first) →
      Loop m budget (locals fresh_variables (replicate 32 0) ss (replicate 32 false) rs 0) 0 0
  unfolding start_of started place_at
  loop-start ss rs size first =
      let few = (model_fault-counts m fit).threads in
      record {
        threads = fresh_threads m;
        cycle = cycle_at 0 0;
        events = [];
        key = refl;
        words = λ k h. rw (start_of-record m k h) (get_or-replicate 32 k 0 0 (omega arith));
        segments = λ k h. rw (start_of-record m k h) (first k h);
        tells = tells_none;
        marks_size = refl;
        words_size = refl;
        segments_size = size;
        stands = record { index = 0; place = refl; steps = last_step m; same = refl; left = omega arith };
      }

  module _ (x : Locals) (now turn : ℕ) (loop : Loop m budget x now turn) where
    abbrev here : Place
    here = place_of x.shared.variables loop.threads loop.cycle turn loop.events x.n

    sound : Sound m here
    sound = stands-sound m fit budget here loop.stands

    next : Sound m (stepped m here)
    next = stands-next m fit budget here loop.stands

    below : key_of loop.cycle < limit_of m
    below = horizon→limit m loop.cycle sound.time sound.delta

    small : Small loop.cycle
    small = record { key = omega (arith, below, limit-small m fit); delta = sound.delta }

    pub loop-small : now < 2 ^ 44
    loop-small = let k = small.key in omega (arith, loop.key)

    pub loop-segment : turn < m.t → get_or x.segments turn 0 < m.n
    loop-segment h = rw (loop.segments turn h) (sound.segment turn h)

    -- it uses every port that its segment names
    pub loop-ports : turn < m.t → lacks_port m turn (get_or x.segments turn 0) ≡ false
    loop-ports h = lacks_from-self m turn (get_or x.segments turn 0) (loop-segment h) (rw (loop.segments turn h) (sound.lacks turn h))

    -- the measure has room to fall
    pub loop-room : count_at m.t now turn < last_step m
    loop-room = rw loop.key (count_at-room m.t (limit_of m) (key_of loop.cycle) turn below sound.turn)

    -- every thread that was looked at is ahead
    word-ahead : (k : ℕ) → k < m.t → k < turn → now < get_or x.state k 0
    word-ahead k h l = rw (loop.key, loop.words k h) (word_after loop.cycle (thread_at loop.threads k).state small.key (λ d e. key-later (sound.ahead k d l e) small.delta))

    pub loop-ahead : m.t ≤ turn → now < least_word m.t x.state
    loop-ahead h = go (least_word-one m.t x.state)
      where
        go : (least_word m.t x.state ≡ 18446744073709551615) ⊎ ((k : ℕ) × (k < m.t) × (least_word m.t x.state ≡ get_or x.state k 0)) → now < least_word m.t x.state
        go (inl e) = omega (arith, loop-small)
        go (inr (k, l, e)) = rw e (word-ahead k l (omega arith))

    pub loop-threads : threads_to x.state x.segments m.t ≡ loop.threads
    loop-threads = threads_to-as x.state x.segments m.t loop.threads (model_fault-counts m fit).threads sound.size loop.words loop.segments sound.ranged

    due-word : turn < m.t → get_or x.state turn 0 ≡ now → is_due here ≡ true
    due-word h e = sym (is_due-at here) ∙ word-due loop.cycle small (thread_at loop.threads turn).state (sound.ranged.range turn h) (sym (loop.words turn h) ∙ (e ∙ loop.key))

    not-due-word : turn < m.t → (get_or x.state turn 0 ≡ now → ⊥) → is_due here ≡ false
    not-due-word h e = sym (is_due-at here) ∙ word-not-due loop.cycle small (thread_at loop.threads turn).state (λ q. e (loop.words turn h ∙ (q ∙ sym loop.key)))

    pub loop-passed : turn < m.t → (get_or x.state turn 0 ≡ now → ⊥) → Loop m budget x now (turn + 1)
    unfolding passed_on
    loop-passed h d =
        let due : is_due here ≡ false = not-due-word h d in
        record {
          threads = loop.threads;
          cycle = loop.cycle;
          events = loop.events;
          key = loop.key;
          words = loop.words;
          segments = loop.segments;
          tells = loop.tells;
          marks_size = loop.marks_size;
          words_size = loop.words_size;
          segments_size = loop.segments_size;
          stands =
              stands-step m fit budget here (passed_on here) loop.stands (is_out-not-due m budget here due) (stepped-passed m here h due) (omega arith);
        }

    module _ (h : turn < m.t) (d : get_or x.state turn 0 ≡ now) where
      -- "spent": the budget is out, and this thread is ready
      pub loop-out : budget ≤ x.n → answer x.shared.variables (threads_to x.state x.segments m.t) x.n true ≡ answer_of m budget
      loop-out full =
          let due : is_due here ≡ true = due-word h d in
          let out : T (is_out m budget here) = is_out-full m budget here h due full in
          rw loop-threads
          (reported-as m here true (some_ready-due m here (sound) h (true→T (is_due here) due)) ∙
          ap (reported m) (sym (run_for-out m here budget loop.stands.steps out) ∙ loop.stands.same))

      ran-stands : x.n < budget → Stands m budget (ran_on m here)
      unfolding ran_on
      ran-stands room =
          stands-step m fit budget here (ran_on m here) loop.stands (is_out-room m budget here room) (stepped-ran m here h (due-word h d)) (omega arith)

      ran-range : InRange (effect_at m here).thread.state
      unfolding ran_on
      ran-range =
          let j : turn < length loop.threads = omega (arith, sound.size, (model_fault-counts m fit).threads) in
          let ran : Sound m (ran_on m here) = subst (Sound m) (stepped-ran m here h (due-word h d)) next in
          subst (λ (y : Thread). InRange y.state) (thread_at-set loop.threads turn (effect_at m here).thread j) (ran.ranged.range turn h)

      -- "the ready threads of that cycle run their segment whole"
      pub loop-ran : x.n < budget → (words : ℕ → List ℕ) → IsCodeFor m turn (words turn) → Loop m budget (ran_by words now turn x) now (turn + 1)
      unfolding ran_on effect_of effect_in
      loop-ran room words is =
          let code = words turn in
          let s = get_or x.segments turn 0 in
          let p : s ≡ (thread_at loop.threads turn).segment = loop.segments turn h in
          let l : s < m.n = loop-segment h in
          let fs = x.shared.told in
          let es = notified_by (body_of (segment_for m turn s)) in
          let y = execute_by code s x.shared in
          let after : y ≡ shared (execute (body_of (segment_for m turn s)) x.shared.variables) (marked fs es) (reached x.shared.ranges es) =
          code-execute m fit turn code is s l h (loop-ports h) x.shared.variables fs x.shared.ranges in
          let values : y.variables ≡ execute (body_of (segment_for m turn s)) x.shared.variables = ap (λ (z : Shared). z.variables) after in
          let told : y.told ≡ marked fs es = ap (λ (z : Shared). z.told) after in
          let i : turn < length x.state = omega (arith, loop.words_size, (model_fault-counts m fit).threads) in
          let j : turn < length loop.threads = omega (arith, sound.size, (model_fault-counts m fit).threads) in
          let k : turn < length x.segments = omega (arith, loop.segments_size, (model_fault-counts m fit).threads) in
          let z = closed_at s (segment_for m turn s).closer loop.cycle y.variables in
          let range : InRange z.state = rw (values, p) ran-range in
          let close : close_word (end_by code s) now ≡ word_of z.state = ap (close_word (end_by code s)) loop.key ∙ closes m fit turn code is s l loop.cycle small y.variables range in
          record {
            threads = set loop.threads turn z;
            cycle = loop.cycle;
            events = loop.events ++ es;
            key = loop.key;
            words = set_both m.t x.state loop.threads turn _ z (λ (t : Thread). word_of t.state) i j close loop.words;
            segments = set_both m.t x.segments loop.threads turn _ z (λ (t : Thread). t.segment) k j (code-follow m fit turn code is s l h (loop-ports h) loop.cycle y.variables) loop.segments;
            tells = rw told (tells_more fs loop.events es (rw loop.marks_size (effect-within m fit turn s l)) loop.tells);
            marks_size = ap length told ∙ (marked-length fs es ∙ loop.marks_size);
            words_size = length-set x.state turn _ ∙ loop.words_size;
            segments_size = length-set x.segments turn _ ∙ loop.segments_size;
            stands = rw (values, p) (ran-stands room);
          }

    -- "At the cycle's end"
    module _ (h : m.t ≤ turn) (us : List ℕ) (w : (k : ℕ) → k < m.t → get_or us k 0 ≡ wake_word x.shared.told now (get_or x.state k 0)) where
      woke : List Thread
      woke = woken loop.events loop.cycle loop.threads

      woke-words : (k : ℕ) → k < m.t → get_or us k 0 ≡ word_of (thread_at woke k).state
      unfolding woke woken_thread
      woke-words k l =
          w k l ∙
          rw (loop.words k l, loop.key, woken-at loop.events loop.cycle loop.threads k)
          (wake_word-woken loop.cycle small x.shared.told loop.events loop.tells (thread_at loop.threads k).state (sound.ranged.range k l))

      woke-segments : (k : ℕ) → k < m.t → get_or x.segments k 0 ≡ (thread_at woke k).segment
      unfolding woke woken_thread
      woke-segments k l = rw (woken-at loop.events loop.cycle loop.threads k) (loop.segments k l)

      woke-ranged : Ranged m.t woke
      unfolding woke
      woke-ranged = subst (Ranged m.t) (ap (λ (p : Place). p.threads) (stepped-close m here h ∙ closed_on-as m here) ∙ begun-threads m (floor_of m woke) _) next.ranged

      closed-stands : (q : Place) → closed_on m here ≡ q → count_at m.t (key_of loop.cycle) turn < count_at m.t (key_of q.now) q.turn → Stands m budget q
      closed-stands q e later = stands-step m fit budget here q loop.stands (is_out-closed m budget here h) (stepped-close m here h ∙ e) later

      -- the next cycle, as a cycle
      next-cycle : least_word m.t us < limit_of m →
          (c : Cycle) × (floor_of m woke ≡ At c) × (key_of c ≡ least_word m.t us) × Small c × T (is_up_to_horizon m c)
      next-cycle l = floor-word m (omega (arith, limit-small m fit)) us woke woke-words woke-ranged.range l

      count-later : (c : Cycle) → floor_of m woke ≡ At c → count_at m.t (key_of loop.cycle) turn < count_at m.t (key_of c) 0
      unfolding woke
      count-later c g =
          let (k, l, e) = floor_of-attained m woke c g in
          count_at-later m.t turn (sound.later h k c e) sound.delta sound.turn

      pub loop-later : least_word m.t us < limit_of m → count_at m.t now turn < count_at m.t (least_word m.t us) 0
      loop-later l = let (c, g, e, s, t) = next-cycle l in rw (loop.key, ← e) (count-later c g)

      pub loop-begun : (rs : List ℕ) → length us ≡ 32 → least_word m.t us < limit_of m → Loop m budget (locals x.shared.variables us x.segments (replicate 32 false) rs x.n) (least_word m.t us) 0
      unfolding woke
      loop-begun rs size l =
          let (c, g, e, s, b) = next-cycle l in
          record {
            threads = woke;
            cycle = c;
            events = [];
            key = sym e;
            words = woke-words;
            segments = woke-segments;
            tells = tells_none;
            marks_size = refl;
            words_size = size;
            segments_size = loop.segments_size;
            stands =
                closed-stands (place_of x.shared.variables woke c 0 [] x.n)
                (closed_on-as m here ∙ begun-at m (floor_of m woke) c _ g b)
                (count-later c g);
          }

      -- no thread is ready up to the horizon
      pub loop-rest : limit_of m ≤ least_word m.t us → answer x.shared.variables (threads_to us x.segments m.t) x.n false ≡ answer_of m budget
      unfolding woke
      loop-rest l =
          let u : T (not (is_bound_up_to_horizon m (floor_of m woke))) = floor-late m (omega (arith, limit-small m fit)) us woke woke-words woke-ranged.range l in
          let q = place_of x.shared.variables woke loop.cycle turn [] x.n in
          let r : some_ready m woke ≡ false = some_ready-rest m woke u in
          let e : stepped m here ≡ q = stepped-close m here h ∙ (closed_on-as m here ∙ begun-rest m (floor_of m woke) q u) in
          let ts : threads_to us x.segments m.t ≡ woke =
          threads_to-as us x.segments m.t woke (model_fault-counts m fit).threads (woken-length loop.events loop.cycle loop.threads ∙ sound.size) woke-words woke-segments woke-ranged in
          rw ts (reported-as m q false r ∙ ap (reported m) (rest-same q e (is_done-rest m q h refl r)))
        where
          rest-same : (q : Place) → stepped m here ≡ q → T (is_done m q) → q ≡ run_for m budget (last_step m) (start_of m)
          rest-same q e t =
              let room : count_at m.t (key_of loop.cycle) turn < last_step m = rw loop.key at loop-room in
              let left = loop.stands.left in
              let s : loop.stands.steps ≡ suc (loop.stands.steps - 1) = omega arith in
              sym (run_for-done m q budget (loop.stands.steps - 1) t) ∙
              (sym (stands-steps m budget loop.stands.steps (loop.stands.steps - 1) here q s (is_out-closed m budget here h) e) ∙ loop.stands.same)

-- for the code: the measure falls
pub falls-later : (l a b : ℕ) → a < b → a < l → l - b < l - a
falls-later l a b h k = omega arith
