-- A call as the code answers it, exit by exit: 15, the numbers, what a segment does, and what a call leaves.
use Prim.Native.Nat.{ℕ, ◌<◌, ◌≤◌}
use mathlib.Core.Path.{◌≡◌, refl, ap, ap₂, sym, ◌∙◌, subst}
use mathlib.Core.Bool.{Bool, true, false, cond, ◌&&◌, ◌||◌}
use mathlib.Core.List.{List}
use native.Mathlib.Omega.{arith}
use native.Mathlib.Decide.{dec_lt}
use lib.ListN.{get_or, set, take}
use lib.Seq.{take-append_seam}
use borrow.Author.Tests.{lt-ltb, le-ltb, ne_eqb}
use Rattle.clock.specs.declared.Cycle.{Cycle}
use Rattle.clock.specs.declared.Bound.{Bound}
use Rattle.clock.specs.declared.Bound.TheVariants.{At}
use Rattle.clock.specs.Cycle.{stamp_at}
use Rattle.clock.specs.Advance.{is_bound_before}
use Rattle.model.specs.declared.Segment.{Segment}
use Rattle.model.specs.declared.Start.{Start}
use Rattle.model.specs.declared.State.{State}
use Rattle.model.specs.declared.State.TheVariants.{Ended, Overrun, Ready, Waiting, Running}
use Rattle.model.specs.declared.Thread.{Thread}
use Rattle.model.specs.declared.Threads.{Threads}
use Rattle.model.specs.declared.Events.{Events}
use Rattle.model.specs.declared.Ran.{Ran}
use Rattle.model.specs.Values.{body_of}
use Rattle.model.specs.Statement.{notified_by}
use Rattle.model.specs.Record.{no_thread, thread_at, ready_cycle, cycle_of, is_running}
use Rattle.model.specs.Refusal.{out_of_turn}
use Rattle.model.specs.Effect.{Effect, effect_in, held_events, held_effect}
use Rattle.model_effect.proofs.FrameLaws.{effect_in-begins}
use Rattle.plain.specs.Wake.{floor_below}
use Rattle.early.specs.declared.Notification.{Notification}
use Rattle.early.specs.declared.Site.{Site}
use Rattle.early.specs.declared.Answer.TheVariants.{Granted}
use Rattle.early.specs.declared.After.{After}
use Rattle.early.specs.declared.Call.{Call}
use Rattle.early.specs.Log.{log_of, site_of, with_pairs, places_with, drop_before}
use Rattle.early.specs.Deliver.{settled_by}
use Rattle.early.specs.Request.{is_full_by, number_ready, number_at, number_for, refused_with, answered_by}
use Rattle.early.specs.Call.{held_at, with_held, running_from, finish_number}
use Rattle.early_ports.specs.Cross.{ports_in, segment_with}
use Rattle.early_laws.proofs.LogLaws.{log_of-site_of, site_of-variables}
use Rattle.early_laws.proofs.OnceLaws.{places_with-begins}
use Rattle.early_laws.proofs.NumberLaws.{ready_cycle→cycle, is_full_by-none, number_for→passed}
use Rattle.early_limits.specs.Limit.{at_most}
use Rattle.early_limits.specs.Ahead.{hazard_at}
use Rattle.early_limits.proofs.PlaceLaws.{at_most-is}
use Rattle.early_log.specs.Noted.{noted_of}
use Rattle.early_log.proofs.NotedLaws.{noted_of-fits}
use Rattle.early_deliver.specs.declared.Outlook.{Outlook}
use Rattle.early_deliver.specs.Awake.{sooner_on, outlook_of}
use Rattle.early_answer.specs.After.{after_of}
use Rattle.early_answer.specs.Answered.{thread_of, is_grant, is_finish, hazard_on, number_on, call_number_on, effect_from, grant_on, stored_in, effect_on, run_on, emptied_by, done_on, called_on, HasRoom}

pub refused-made : (n : ℕ) (site : Site) (ts : Threads) → record { answer = (refused_with n site ts.at).answer; site = site; threads = ts } ≡ after_of (refused_with n site ts.at)
unfolding after_of
refused-made n site ts = refl

-- the floor of no more than 32 threads
pub floor-few : (t : ℕ) (ts : List Thread) {b : Bound} → t ≤ 32 → b ≡ floor_below (at_most 32 t) ts → b ≡ floor_below t ts
floor-few t ts few e = e ∙ ap (λ (n : ℕ). floor_below n ts) (at_most-is 32 t few)

-- 15, by the places
module _ (floor : Bound) (c : Cycle) (n : ℕ) where
  some : (b : Bool) → b ≡ ((b && true) || false)
  some true = refl
  some false = refl

  pub full-early : (b : Bool) → b ≡ is_bound_before floor (At c) → 96 < n → n ≤ 128 → b ≡ is_full_by floor n c
  full-early b e h k = rw (lt-ltb 96 n h, le-ltb 128 n k, ← e) (some b)

-- the places of a thread that is named twice
pub places_same : (t : ℕ) (l : List Notification) (ts : List Thread) (es : List ℕ) (n j k : ℕ) → j ≡ k → (j < t → n ≡ places_with l (cycle_of (thread_at ts j).state) es) →
    k < t → n ≡ places_with l (cycle_of (thread_at ts k).state) es
places_same t l ts es n j k e h = subst (λ (i : ℕ). i < t → n ≡ places_with l (cycle_of (thread_at ts i).state) es) e h

-- and of a segment that is
pub room-same : (l : List Notification) (ts : List Thread) (g h : Segment) (j k : ℕ) → g ≡ h → j ≡ k → places_with l (cycle_of (thread_at ts k).state) (notified_by (body_of h)) ≤ 128 →
    places_with l (cycle_of (thread_at ts j).state) (notified_by (body_of g)) ≤ 128
room-same l ts g h j k e f p = rw (e, f) p

-- the number
module _ (is_hazard : Cycle → Bool) (floor : Bound) (es : List ℕ) (l : List Notification) where
  module _ (c : Cycle) where
    pub ready-hazard : is_hazard c ≡ true → 14 ≡ number_ready is_hazard floor es l c
    unfolding number_ready
    ready-hazard e = rw e refl

    pub ready-full : is_hazard c ≡ false → is_full_by floor (places_with l c es) c ≡ true → 15 ≡ number_ready is_hazard floor es l c
    unfolding number_ready
    ready-full e f = rw (e, f) refl

    pub ready-free : is_hazard c ≡ false → is_full_by floor (places_with l c es) c ≡ false → 0 ≡ number_ready is_hazard floor es l c
    unfolding number_ready
    ready-free e f = rw (e, f) refl

  module _ (t end : ℕ) (ts : List Thread) (k : ℕ) where
    pub number-thread : t ≤ k → 10 ≡ number_for t end is_hazard floor es l ts k
    unfolding number_for
    number-thread h = rw (le-ltb k t h) refl

    module _ (h : k < t) where
      pub number-unready : (s : State) → (get_or ts k no_thread).state ≡ s → ((x : Cycle) → s ≡ Ready x → ⊥) → cond (is_running s) 19 12 ≡ number_for t end is_hazard floor es l ts k
      unfolding number_for number_at thread_at
      number-unready s e o = rw (lt-ltb k t h, e) (go s o)
        where
          go : (s : State) → ((x : Cycle) → s ≡ Ready x → ⊥) → cond (is_running s) 19 12 ≡ cond (is_running s) out_of_turn (number_at end is_hazard floor es l (ready_cycle s))
          go (Ended c) o = refl
          go (Overrun c) o = refl
          go (Ready c) o = absurd (o c refl)
          go (Waiting e c) o = refl
          go (Running c) o = refl

      module _ (c : Cycle) (ready : (get_or ts k no_thread).state ≡ Ready c) where
        pub number-late : end ≤ c.time.0 → 13 ≡ number_for t end is_hazard floor es l ts k
        unfolding number_for number_at thread_at
        number-late p = rw (lt-ltb k t h, ready, le-ltb c.time.0 end p) refl

        pub number-ready : c.time.0 < end → number_ready is_hazard floor es l c ≡ number_for t end is_hazard floor es l ts k
        unfolding number_for number_at thread_at
        number-ready p = rw (lt-ltb k t h, ready, lt-ltb c.time.0 end p) refl

-- the number of a finish
module _ (t : ℕ) (ts : List Thread) (k : ℕ) where
  pub finish-thread : t ≤ k → 10 ≡ finish_number t ts k
  unfolding finish_number
  finish-thread h = rw (le-ltb k t h) refl

  module _ (h : k < t) where
    pub finish-other : is_running (get_or ts k no_thread).state ≡ false → 19 ≡ finish_number t ts k
    unfolding finish_number thread_at
    finish-other e = rw (lt-ltb k t h, e) refl

    pub finish-running : is_running (get_or ts k no_thread).state ≡ true → 0 ≡ finish_number t ts k
    unfolding finish_number thread_at
    finish-running e = rw (lt-ltb k t h, e) refl

  -- what stands where it is 0
  pub finish_number→running : finish_number t ts k ≡ 0 → (k < t) × (is_running (thread_at ts k).state ≡ true)
  unfolding finish_number
  finish_number→running e = go (dec_lt k t)
    where
      go : Dec (k < t) → (k < t) × (is_running (thread_at ts k).state ≡ true)
      go (no h) = absurd (let z : ◌≡◌ {A = ℕ} 10 0 = finish-thread (omega arith) ∙ e in omega arith)
      go (yes h) = (h, runs (is_running (thread_at ts k).state) refl)
        where
          runs : (b : Bool) → is_running (thread_at ts k).state ≡ b → b ≡ true
          runs true p = refl
          runs false p = absurd (let z : ◌≡◌ {A = ℕ} 19 0 = sym (rw (lt-ltb k t h, p) refl) ∙ e in omega arith)

-- what the code holds of the records says where a hazard stands
pub same-hazard : (n t : ℕ) (conflicts : ℕ → ℕ → ℕ → ℕ → Bool) (ws reach : List ℕ) (l : List Notification) (ts : List Thread) (k : ℕ) (c : Cycle) → t ≤ 32
    → (o : Outlook) (heard : Bool) → o ≡ outlook_of reach (at_most 32 t) l ts heard
    → hazard_at conflicts ws n t o.segments o.limits.at (stamp_at c k) ≡ hazard_on n t conflicts ws reach l ts k c
unfolding hazard_on outlook_of
same-hazard n t conflicts ws reach l ts k c few o heard seen =
    ap
    (λ (p : Outlook). hazard_at conflicts ws n t p.segments p.limits.at (stamp_at c k))
    (seen ∙ ap (λ (i : ℕ). outlook_of reach i l ts heard) (at_most-is 32 t few))

-- a grant: the pairs that fit are all logged
module _ (reach : List ℕ) (t : ℕ) (few : t ≤ 32) (site : Site) (ts : List Thread) (k : ℕ) (c : Cycle) (ran : Ran)
    (room : places_with (log_of site) c (effect_from ran).notified ≤ 128)
  where
    all-logged : (noted : Site) → noted ≡ noted_of (record { variables = ran.variables; log = site.log; count = site.count }) c (effect_from ran).notified
        → noted ≡ site_of ran.variables.at (with_pairs (log_of site) c (effect_from ran).notified)
    unfolding log_of
    all-logged noted e = e ∙ noted_of-fits (record { variables = ran.variables; log = site.log; count = site.count }) c (effect_from ran).notified room

    pub finish-made : (noted kept : Site) (us : Threads) (floor : Bound)
        → noted ≡ noted_of (record { variables = ran.variables; log = site.log; count = site.count }) c (effect_from ran).notified
        → us.at ≡ settled_by (sooner_on reach (at_most 32 t) (log_of noted)) (log_of noted) (at_most 32 t) (set ts k ran.thread) → floor ≡ floor_below (at_most 32 t) us.at
        → kept ≡ site_of noted.variables.at (drop_before floor (log_of noted))
        → record { answer = Granted (get_or ts k no_thread).segment c; site = kept; threads = us } ≡ after_of (grant_on reach t site ts k c (effect_from ran))
    unfolding after_of grant_on thread_at
    finish-made noted kept us floor p q r s =
        let v = ran.variables.at in
        let l = with_pairs (log_of site) c (effect_from ran).notified in
        let logged : log_of noted ≡ l = ap log_of (all-logged noted p) ∙ log_of-site_of v l in
        let woken = settled_by (sooner_on reach t l) l t (set ts k ran.thread) in
        let values : noted.variables.at ≡ v = ap (λ (x : Site). x.variables.at) (all-logged noted p) ∙ site_of-variables v l in
        let there : us.at ≡ woken = rw (at_most-is 32 t few, logged) at q in
        let least : floor ≡ floor_below t woken = floor-few t us.at few r ∙ ap (floor_below t) there in
        let left : kept ≡ site_of v (drop_before (floor_below t woken) l) =
        s ∙ (ap₂ (λ (u : List ℕ) (y : List Notification). site_of u (drop_before floor y)) values logged ∙ ap (λ (b : Bound). site_of v (drop_before b l)) least) in
        let e : us ≡ record { at = woken } = ap (λ (xs : List Thread). record { at = xs }) there in
        rw (e, left) refl

-- the events of a segment as its places hold them
pub held_events-taken : (es : List ℕ) → take (held_events es).n (held_events es).at ≡ es
unfolding held_events
held_events-taken es = take-append_seam es _

-- the segment as thread k runs it
pub own-segment : (starts : List Start) (k : ℕ) (g : Segment) (i : ℕ) (ps : List ℕ) (h : Segment) → i ≡ k → ps ≡ ports_in starts i → h ≡ segment_with ps g → h ≡ segment_with (ports_in starts k) g
own-segment starts k g i ps h p q e = e ∙ ap (λ (xs : List ℕ). segment_with xs g) (q ∙ ap (ports_in starts) p)

-- what a segment does: it reads what is held and stores what it writes at a finish, and both at once in a request
module _ (finishes : Bool) (g : Segment) (s : ℕ) (c : Cycle) (v u read : List ℕ) (ran : Ran) (reads : read ≡ cond finishes u v) (e : ran ≡ held_effect (effect_in g s c read)) where
  pub ran-once : finishes ≡ false → effect_from ran ≡ effect_on finishes g s c v u
  unfolding effect_on
  ran-once f = rw (e, reads, f) refl

  pub ran-stored : (w : List ℕ) → finishes ≡ true → w ≡ stored_in g v ran.variables.at
      → effect_from (record { variables = record { at = w }; notified = ran.notified; thread = ran.thread }) ≡ effect_on finishes g s c v u
  unfolding effect_on
  ran-stored w f p = rw (p, e, reads, f) refl

-- it notifies no more than it lists
effect_on-room : (finishes : Bool) (g : Segment) (s : ℕ) (c : Cycle) (v u : List ℕ) (site : Site)
    → places_with (log_of site) c (notified_by (body_of g)) ≤ 128 → places_with (log_of site) c (effect_on finishes g s c v u).notified ≤ 128
unfolding effect_on held_effect
effect_on-room finishes g s c v u site room =
    let read = cond finishes u v in
    let es = (effect_in g s c read).notified in
    let (rest, whole) = effect_in-begins g s c read in
    let more = places_with-begins (log_of site) c es rest in
    rw (held_events-taken es) (omega (arith, more, ap (places_with (log_of site) c) whole, room))

module _ (finishes : Bool) (reach : List ℕ) (t : ℕ) (g : Segment) (site : Site) (ts : List Thread) (held : List ℕ) (k : ℕ) (i : ℕ) (c : Cycle) (ran : Ran) (p : i ≡ k)
    (q : c ≡ cycle_of (get_or ts i no_thread).state) (r : effect_from ran ≡ effect_on finishes g (get_or ts i no_thread).segment c site.variables.at (held_at held k))
  where
    -- what the segment notifies takes no more places than what it lists
    pub run_room : places_with (log_of site) (cycle_of (thread_at ts k).state) (notified_by (body_of g)) ≤ 128 → places_with (log_of site) c (effect_from ran).notified ≤ 128
    unfolding thread_at
    run_room room =
        let at : cycle_of (thread_at ts k).state ≡ c = sym (q ∙ ap (λ (j : ℕ). cycle_of (thread_at ts j).state) p) in
        subst (λ (x : Effect). places_with (log_of site) c x.notified ≤ 128) (sym r) (effect_on-room finishes g (get_or ts i no_thread).segment c site.variables.at (held_at held k) site (rw at at room))

    pub run-made : (a : After) → a ≡ after_of (grant_on reach t site ts k c (effect_from ran)) → a ≡ after_of (run_on finishes reach t g site ts held k)
    unfolding run_on thread_at
    run-made a s = s ∙ rw (r, q, p) refl

-- a thread that is granted is running
pub start-made : (site : Site) (ts : Threads) (k i : ℕ) (c : Cycle) → i ≡ k → c ≡ cycle_of (get_or ts.at i no_thread).state
    → record { answer = Granted (get_or ts.at i no_thread).segment c; site = site; threads = record { at = set ts.at i (record { segment = (get_or ts.at i no_thread).segment; state = Running c }) } }
    ≡ after_of (running_from site ts.at k)
unfolding after_of running_from thread_at
start-made site ts k i c p q = rw (q, p) refl

-- the number of a call
module _ (end n t : ℕ) (es : List ℕ) (conflicts : ℕ → ℕ → ℕ → ℕ → Bool) (ws reach : List ℕ) (counted l : List Notification) (ts : List Thread) (call : Call) where
  pub number-finish : is_finish call ≡ true → finish_number t ts (thread_of call) ≡ call_number_on end n t es conflicts ws reach counted l ts call
  unfolding call_number_on
  number-finish e = rw e refl

  pub number-decided : is_finish call ≡ false → number_on end n t es conflicts ws reach counted l ts (thread_of call) ≡ call_number_on end n t es conflicts ws reach counted l ts call
  unfolding call_number_on
  number-decided e = rw e refl

-- What a call leaves: g is the segment after mapping, h before it. Known says which distances it may go by.
module _ (end n t : ℕ) (g h : Segment) (conflicts : ℕ → ℕ → ℕ → ℕ → Bool) (reach : List ℕ) (counted site : Site) (ts : List Thread) (held : List ℕ) (call : Call)
    (number : ℕ) (es : Events) (listed : es ≡ held_events (notified_by (body_of h))) (mapped : notified_by (body_of g) ≡ notified_by (body_of h)) (Known : List ℕ → Type 0)
    (decided : (ws : List ℕ) → Known ws → number ≡ call_number_on end n t (take es.n es.at) conflicts ws reach (log_of counted) (log_of site) ts call)
  where
    -- what is held and returned is what the call leaves
    abbrev pub Leaves : List ℕ → After → Type 0
    Leaves after a =
        ((ws : List ℕ) → Known ws → after ≡ (called_on end n t g conflicts ws reach counted site ts held call).held)
        × ((ws : List ℕ) → Known ws → a ≡ after_of (called_on end n t g conflicts ws reach counted site ts held call).left)

    same_number : (ws : List ℕ) → Known ws → number ≡ call_number_on end n t (notified_by (body_of g)) conflicts ws reach (log_of counted) (log_of site) ts call
    same_number ws known =
        decided ws known ∙ ap (λ (xs : List ℕ). call_number_on end n t xs conflicts ws reach (log_of counted) (log_of site) ts call)
        (ap (λ (x : Events). take x.n x.at) listed ∙ (held_events-taken (notified_by (body_of h)) ∙ sym mapped))

    pub called-refused : (number ≡ 0 → ⊥) → (a : After) → a ≡ after_of (refused_with number site ts) → Leaves held a
    unfolding called_on answered_by
    called-refused other a e =
        (λ ws known. rw (← same_number ws known, ne_eqb number 0 other) refl, λ ws known. e ∙ rw (← same_number ws known, ne_eqb number 0 other) refl)

    module _ (zero : number ≡ 0) where
      called-done : (ws : List ℕ) → Known ws → called_on end n t g conflicts ws reach counted site ts held call ≡ done_on reach t g site ts held call
      unfolding called_on answered_by
      called-done ws known = rw (sym (same_number ws known) ∙ zero) refl

      module _ (k : ℕ) (same : k ≡ thread_of call) (after : List ℕ) (a : After) where
        pub called-begun : is_grant call ≡ true → after ≡ with_held held k site.variables.at → a ≡ after_of (running_from site ts k) → Leaves after a
        unfolding done_on
        called-begun e p q = (λ ws known. p ∙ rw (called-done ws known, e, same) refl, λ ws known. q ∙ rw (called-done ws known, e, same) refl)

        pub called-run : (finishes : Bool) → finishes ≡ is_finish call → is_grant call ≡ false
            → after ≡ emptied_by finishes held k → a ≡ after_of (run_on finishes reach t g site ts held k) → Leaves after a
        unfolding done_on
        called-run finishes f e p q = (λ ws known. p ∙ rw (called-done ws known, e, same, f) refl, λ ws known. q ∙ rw (called-done ws known, e, same, f) refl)

      -- what stands where it is done: the thread, and the places
      pub called-room : (ws : List ℕ) → Known ws → HasRoom t h counted site ts call
          → (thread_of call < t) × (places_with (log_of site) (cycle_of (thread_at ts (thread_of call)).state) (notified_by (body_of g)) ≤ 128)
      unfolding call_number_on number_on
      called-room ws known room = rw mapped (go (is_finish call) refl)
        where
          k : ℕ
          k = thread_of call

          xs : List ℕ
          xs = notified_by (body_of h)

          passed : number_on end n t (notified_by (body_of g)) conflicts ws reach (log_of counted) (log_of site) ts k ≡ 0 → (k < t) × (places_with (log_of site) (cycle_of (thread_at ts k).state) xs ≤ 128)
          passed e =
              let (c, p) = number_for→passed t end (hazard_on n t conflicts ws reach (log_of site) ts k) (floor_below t ts) (notified_by (body_of g)) (log_of counted) ts k e in
              let at : cycle_of (thread_at ts k).state ≡ c = ready_cycle→cycle (thread_at ts k).state c p.ready in
              let few = is_full_by-none (floor_below t ts) (places_with (log_of counted) c (notified_by (body_of g))) c p.room in
              (p.thread, rw at (omega (arith, room.counts c xs, ap (places_with (log_of counted) c) mapped, few)))

          go : (b : Bool) → is_finish call ≡ b → (k < t) × (places_with (log_of site) (cycle_of (thread_at ts k).state) xs ≤ 128)
          go true e =
              let (below, runs) = finish_number→running t ts k (number-finish end n t (notified_by (body_of g)) conflicts ws reach (log_of counted) (log_of site) ts call e ∙ (sym (same_number ws known) ∙ zero)) in
              (below, room.running e below runs)
          go false e = passed (number-decided end n t (notified_by (body_of g)) conflicts ws reach (log_of counted) (log_of site) ts call e ∙ (sym (same_number ws known) ∙ zero))
