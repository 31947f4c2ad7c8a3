-- What a segment leaves: the events in their places, the next segment, and the thread.
--     held_events-none, held_events-more     no event; what one more operation notifies
--     next_of-untested, next_of-below, next_of-above     the next segment
--     next_of-either     it is A or B
--     closed_at-end, closed_at-time, closed_at-event     how a segment closes, closer by closer
--     closed_at-cycle     the time of what it leaves is at most its delay on
--     held_thread-small, closed_at-small     a thread whose time is below 2 ^ 64 is held as it is
--     closed-end, closed-time, closed-event, effect-held     for the code: the same, as its words hold it
use Rattle.std.proofs.Common.{◌≡◌, ℕ, suc, ◌+◌, ◌-◌, ◌%◌, ◌^◌, ◌<◌, ◌≤◌, eqb, ltb, ◌⊎◌, List, [], ◌∷◌, ◌++◌, length, get_or, replicate, refl, ap, inl, inr, append-nil, mod-eq_of_lt, arith, length-append, le-ltb, lt-ltb, eq-eqb, ne_eqb}
use lib.Seq.{set-append_seam, append_snoc}
use Rattle.base.proofs.BoolLaws.{cond-case}
use Rattle.clock.specs.declared.Cycle.{Cycle}
use Rattle.clock.specs.declared.Delay.{Delay}
use Rattle.clock.specs.declared.Wait.TheVariants as wait
use Rattle.clock.specs.declared.Step.{Step}
use Rattle.clock.specs.declared.Step.TheVariants as step
use Rattle.clock.specs.Wait.{wait_ends, held_step}
use Rattle.clock.proofs.WaitLaws.{wait_ends-time, wait_ends-overrun}
use Rattle.model.specs.declared.Op.{Op}
use Rattle.model.specs.declared.Op.TheVariants.{Set, Add, Copy, AddVariable, SubVariable, Notify}
use Rattle.model.specs.declared.Next.{Next}
use Rattle.model.specs.declared.Closer.{Closer}
use Rattle.model.specs.declared.Closer.TheVariants.{End, Time, Event}
use Rattle.model.specs.declared.Events.{Events}
use Rattle.model.specs.declared.Segment.{Segment}
use Rattle.model.specs.declared.Variables.{Variables}
use Rattle.model.specs.declared.State.{State}
use Rattle.model.specs.declared.State.TheVariants.{Ended, Overrun, Ready, Waiting, Running}
use Rattle.model.specs.declared.Thread.{Thread}
use Rattle.model.specs.Values.{body_of}
use Rattle.model.specs.Statement.{execute, notified_by_op, notified_by}
use Rattle.model.specs.Record.{cycle_of, state_after}
use Rattle.model.specs.Effect.{next_of, closed_at, held_state, held_thread, held_events, held_effect, effect_in, with_op}

pub held_events-none : record { n = 0; at = replicate 32 0 } ≡ held_events []
unfolding held_events
held_events-none = refl

pub held_events-count : (l : List ℕ) → (held_events l).n ≡ length l
unfolding held_events
held_events-count l = refl

-- k + 1 places are left, and the event takes the first of them
held_events-notify : (l : List ℕ) (w k : ℕ) → 32 - length l ≡ suc k → with_op (held_events l) (Notify w) ≡ held_events (l ++ (w ∷ []))
unfolding held_events
held_events-notify l w k e =
    let left : 32 - length (l ++ (w ∷ [])) ≡ k = simp length-append (omega arith) in
    rw (e, set-append_seam l 0 (replicate k 0) w, left, length-append l, append_snoc) refl

pub held_events-more : (l : List ℕ) (o : Op) → length l < 32 → with_op (held_events l) o ≡ held_events (l ++ notified_by_op o [])
held_events-more l (Set a b) h = rw append-nil refl
held_events-more l (Add a b) h = rw append-nil refl
held_events-more l (Copy a b) h = rw append-nil refl
held_events-more l (AddVariable a b) h = rw append-nil refl
held_events-more l (SubVariable a b) h = rw append-nil refl
held_events-more l (Notify w) h = held_events-notify l w (31 - length l) (omega arith)

module _ (x : Next) (v : List ℕ) where
  pub next_of-untested : x.test ≡ 255 → x.a ≡ next_of x v
  unfolding next_of
  next_of-untested h = rw (eq-eqb x.test 255 h) refl

  pub next_of-below : (x.test ≡ 255 → ⊥) → get_or v x.test 0 < x.limit → x.a ≡ next_of x v
  unfolding next_of
  next_of-below h k = rw (ne_eqb x.test 255 h, lt-ltb (get_or v x.test 0) x.limit k) refl

  pub next_of-above : (x.test ≡ 255 → ⊥) → x.limit ≤ get_or v x.test 0 → x.b ≡ next_of x v
  unfolding next_of
  next_of-above h k = rw (ne_eqb x.test 255 h, le-ltb (get_or v x.test 0) x.limit k) refl

pub next_of-either : (x : Next) (v : List ℕ) → (next_of x v ≡ x.a) ⊎ (next_of x v ≡ x.b)
unfolding next_of
next_of-either x v = cond-case (λ (n : ℕ). (n ≡ x.a) ⊎ (n ≡ x.b)) (eqb x.test 255) (λ t. inl refl) (λ t. cond-case (λ (n : ℕ). (n ≡ x.a) ⊎ (n ≡ x.b)) (ltb (get_or v x.test 0) x.limit) (λ u. inl refl) (λ u. inr refl))

-- the units that a closer waits for
abbrev pub delay_of : Closer → ℕ
delay_of End = 0
delay_of (Time k x) = k.0
delay_of (Event e x) = 0

held_state-small : (s : ℕ) (z : State) → (cycle_of z).time.0 < 2 ^ 64 → held_thread (record { segment = s; state = z }) ≡ record { segment = s; state = z }
unfolding held_thread
held_state-small s (Ended c) h = refl
held_state-small s (Overrun c) h = refl
held_state-small s (Ready c) h = let e : c.time.0 % 2 ^ 64 ≡ c.time.0 = mod-eq_of_lt h in rw e refl
held_state-small s (Waiting e c) h = refl
held_state-small s (Running c) h = refl

pub held_thread-small : (t : Thread) → (cycle_of t.state).time.0 < 2 ^ 64 → held_thread t ≡ t
held_thread-small t h = held_state-small t.segment t.state h

module _ (s : ℕ) (c : Cycle) (v : List ℕ) where
  pub closed_at-end : closed_at s End c v ≡ record { segment = s; state = Ended c }
  unfolding closed_at
  closed_at-end = refl

  pub closed_at-time : (k : Delay) (x : Next) → closed_at s (Time k x) c v ≡ record { segment = next_of x v; state = state_after (wait_ends (wait.Time k) c) }
  unfolding closed_at
  closed_at-time k x = refl

  pub closed_at-event : (e : ℕ) (x : Next) → closed_at s (Event e x) c v ≡ record { segment = next_of x v; state = Waiting e c }
  unfolding closed_at
  closed_at-event e x = refl

-- a wait leaves its thread at most its delay on
waited : (k : Delay) (c : Cycle) → (cycle_of (state_after (wait_ends (wait.Time k) c))).time.0 ≤ c.time.0 + k.0
waited k c = go (wait_ends (wait.Time k) c) refl
  where
    go : (z : Step) → wait_ends (wait.Time k) c ≡ z → (cycle_of (state_after z)).time.0 ≤ c.time.0 + k.0
    go (step.Ready d) e = wait_ends-time k c e
    go (step.Overrun d) e = let same = ap (λ (x : Cycle). x.time.0) (wait_ends-overrun (wait.Time k) c e) in omega arith

pub closed_at-cycle : (s : ℕ) (z : Closer) (c : Cycle) (v : List ℕ) → (cycle_of (closed_at s z c v).state).time.0 ≤ c.time.0 + delay_of z
unfolding closed_at
closed_at-cycle s End c v = omega arith
closed_at-cycle s (Time k x) c v = waited k c
closed_at-cycle s (Event e x) c v = omega arith

pub closed_at-small : (s : ℕ) (z : Closer) (c : Cycle) (v : List ℕ) → c.time.0 < 2 ^ 63 → delay_of z < 2 ^ 32 → held_thread (closed_at s z c v) ≡ closed_at s z c v
closed_at-small s z c v h d = held_thread-small (closed_at s z c v) (omega (arith, closed_at-cycle s z c v))

state_after-held : (z : Step) → state_after (held_step z) ≡ held_state (state_after z)
unfolding held_step
state_after-held (step.Ready c) = refl
state_after-held (step.Overrun c) = refl

module _ (s : ℕ) (z : Closer) (c : Cycle) (v : List ℕ) where
  pub closed-end : z ≡ End → record { segment = s; state = Ended c } ≡ held_thread (closed_at s z c v)
  unfolding closed_at held_thread
  closed-end e = rw e refl

  pub closed-time : (k : Delay) (x : Next) → z ≡ Time k x → record { segment = next_of x v; state = state_after (held_step (wait_ends (wait.Time k) c)) } ≡ held_thread (closed_at s z c v)
  unfolding closed_at held_thread
  closed-time k x e = rw (e, state_after-held (wait_ends (wait.Time k) c)) refl

  pub closed-event : (w : ℕ) (x : Next) → z ≡ Event w x → record { segment = next_of x v; state = Waiting w c } ≡ held_thread (closed_at s z c v)
  unfolding closed_at held_thread
  closed-event w x e = rw e refl

-- for the code: the three parts put together
pub effect-held : (g : Segment) (s : ℕ) (c : Cycle) (v : List ℕ) (w : Variables) (es : Events) (t : Thread)
    → w.at ≡ execute (body_of g) v → es ≡ held_events (notified_by (body_of g)) → t ≡ held_thread (closed_at s g.closer c w.at)
    → record { variables = w; notified = es; thread = t } ≡ held_effect (effect_in g s c v)
unfolding effect_in held_effect
effect-held g s c v w es t p q r =
    let e : w ≡ record { at = execute (body_of g) v } = ap (λ (a : List ℕ). record { at = a }) p in
    rw (r, q, e) refl
