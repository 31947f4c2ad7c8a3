-- Where a wait ends, by the three cases of its passage: `delta-notification`, `zero-wait`, `timed-wait`; that this is what it
-- was before there were cases; and that it agrees with `advance_of`.
use Rattle.std.proofs.Common.{◌≡◌, ℕ, zero, suc, ◌+◌, ◌%◌, ◌^◌, ◌<◌, ◌≤◌, cond, eqb, sym, refl, ap, ◌∙◌, subst, mod-eq_of_lt, arith, le-ltb, lt-ltb, ne_eqb}
use native.Mathlib.Decide.{dec_lt, ℕ_discrete}
use Rattle.clock.specs.declared.Cycle.{Cycle}
use Rattle.clock.specs.declared.Delay.{Delay}
use Rattle.clock.specs.declared.Wait.{Wait}
use Rattle.clock.specs.declared.Wait.TheVariants.{Event, Time}
use Rattle.clock.specs.declared.Passage.TheVariants.{DeltaNotification, ZeroWait, TimedWait}
use Rattle.clock.specs.declared.Step.{Step}
use Rattle.clock.specs.declared.Step.TheVariants.{Ready, Overrun}
use Rattle.clock.specs.declared.Bound.TheVariants.{At}
use Rattle.clock.specs.Cycle.{cycle_at}
use Rattle.clock.specs.Order.{Before, sooner, same_time}
use Rattle.clock.specs.Passage.{passage_of}
use Rattle.clock.specs.Wait.{last_delta, next_delta, step_over, wait_ends, held_step}
use Rattle.clock.specs.Advance.{◌⊕◌, one_delta, advance_of}
use Rattle.clock.proofs.OrderLaws.{cycle-path}
use Rattle.clock.proofs.PassageLaws.{passage-event, passage-none, passage-units, Passing, notified, instant, timed, passing, timed-units}
use Rattle.clock.proofs.AdvanceLaws.{⊕-one_delta, advance-delta-notification, advance-zero-wait, sum-timed-wait}

-- what a step's words hold: a ready time below 2 ^ 64
abbrev pub SmallStep : Step → Type 0
SmallStep (Ready c) = c.time.0 < 2 ^ 64
SmallStep (Overrun c) = Unit {0}

pub held_step-small : (s : Step) → SmallStep s → held_step s ≡ s
unfolding held_step
held_step-small (Ready c) h = ap Ready (cycle-path (mod-eq_of_lt h) refl)
held_step-small (Overrun c) h = refl

pub Ready-same : {c d : Cycle} → Ready c ≡ Ready d → c ≡ d
Ready-same e = cc

pub Overrun-same : {c d : Cycle} → Overrun c ≡ Overrun d → c ≡ d
Overrun-same e = cc

pub Ready-not-Overrun : {c d : Cycle} → Ready c ≡ Overrun d → ⊥
Ready-not-Overrun e = let z : ◌≡◌ {A = ℕ} 0 1 = cc in omega arith

-- the definitions opened

pub next_delta-ready : (c : Cycle) → c.delta.0 < last_delta → next_delta c ≡ Ready (cycle_at c.time.0 (c.delta.0 + 1))
unfolding next_delta
next_delta-ready c h = rw (lt-ltb c.delta.0 last_delta h) refl

pub next_delta-overrun : (c : Cycle) → last_delta ≤ c.delta.0 → next_delta c ≡ Overrun c
unfolding next_delta
next_delta-overrun c h = rw (le-ltb c.delta.0 last_delta h) refl

-- The three cases. IEEE 1666-2011, 4.2.1, has two phases that make a waiting process runnable.

-- a step by a delta: ready in the next, or overrun in this one where the next would be 1,024
pub record NextDelta (c : Cycle) (s : Step) : Type 0 where
  pub ready : c.delta.0 < last_delta → s ≡ Ready (cycle_at c.time.0 (c.delta.0 + 1))
  pub overrun : last_delta ≤ c.delta.0 → s ≡ Overrun c

-- a step by k units of time, at least 1: ready then, its delta counted from 0 again, and overrun nowhere
pub record LaterTime (k : Delay) (c : Cycle) (s : Step) : Type 0 where
  pub units : 1 ≤ k.0
  pub ready : s ≡ Ready (cycle_at (c.time.0 + k.0) 0)
  pub not_overrun : (d : Cycle) → s ≡ Overrun d → ⊥

next_delta-is : (c : Cycle) → NextDelta c (next_delta c)
next_delta-is c = record { ready = next_delta-ready c; overrun = next_delta-overrun c }

-- two steps by a delta from one cycle
pub next_delta-same : {c : Cycle} {s t : Step} → NextDelta c s → NextDelta c t → s ≡ t
next_delta-same {c} {s} {t} x y = go (dec_lt c.delta.0 last_delta)
  where
    go : Dec (c.delta.0 < last_delta) → s ≡ t
    go (yes h) = x.ready h ∙ sym (y.ready h)
    go (no h) = let k : last_delta ≤ c.delta.0 = omega arith in x.overrun k ∙ sym (y.overrun k)

-- Delta notification phase: when a cycle's processes have run, those that wait for an event notified in it are made
-- runnable, in the next delta of the same time.
pub delta-notification : (w : Wait) → passage_of w ≡ DeltaNotification → (c : Cycle) → NextDelta c (wait_ends w c)
unfolding wait_ends step_over
delta-notification w e c = rw e (next_delta-is c)

-- Delta notification phase: a wait for zero time times out there too, so its process is woken in the next delta of the same
-- time.
pub zero-wait : (w : Wait) → passage_of w ≡ ZeroWait → (c : Cycle) → NextDelta c (wait_ends w c)
unfolding wait_ends step_over
zero-wait w e c = rw e (next_delta-is c)

-- Timed notification phase: when no process is runnable, time advances to the earliest time-out, and who waits for that time is
-- made runnable; delta is counted from 0 again.
pub timed-wait : (w : Wait) (k : Delay) → passage_of w ≡ TimedWait k → (c : Cycle) → LaterTime k c (wait_ends w c)
unfolding wait_ends step_over
timed-wait w k e c =
    rw e (record { units = timed-units w k e; ready = refl; not_overrun = λ d. Ready-not-Overrun })

-- the former formula: a wait for time by its units
abbrev pub after_units : ℕ → Cycle → Step
after_units zero c = next_delta c
after_units (suc k) c = Ready (cycle_at (c.time.0 + suc k) 0)

abbrev pub formerly : Wait → Cycle → Step
formerly Event c = next_delta c
formerly (Time k) c = after_units k.0 c

-- "the same cycle for the same inputs, overrun included"
pub wait_ends-as-before : (w : Wait) (c : Cycle) → wait_ends w c ≡ formerly w c
unfolding wait_ends step_over passage_of
wait_ends-as-before Event c = refl
wait_ends-as-before (Time k) c = go k.0
  where
    go : (n : ℕ) → step_over (cond (eqb n 0) ZeroWait (TimedWait (record { 0 = n }))) c ≡ after_units n c
    go zero = refl
    go (suc n) = rw (ne_eqb (suc n) 0 (λ e. omega arith)) refl

-- for the code: each case in words
module _ (c : Cycle) where
  event : NextDelta c (wait_ends Event c)
  event = delta-notification Event passage-event c

  pub event-ready : c.delta.0 < last_delta → Ready (cycle_at c.time.0 (c.delta.0 + 1)) ≡ wait_ends Event c
  event-ready h = sym (event.ready h)

  pub event-overrun : last_delta ≤ c.delta.0 → Overrun c ≡ wait_ends Event c
  event-overrun h = sym (event.overrun h)

  -- the next delta is in the same time
  held_step-event : c.time.0 < 2 ^ 64 → wait_ends Event c ≡ held_step (wait_ends Event c)
  held_step-event small = sym (held_step-small (wait_ends Event c) (go (dec_lt c.delta.0 last_delta)))
    where
      go : Dec (c.delta.0 < last_delta) → SmallStep (wait_ends Event c)
      go (yes h) = rw (← event-ready h) small
      go (no h) = rw (← event-overrun (omega arith)) tt

  pub over-notification : c.time.0 < 2 ^ 64 → wait_ends Event c ≡ held_step (step_over DeltaNotification c)
  unfolding wait_ends passage_of
  over-notification small = held_step-event small

  pub over_zero : c.time.0 < 2 ^ 64 → wait_ends Event c ≡ held_step (step_over ZeroWait c)
  unfolding wait_ends passage_of step_over
  over_zero small = held_step-event small

  pub over-units : (k : Delay) → Ready (cycle_at ((c.time.0 + k.0) % 2 ^ 64) 0) ≡ held_step (step_over (TimedWait k) c)
  unfolding held_step step_over
  over-units k = refl

pub wait-over : (w : Wait) (c : Cycle) → held_step (step_over (passage_of w) c) ≡ held_step (wait_ends w c)
unfolding wait_ends
wait-over w c = refl

-- the three ways in which a wait ends, with its passage
pub data Ending (w : Wait) (c : Cycle) : Type 0 where
  next : advance_of w ≡ one_delta → c.delta.0 < last_delta → wait_ends w c ≡ Ready (cycle_at c.time.0 (c.delta.0 + 1)) → Ending w c
  last : advance_of w ≡ one_delta → last_delta ≤ c.delta.0 → wait_ends w c ≡ Overrun c → Ending w c
  units : (k : Delay) → passage_of w ≡ TimedWait k → wait_ends w c ≡ Ready (cycle_at (c.time.0 + k.0) 0) → Ending w c

-- an ending by a delta
ending-delta : (w : Wait) (c : Cycle) → advance_of w ≡ one_delta → NextDelta c (wait_ends w c) → Ending w c
ending-delta w c a s = go (dec_lt c.delta.0 last_delta)
  where
    go : Dec (c.delta.0 < last_delta) → Ending w c
    go (yes h) = next a h (s.ready h)
    go (no h) = let k : last_delta ≤ c.delta.0 = omega arith in last a k (s.overrun k)

pub wait_ends-ending : (w : Wait) (c : Cycle) → Ending w c
wait_ends-ending w c = go (passing w)
  where
    go : Passing w → Ending w c
    go (notified e) = ending-delta w c (advance-delta-notification w e) (delta-notification w e c)
    go (instant e) = ending-delta w c (advance-zero-wait w e) (zero-wait w e c)
    go (timed k h e) = units k e (timed-wait w k e c).ready

-- a wait that ends leaves its thread later
pub wait_ends-later : (w : Wait) (c : Cycle) {d : Cycle} → wait_ends w c ≡ Ready d → Before c d
wait_ends-later w c {d} e = go (wait_ends-ending w c)
  where
    go : Ending w c → Before c d
    go (next a h f) = subst (λ (x : Cycle). Before c x) (Ready-same (sym f ∙ e)) (same_time refl (omega arith))
    go (last a h f) = absurd (Ready-not-Overrun (sym e ∙ f))
    go (units k p f) = let u = timed-units w k p in subst (λ (x : Cycle). Before c x) (Ready-same (sym f ∙ e)) (sooner (omega arith))

-- "A thread whose next delta would be 1,024 is overrun, and keeps the cycle"
pub wait_ends-overrun : (w : Wait) (c : Cycle) {d : Cycle} → wait_ends w c ≡ Overrun d → d ≡ c
wait_ends-overrun w c {d} e = go (wait_ends-ending w c)
  where
    go : Ending w c → d ≡ c
    go (next a h f) = absurd (Ready-not-Overrun (sym f ∙ e))
    go (last a h f) = Overrun-same (sym e ∙ f)
    go (units k p f) = absurd (Ready-not-Overrun (sym f ∙ e))

-- only a wait of one delta overruns, at the last delta or above
pub wait_ends-last : (w : Wait) (c : Cycle) {d : Cycle} → wait_ends w c ≡ Overrun d → (advance_of w ≡ one_delta) × (last_delta ≤ c.delta.0)
wait_ends-last w c {d} e = go (wait_ends-ending w c)
  where
    go : Ending w c → (advance_of w ≡ one_delta) × (last_delta ≤ c.delta.0)
    go (next a h f) = absurd (Ready-not-Overrun (sym f ∙ e))
    go (last a h f) = (a, h)
    go (units k p f) = absurd (Ready-not-Overrun (sym f ∙ e))

-- a wait ends where its advance leads
pub wait_ends-advance : (w : Wait) (c : Cycle) {d : Cycle} → wait_ends w c ≡ Ready d → At c ⊕ advance_of w ≡ At d
wait_ends-advance w c {d} e = go (wait_ends-ending w c)
  where
    go : Ending w c → At c ⊕ advance_of w ≡ At d
    go (next a h f) = rw a (⊕-one_delta c ∙ ap At (Ready-same (sym f ∙ e)))
    go (last a h f) = absurd (Ready-not-Overrun (sym e ∙ f))
    go (units k p f) = sum-timed-wait w k p c ∙ ap At (Ready-same (sym f ∙ e))

pub wait_ends-delta : (w : Wait) (c : Cycle) {d : Cycle} → wait_ends w c ≡ Ready d → c.delta.0 ≤ last_delta → d.delta.0 ≤ last_delta
wait_ends-delta w c {d} e m = go (wait_ends-ending w c)
  where
    go : Ending w c → d.delta.0 ≤ last_delta
    go (next a h f) = subst (λ (x : Cycle). x.delta.0 ≤ last_delta) (Ready-same (sym f ∙ e)) (omega arith)
    go (last a h f) = absurd (Ready-not-Overrun (sym e ∙ f))
    go (units k p f) = subst (λ (x : Cycle). x.delta.0 ≤ last_delta) (Ready-same (sym f ∙ e)) (omega arith)

-- the next delta is in the same time
next_delta-time : {c d : Cycle} {s : Step} → NextDelta c s → s ≡ Ready d → d.time.0 ≡ c.time.0
next_delta-time {c} {d} {s} n e = go (dec_lt c.delta.0 last_delta)
  where
    go : Dec (c.delta.0 < last_delta) → d.time.0 ≡ c.time.0
    go (yes h) = ap (λ (x : Cycle). x.time.0) (sym (Ready-same (sym (n.ready h) ∙ e)))
    go (no h) = absurd (Ready-not-Overrun (sym e ∙ n.overrun (omega arith)))

pub wait_ends-time : (k : Delay) (c : Cycle) {d : Cycle} → wait_ends (Time k) c ≡ Ready d → d.time.0 ≤ c.time.0 + k.0
wait_ends-time k c {d} e = go (ℕ_discrete k.0 0)
  where
    go : Dec (k.0 ≡ 0) → d.time.0 ≤ c.time.0 + k.0
    go (no h) =
        let s = timed-wait (Time k) k (passage-units k (omega arith)) c in
        subst (λ (x : Cycle). x.time.0 ≤ c.time.0 + k.0) (Ready-same (sym s.ready ∙ e)) (omega arith)
    go (yes h) = let same = next_delta-time (zero-wait (Time k) (passage-none k h) c) e in omega arith

pub wait_ends-event-time : (c : Cycle) {d : Cycle} → wait_ends Event c ≡ Ready d → d.time.0 ≡ c.time.0
wait_ends-event-time c e = next_delta-time (delta-notification Event passage-event c) e
