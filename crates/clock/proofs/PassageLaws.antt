-- The passage over a wait, opened: one of three cases, and a timed wait has at least 1 unit.
use Rattle.std.proofs.Common.{◌≡◌, ℕ, ◌≤◌, sym, refl, ◌∙◌, arith, eq-eqb, ne_eqb}
use native.Mathlib.Decide.{ℕ_discrete}
use Rattle.clock.specs.declared.Delay.{Delay}
use Rattle.clock.specs.declared.Wait.{Wait}
use Rattle.clock.specs.declared.Wait.TheVariants.{Event, Time}
use Rattle.clock.specs.declared.Passage.TheVariants.{DeltaNotification, ZeroWait, TimedWait}
use Rattle.clock.specs.Passage.{passage_of}

pub passage-event : passage_of Event ≡ DeltaNotification
unfolding passage_of
passage-event = refl

pub passage-none : (k : Delay) → k.0 ≡ 0 → passage_of (Time k) ≡ ZeroWait
unfolding passage_of
passage-none k e = rw (eq-eqb k.0 0 e) refl

pub passage-units : (k : Delay) → 1 ≤ k.0 → passage_of (Time k) ≡ TimedWait k
unfolding passage_of
passage-units k h = rw (ne_eqb k.0 0 (λ e. omega arith)) refl

-- the case of a wait
pub data Passing (w : Wait) : Type 0 where
  notified : passage_of w ≡ DeltaNotification → Passing w
  instant : passage_of w ≡ ZeroWait → Passing w
  timed : (k : Delay) → 1 ≤ k.0 → passage_of w ≡ TimedWait k → Passing w

pub passing : (w : Wait) → Passing w
passing Event = notified passage-event
passing (Time k) = go (ℕ_discrete k.0 0)
  where
    go : Dec (k.0 ≡ 0) → Passing (Time k)
    go (yes e) = instant (passage-none k e)
    go (no h) = timed k (omega arith) (passage-units k (omega arith))

notification-not-timed : {k : Delay} → DeltaNotification ≡ TimedWait k → ⊥
notification-not-timed e = let z : ◌≡◌ {A = ℕ} 0 1 = cc in omega arith

zero-not-timed : {k : Delay} → ZeroWait ≡ TimedWait k → ⊥
zero-not-timed e = let z : ◌≡◌ {A = ℕ} 0 1 = cc in omega arith

timed-same : {j k : Delay} → TimedWait j ≡ TimedWait k → j ≡ k
timed-same e = cc

-- "if k is 1 or more"
pub timed-units : (w : Wait) (k : Delay) → passage_of w ≡ TimedWait k → 1 ≤ k.0
timed-units w k e = go (passing w)
  where
    go : Passing w → 1 ≤ k.0
    go (notified f) = absurd (notification-not-timed (sym f ∙ e))
    go (instant f) = absurd (zero-not-timed (sym f ∙ e))
    go (timed j h f) = rw (← timed-same (sym f ∙ e)) h
