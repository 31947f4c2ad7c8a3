-- Every comparison and limit of `specs/` at, below and above its edge: closed examples, worked out from document 01.
use Rattle.std.proofs.Common.{◌≡◌, ℕ, ◌-◌, true, false, refl, arith, lit<, lit≤}
use Rattle.clock.specs.declared.Wait.{Wait}
use Rattle.clock.specs.declared.Wait.TheVariants.{Event, Time}
use Rattle.clock.specs.declared.Passage.TheVariants.{DeltaNotification, ZeroWait, TimedWait}
use Rattle.clock.specs.declared.Step.TheVariants.{Ready, Overrun}
use Rattle.clock.specs.declared.Bound.{Bound}
use Rattle.clock.specs.declared.Bound.TheVariants.{Never, At}
use Rattle.clock.specs.Cycle.{cycle_at, stamp_at, is_before, is_same, is_stamp_before}
use Rattle.clock.specs.Order.{Before, ◌⊑◌, ◌≼◌, sooner, same_time}
use Rattle.clock.specs.Passage.{passage_of}
use Rattle.clock.specs.Wait.{next_delta, step_over, wait_ends, held_step}
use Rattle.clock.specs.Advance.{is_bound_before, least, least_below, delta_after, plus_of, ◌⊕◌, no_advance, one_delta, advance_over, advance_of}

abbrev bound_at : ℕ → ℕ → Bound
bound_at t d = At (cycle_at t d)

abbrev units_of : ℕ → Wait
units_of k = Time (record { 0 = k })

-- "A cycle is a time and a delta, compared time first."

-- equal times: the delta below, equal, above
pub is_before-tied :
    (is_before (cycle_at 5 6) (cycle_at 5 7) ≡ true) ×
    (is_before (cycle_at 5 7) (cycle_at 5 7) ≡ false) ×
    (is_before (cycle_at 5 8) (cycle_at 5 7) ≡ false)
unfolding is_before
is_before-tied = (refl, refl, refl)

-- the time below and above, the delta the other way
pub is_before-untied :
    (is_before (cycle_at 4 9) (cycle_at 5 0) ≡ true) ×
    (is_before (cycle_at 6 0) (cycle_at 5 9) ≡ false)
unfolding is_before
is_before-untied = (refl, refl)

-- equal; the delta below and above; the time below and above
pub is_same-edges :
    (is_same (cycle_at 5 7) (cycle_at 5 7) ≡ true) ×
    (is_same (cycle_at 5 6) (cycle_at 5 7) ≡ false) ×
    (is_same (cycle_at 5 8) (cycle_at 5 7) ≡ false) ×
    (is_same (cycle_at 4 7) (cycle_at 5 7) ≡ false) ×
    (is_same (cycle_at 6 7) (cycle_at 5 7) ≡ false)
unfolding is_same
is_same-edges = (refl, refl, refl, refl, refl)

-- "A stamp is a cycle and then a thread number."

-- equal cycles: the thread below, equal, above
pub is_stamp_before-tied :
    (is_stamp_before (stamp_at (cycle_at 5 7) 1) (stamp_at (cycle_at 5 7) 2) ≡ true) ×
    (is_stamp_before (stamp_at (cycle_at 5 7) 2) (stamp_at (cycle_at 5 7) 2) ≡ false) ×
    (is_stamp_before (stamp_at (cycle_at 5 7) 3) (stamp_at (cycle_at 5 7) 2) ≡ false)
unfolding is_stamp_before is_same is_before
is_stamp_before-tied = (refl, refl, refl)

-- the cycle below and above, the thread the other way
pub is_stamp_before-untied :
    (is_stamp_before (stamp_at (cycle_at 5 6) 3) (stamp_at (cycle_at 5 7) 2) ≡ true) ×
    (is_stamp_before (stamp_at (cycle_at 5 8) 1) (stamp_at (cycle_at 5 7) 2) ≡ false) ×
    (is_stamp_before (stamp_at (cycle_at 4 9) 3) (stamp_at (cycle_at 5 0) 2) ≡ true) ×
    (is_stamp_before (stamp_at (cycle_at 6 0) 1) (stamp_at (cycle_at 5 9) 2) ≡ false)
unfolding is_stamp_before is_same is_before
is_stamp_before-untied = (refl, refl, refl, refl)

-- The orders as relations, at the same places.

pub Before-below : Before (cycle_at 5 6) (cycle_at 5 7) × Before (cycle_at 4 9) (cycle_at 5 0)
Before-below = (same_time refl (lit< tt), sooner (lit< tt))

pub Before-equal : Before (cycle_at 5 7) (cycle_at 5 7) → ⊥
Before-equal (sooner p) = omega arith
Before-equal (same_time p q) = omega arith

pub Before-above : Before (cycle_at 5 8) (cycle_at 5 7) → ⊥
Before-above (sooner p) = omega arith
Before-above (same_time p q) = omega arith

pub Before-later : Before (cycle_at 6 0) (cycle_at 5 9) → ⊥
Before-later (sooner p) = omega arith
Before-later (same_time p q) = omega arith

pub ⊑-below : (cycle_at 5 6 ⊑ cycle_at 5 7) × (cycle_at 5 7 ⊑ cycle_at 5 7) × (cycle_at 4 9 ⊑ cycle_at 5 0)
⊑-below = (same_time refl (lit≤ tt), same_time refl (lit≤ tt), sooner (lit< tt))

pub ⊑-above : cycle_at 5 8 ⊑ cycle_at 5 7 → ⊥
⊑-above (sooner p) = omega arith
⊑-above (same_time p q) = omega arith

pub ⊑-later : cycle_at 6 0 ⊑ cycle_at 5 9 → ⊥
⊑-later (sooner p) = omega arith
⊑-later (same_time p q) = omega arith

-- never is after every cycle
pub ≼-never : (bound_at 5 7 ≼ Never) × (Never ≼ Never) × (Never ≼ bound_at 5 7 → ⊥)
≼-never = (tt, tt, λ h. h)

-- "(0, 1,025) is a bound less than (1, 0)"
pub ≼-uncut : bound_at 0 1025 ≼ bound_at 1 0
≼-uncut = sooner (lit< tt)

pub ≼-uncut-not : bound_at 1 0 ≼ bound_at 0 1025 → ⊥
≼-uncut-not (sooner p) = omega arith
≼-uncut-not (same_time p q) = omega arith

-- "A thread whose next delta would be 1,024 is overrun, and keeps the cycle with delta 1,023."
pub next_delta-edges :
    (next_delta (cycle_at 9 1022) ≡ Ready (cycle_at 9 1023)) ×
    (next_delta (cycle_at 9 1023) ≡ Overrun (cycle_at 9 1023)) ×
    (next_delta (cycle_at 9 1024) ≡ Overrun (cycle_at 9 1024))
unfolding next_delta
next_delta-edges = (refl, refl, refl)

-- the passage of a wait for an event, and of waits of 0, 1 and 2 units
pub passage_of-edges :
    (passage_of Event ≡ DeltaNotification) ×
    (passage_of (units_of 0) ≡ ZeroWait) ×
    (passage_of (units_of 1) ≡ TimedWait (record { 0 = 1 })) ×
    (passage_of (units_of 2) ≡ TimedWait (record { 0 = 2 }))
unfolding passage_of
passage_of-edges = (refl, refl, refl, refl)

-- "From (3, 1022): zero wait (3, 1023), notification (3, 1023), wait of 1 (4, 0)."
pub wait_ends-1022 :
    (wait_ends (units_of 0) (cycle_at 3 1022) ≡ Ready (cycle_at 3 1023)) ×
    (wait_ends Event (cycle_at 3 1022) ≡ Ready (cycle_at 3 1023)) ×
    (wait_ends (units_of 1) (cycle_at 3 1022) ≡ Ready (cycle_at 4 0))
unfolding wait_ends step_over passage_of next_delta
wait_ends-1022 = (refl, refl, refl)

-- "From (3, 1023): zero wait and notification overrun and keep (3, 1023); wait of 1 gives (4, 0)."
pub wait_ends-1023 :
    (wait_ends (units_of 0) (cycle_at 3 1023) ≡ Overrun (cycle_at 3 1023)) ×
    (wait_ends Event (cycle_at 3 1023) ≡ Overrun (cycle_at 3 1023)) ×
    (wait_ends (units_of 1) (cycle_at 3 1023) ≡ Ready (cycle_at 4 0))
unfolding wait_ends step_over passage_of next_delta
wait_ends-1023 = (refl, refl, refl)

-- a timed wait of 2 from (0, 1023): (2, 0)
pub wait_ends-two : wait_ends (units_of 2) (cycle_at 0 1023) ≡ Ready (cycle_at 2 0)
unfolding wait_ends step_over passage_of
wait_ends-two = refl

-- waits of 0, 7 and 0 units from (0, 0), each begun where the one before ended: (0, 1), (7, 0), (7, 1)
pub wait_ends-three :
    (wait_ends (units_of 0) (cycle_at 0 0) ≡ Ready (cycle_at 0 1)) ×
    (wait_ends (units_of 7) (cycle_at 0 1) ≡ Ready (cycle_at 7 0)) ×
    (wait_ends (units_of 0) (cycle_at 7 0) ≡ Ready (cycle_at 7 1))
unfolding wait_ends step_over passage_of next_delta
wait_ends-three = (refl, refl, refl)

-- the last wait that a file can hold
pub wait_ends-longest : wait_ends (units_of 4294967295) (cycle_at 3 1023) ≡ Ready (cycle_at 4294967298 0)
unfolding wait_ends step_over passage_of
wait_ends-longest = refl

-- the steps over the passages themselves, at the last delta
pub step_over-edges :
    (step_over DeltaNotification (cycle_at 3 1023) ≡ Overrun (cycle_at 3 1023)) ×
    (step_over ZeroWait (cycle_at 3 1023) ≡ Overrun (cycle_at 3 1023)) ×
    (step_over (TimedWait (record { 0 = 1 })) (cycle_at 3 1023) ≡ Ready (cycle_at 4 0))
unfolding step_over next_delta
step_over-edges = (refl, refl, refl)

-- a bound is not cut: "thread 0 at (0, 990), 40 zero waits from the segment that writes x": (0, 1030), below (1, 0)
pub bound-uncut :
    (bound_at 0 990 ⊕ bound_at 0 40 ≡ bound_at 0 1030) × (is_bound_before (bound_at 0 990 ⊕ bound_at 0 40) (bound_at 1 0) ≡ true)
unfolding ◌⊕◌ plus_of delta_after is_bound_before is_before
bound-uncut = (refl, refl)

-- "A wait of k units ends at (time + k, 0) if k is 1 or more, and at (time, delta + 1) if k is 0."
pub wait_ends-units :
    (wait_ends (units_of 0) (cycle_at 9 4) ≡ Ready (cycle_at 9 5)) ×
    (wait_ends (units_of 1) (cycle_at 9 4) ≡ Ready (cycle_at 10 0)) ×
    (wait_ends (units_of 2) (cycle_at 9 4) ≡ Ready (cycle_at 11 0))
unfolding wait_ends step_over passage_of next_delta
wait_ends-units = (refl, refl, refl)

-- at delta 1,023 a wait of 0 units is overrun, and one of 1 unit is not
pub wait_ends-full :
    (wait_ends (units_of 0) (cycle_at 9 1022) ≡ Ready (cycle_at 9 1023)) ×
    (wait_ends (units_of 0) (cycle_at 9 1023) ≡ Overrun (cycle_at 9 1023)) ×
    (wait_ends (units_of 1) (cycle_at 9 1023) ≡ Ready (cycle_at 10 0))
unfolding wait_ends step_over passage_of next_delta
wait_ends-full = (refl, refl, refl)

-- "becomes ready at the next delta", or overrun
pub wait_ends-event :
    (wait_ends Event (cycle_at 9 4) ≡ Ready (cycle_at 9 5)) ×
    (wait_ends Event (cycle_at 9 1022) ≡ Ready (cycle_at 9 1023)) ×
    (wait_ends Event (cycle_at 9 1023) ≡ Overrun (cycle_at 9 1023))
unfolding wait_ends step_over passage_of next_delta
wait_ends-event = (refl, refl, refl)

-- a step's words: the last time that they hold, and the two after it
pub held_step-edges :
    (held_step (Ready (cycle_at 18446744073709551615 7)) ≡ Ready (cycle_at 18446744073709551615 7)) ×
    (held_step (Ready (cycle_at 18446744073709551616 7)) ≡ Ready (cycle_at 0 7)) ×
    (held_step (Ready (cycle_at 18446744073709551617 7)) ≡ Ready (cycle_at 1 7)) ×
    (held_step (Overrun (cycle_at 18446744073709551615 1023)) ≡ Overrun (cycle_at 18446744073709551615 1023))
unfolding held_step
held_step-edges = (refl, refl, refl, refl)

-- Every cycle is before never, and never before nothing.
pub is_bound_before-never :
    (is_bound_before (bound_at 5 7) Never ≡ true) ×
    (is_bound_before Never (bound_at 5 7) ≡ false) ×
    (is_bound_before Never Never ≡ false)
unfolding is_bound_before
is_bound_before-never = (refl, refl, refl)

pub is_bound_before-tied :
    (is_bound_before (bound_at 5 6) (bound_at 5 7) ≡ true) ×
    (is_bound_before (bound_at 5 7) (bound_at 5 7) ≡ false) ×
    (is_bound_before (bound_at 5 8) (bound_at 5 7) ≡ false)
unfolding is_bound_before is_before
is_bound_before-tied = (refl, refl, refl)

-- "(0, 1,025) is a bound less than (1, 0)"
pub is_bound_before-uncut :
    (is_bound_before (bound_at 0 1025) (bound_at 1 0) ≡ true) × (is_bound_before (bound_at 1 0) (bound_at 0 1025) ≡ false)
unfolding is_bound_before is_before
is_bound_before-uncut = (refl, refl)

-- below, tied, above; and with never
pub least-edges :
    (least (bound_at 5 6) (bound_at 5 7) ≡ bound_at 5 6) ×
    (least (bound_at 5 7) (bound_at 5 7) ≡ bound_at 5 7) ×
    (least (bound_at 5 8) (bound_at 5 7) ≡ bound_at 5 7) ×
    (least (bound_at 1 0) (bound_at 0 1025) ≡ bound_at 0 1025)
unfolding least is_bound_before is_before
least-edges = (refl, refl, refl, refl)

pub least-never :
    (least (bound_at 5 7) Never ≡ bound_at 5 7) × (least Never (bound_at 5 7) ≡ bound_at 5 7) × (least Never Never ≡ Never)
unfolding least is_bound_before
least-never = (refl, refl, refl)

-- of none, of one, and of three falling ones: that at 3 does not count
pub least_below-edges :
    (least_below 0 (λ i. bound_at (9 - i) 0) ≡ Never) ×
    (least_below 1 (λ i. bound_at (9 - i) 0) ≡ bound_at 9 0) ×
    (least_below 3 (λ i. bound_at (9 - i) 0) ≡ bound_at 7 0)
unfolding least_below least is_bound_before is_before
least_below-edges = (refl, refl, refl)

-- "a distance is added as the clock says": over no time the delta is kept, over time it is not
pub ⊕-kept : (bound_at 9 4 ⊕ bound_at 0 0 ≡ bound_at 9 4) × (bound_at 9 4 ⊕ bound_at 0 2 ≡ bound_at 9 6)
unfolding ◌⊕◌ plus_of delta_after
⊕-kept = (refl, refl)

pub ⊕-reset :
    (bound_at 9 4 ⊕ bound_at 1 0 ≡ bound_at 10 0) ×
    (bound_at 9 4 ⊕ bound_at 1 2 ≡ bound_at 10 2) ×
    (bound_at 9 4 ⊕ bound_at 2 0 ≡ bound_at 11 0)
unfolding ◌⊕◌ plus_of delta_after
⊕-reset = (refl, refl, refl)

-- "but the delta of a sum is not cut at 1,023"
pub ⊕-uncut :
    (bound_at 0 1022 ⊕ one_delta ≡ bound_at 0 1023) ×
    (bound_at 0 1023 ⊕ one_delta ≡ bound_at 0 1024) ×
    (bound_at 0 1023 ⊕ bound_at 0 2 ≡ bound_at 0 1025)
unfolding ◌⊕◌ plus_of delta_after
⊕-uncut = (refl, refl, refl)

pub ⊕-never : (bound_at 9 4 ⊕ Never ≡ Never) × (Never ⊕ bound_at 9 4 ≡ Never) × (Never ⊕ Never ≡ Never)
unfolding ◌⊕◌
⊕-never = (refl, refl, refl)

-- "A step over a time wait counts as the clock says; over an event wait it is one delta."
pub advance_of-edges :
    (advance_of Event ≡ bound_at 0 1) ×
    (advance_of (units_of 0) ≡ bound_at 0 1) ×
    (advance_of (units_of 1) ≡ bound_at 1 0) ×
    (advance_of (units_of 2) ≡ bound_at 2 0)
unfolding advance_of advance_over passage_of
advance_of-edges = (refl, refl, refl, refl)

-- case 10: "over waits 0 then 7 is (7, 0); over 7 then 0 it is (7, 1)"
pub advance_of-two :
    (no_advance ⊕ advance_of (units_of 0) ⊕ advance_of (units_of 7) ≡ bound_at 7 0) ×
    (no_advance ⊕ advance_of (units_of 7) ⊕ advance_of (units_of 0) ≡ bound_at 7 1)
unfolding ◌⊕◌ plus_of delta_after advance_of advance_over passage_of
advance_of-two = (refl, refl)
