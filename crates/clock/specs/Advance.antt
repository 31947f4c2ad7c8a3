-- Document 01, "Early issue": bounds, and a distance added as the clock says, its delta not cut:
-- "(0, 1,025) is a bound less than (1, 0)".
use Rattle.std.specs.Prelude.{ℕ, zero, suc, ◌+◌, Bool, true, false, cond}
use Rattle.clock.specs.declared.Cycle.{Cycle}
use Rattle.clock.specs.declared.Wait.{Wait}
use Rattle.clock.specs.declared.Passage.{Passage}
use Rattle.clock.specs.declared.Passage.TheVariants.{DeltaNotification, ZeroWait, TimedWait}
use Rattle.clock.specs.declared.Bound.{Bound}
use Rattle.clock.specs.declared.Bound.TheVariants.{Never, At}
use Rattle.clock.specs.Cycle.{cycle_at, is_before}
use Rattle.clock.specs.Passage.{passage_of}

-- every cycle is before never
unfoldable pub is_bound_before : Bound → Bound → Bool
is_bound_before Never b = false
is_bound_before (At a) Never = true
is_bound_before (At a) (At b) = is_before a b

unfoldable pub least : Bound → Bound → Bound
least a b = cond (is_bound_before b a) b a

-- the least of f 0, f 1, .., f (n - 1); never, if n is 0
unfoldable pub least_below : ℕ → (ℕ → Bound) → Bound
least_below zero f = Never
least_below (suc n) f = least (least_below n f) (f n)

-- the delta that is left of d when time moves on by t: all of it if t is 0, else none
unfoldable pub delta_after : ℕ → ℕ → ℕ
delta_after zero d = d
delta_after (suc t) d = 0

unfoldable pub plus_of : Cycle → Cycle → Cycle
plus_of a w = cycle_at (a.time.0 + w.time.0) (delta_after w.time.0 a.delta.0 + w.delta.0)

unfoldable pub ◌⊕◌ : Bound → Bound → Bound
Never ⊕ d = Never
At a ⊕ Never = Never
At a ⊕ At w = At (plus_of a w)

infixl 50 ◌⊕◌
-- no advance, and one delta
abbrev pub no_advance : Bound
no_advance = At (cycle_at 0 0)

abbrev pub one_delta : Bound
one_delta = At (cycle_at 0 1)

-- "A step over a time wait counts as the clock says; over an event wait it is one delta."
unfoldable pub advance_over : Passage → Bound
advance_over DeltaNotification = one_delta
advance_over ZeroWait = one_delta
advance_over (TimedWait k) = At (cycle_at k.0 0)

-- what a wait advances
unfoldable pub advance_of : Wait → Bound
advance_of w = advance_over (passage_of w)
