-- Document 01, "Clock": the orders as relations. The tests of Cycle and Advance are proved to decide them.
use Rattle.std.specs.Prelude.{◌≡◌, ◌<◌, ◌≤◌}
use Rattle.clock.specs.declared.Cycle.{Cycle}
use Rattle.clock.specs.declared.Bound.{Bound}
use Rattle.clock.specs.declared.Bound.TheVariants.{Never, At}

-- a is before b
pub data Before (a b : Cycle) : Type 0 where
  sooner : a.time.0 < b.time.0 → Before a b
  same_time : a.time.0 ≡ b.time.0 → a.delta.0 < b.delta.0 → Before a b

-- a is not after b
pub data ◌⊑◌ (a b : Cycle) : Type 0 where
  sooner : a.time.0 < b.time.0 → a ⊑ b
  same_time : a.time.0 ≡ b.time.0 → a.delta.0 ≤ b.delta.0 → a ⊑ b

infix 4 ◌⊑◌
-- bound a is not after bound b
abbrev pub ◌≼◌ : Bound → Bound → Type 0
b ≼ Never = Unit {0}
Never ≼ At c = ⊥
At b ≼ At c = b ⊑ c

infix 4 ◌≼◌
