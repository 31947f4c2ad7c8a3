-- Documents 01 and 02: the limits on times, each said once, and the horizon.
use Rattle.std.specs.Prelude.{ℕ, ◌+◌, Bool, false, ltb}
use Rattle.clock.specs.declared.Cycle.{Cycle}
use Rattle.clock.specs.declared.Bound.{Bound}
use Rattle.clock.specs.declared.Bound.TheVariants.{Never, At}
use Rattle.model.specs.declared.Model.{Model}

-- "horizon H (4 bytes, 1 to 1,000,000,000)"; "the delay, at most 1,000,000,000"
abbrev pub largest_time : ℕ
largest_time = 1000000000

-- "'Never' begins above 1,000,000,000 units"; "11 allows a log time or a distance word's time of exactly 1,000,000,000"
abbrev pub cut_time : ℕ
cut_time = 1000000001

-- "and a record time of exactly 2,000,000,000"
abbrev pub record_time : ℕ
record_time = 2000000001

-- the first time that is not run: "A thread ready at exactly H is therefore run"
abbrev pub end_time : Model → ℕ
end_time m = m.horizon.0 + 1

-- a cycle before an end time: the one comparison, for a model and for code that hands on an end time alone
abbrev pub is_before_time : ℕ → Cycle → Bool
is_before_time end c = ltb c.time.0 end

-- "not later than H"
unfoldable pub is_up_to_horizon : Model → Cycle → Bool
is_up_to_horizon m c = is_before_time (end_time m) c

unfoldable pub is_bound_up_to_horizon : Model → Bound → Bool
is_bound_up_to_horizon m Never = false
is_bound_up_to_horizon m (At c) = is_up_to_horizon m c
