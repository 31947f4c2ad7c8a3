-- Document 01, "Clock": cycles, stamps and their orders.
-- Terms: cycle; stamp.
use Rattle.std.specs.Prelude.{ℕ, Bool, cond, ◌&&◌, ◌==◌, nat_lt}
use Rattle.clock.specs.declared.Cycle.{Cycle}
use Rattle.clock.specs.declared.Stamp.{Stamp}

abbrev pub cycle_at : ℕ → ℕ → Cycle
cycle_at t d = record { time = record { 0 = t }; delta = record { 0 = d } }

abbrev pub stamp_at : Cycle → ℕ → Stamp
stamp_at c k = record { cycle = c; thread = record { 0 = k } }

-- "A cycle is a time and a delta, compared time first."
unfoldable pub is_before : Cycle → Cycle → Bool
is_before a b =
    cond (a.time.0 == b.time.0)
    (nat_lt a.delta.0 b.delta.0)
    (nat_lt a.time.0 b.time.0)

unfoldable pub is_same : Cycle → Cycle → Bool
is_same a b = a.time.0 == b.time.0 && a.delta.0 == b.delta.0

-- "A stamp is a cycle and then a thread number."
unfoldable pub is_stamp_before : Stamp → Stamp → Bool
is_stamp_before a b =
    cond (is_same a.cycle b.cycle)
    (nat_lt a.thread.0 b.thread.0)
    (is_before a.cycle b.cycle)
