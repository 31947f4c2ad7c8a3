-- Document 01, "Plain run": the cycle rules, one small step at a time: look at one thread, or close the cycle.
use Rattle.std.specs.Prelude.{ℕ, zero, suc, ◌+◌, Bool, false, cond, [], ◌++◌, ltb, set}
use Rattle.clock.specs.declared.Cycle.{Cycle}
use Rattle.clock.specs.declared.Bound.{Bound}
use Rattle.clock.specs.declared.Bound.TheVariants.{Never, At}
use Rattle.clock.specs.Cycle.{is_same}
use Rattle.model.specs.declared.Model.{Model}
use Rattle.model.specs.Limits.{is_up_to_horizon}
use Rattle.model.specs.Record.{thread_at, ready_cycle}
use Rattle.model.specs.Effect.{effect_of}
use Rattle.plain.specs.Start.{Place, start_of}
use Rattle.plain.specs.Wake.{woken, floor_of}

unfoldable pub is_at : Cycle → Bound → Bool
is_at c Never = false
is_at c (At d) = is_same d c

-- whether the thread that is looked at next is a "ready thread of that cycle"
unfoldable pub is_due : Place → Bool
is_due p = is_at p.now (ready_cycle (thread_at p.threads p.turn).state)

-- it runs its segment whole
unfoldable pub ran_on : Model → Place → Place
ran_on m p =
    let x = effect_of m p.turn (thread_at p.threads p.turn).segment p.now p.variables in
    record {
      variables = x.variables;
      threads = set p.threads p.turn x.thread;
      now = p.now;
      turn = p.turn + 1;
      notified = p.notified ++ x.notified;
      n = p.n + 1;
    }

-- it is passed over
unfoldable pub passed_on : Place → Place
passed_on p = record { variables = p.variables; threads = p.threads; now = p.now; turn = p.turn + 1; notified = p.notified; n = p.n }

-- the next cycle begins at f, if that is "not later than H"
unfoldable pub begun : Model → Bound → Place → Place
begun m Never p = p
begun m (At c) p =
    cond (is_up_to_horizon m c)
    (record { variables = p.variables; threads = p.threads; now = c; turn = 0; notified = p.notified; n = p.n })
    p

-- "At the cycle's end" the waiting threads wake, and the next cycle begins
unfoldable pub closed_on : Model → Place → Place
closed_on m p =
    let ts = woken p.notified p.now p.threads in
    begun m (floor_of m ts) (record { variables = p.variables; threads = ts; now = p.now; turn = p.turn; notified = []; n = p.n })

-- "In each cycle the ready threads of that cycle run their segment whole, lowest number first."
unfoldable pub stepped : Model → Place → Place
stepped m p = cond (ltb p.turn m.t) (cond (is_due p) (ran_on m p) (passed_on p)) (closed_on m p)

-- the plain run, step by step; once it is done it stands still
unfoldable pub place_at : Model → ℕ → Place
place_at m zero = start_of m
place_at m (suc i) = stepped m (place_at m i)
