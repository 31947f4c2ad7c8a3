-- Closed examples of this crate's definitions: at, below and above each comparison and limit, and the order of faults.
-- Each list stands against the list of its answers, in the same order.
use Prim.Native.Nat.{ℕ, ◌+◌, ◌-◌, ◌^◌}
use mathlib.Core.Path.{◌≡◌, refl}
use mathlib.Core.Bool.{true, false}
use mathlib.Core.List.{List, [], ◌∷◌}
use lib.ListN.{length, get_or, replicate}
use Rattle.base.specs.Index.{any_below, or_else, first_below}
use Rattle.clock.specs.declared.Bound.TheVariants.{Never, At}
use Rattle.clock.specs.Cycle.{cycle_at}
use Rattle.clock.specs.Passage.{passage_of}
use Rattle.clock.specs.Wait.{next_delta, step_over, wait_ends}
use Rattle.model.specs.declared.Op.{Op}
use Rattle.model.specs.declared.Op.TheVariants.{Set, Add, Copy, AddVariable, SubVariable, Notify}
use Rattle.model.specs.declared.Statement.{Statement}
use Rattle.model.specs.declared.Next.{Next}
use Rattle.model.specs.declared.Closer.{Closer}
use Rattle.model.specs.declared.Closer.TheVariants.{End, Time, Event}
use Rattle.model.specs.declared.Segment.{Segment}
use Rattle.model.specs.declared.Start.{Start}
use Rattle.model.specs.declared.Model.{Model}
use Rattle.model.specs.declared.State.TheVariants.{Ended, Overrun, Ready, Waiting, Running}
use Rattle.model.specs.Refusal as refusal
use Rattle.model.specs.Limits.{largest_time, cut_time, record_time, is_up_to_horizon, is_bound_up_to_horizon}
use Rattle.model.specs.Port.{no_ports, map_segment, map_statements, mapped, is_port}
use Rattle.model.specs.Values.{no_statement, no_segment, no_start, no_model, segment_at, segment_for, start_at, body_of, with_head, with_segment, with_start, ports_at}
use Rattle.model.specs.Statement.{execute_op, execute, notified_by}
use Rattle.model.specs.Record.{thread_at, is_live, is_running, ready_cycle, live_cycle, nothing, awaits, awaited_by, cycle_of}
use Rattle.model.specs.Effect.{next_of, closed_at, effect_in, effect_of, held_state, held_events, with_op}
use Rattle.model.specs.Footprint.{writes_op, reads_op, writes, reads, tests_next, tests, writes_of, uses_of, writes_in, uses_in, has, listed_in, notifies_in, names_port}
use Rattle.model.specs.Rules.{head_fault, choice_fault, test_fault, closer_fault, op_fault, statements_fault, segment_fault, segments_fault, counts_fault, leaves_model, any_segment_leaves, any_start_leaves, targets_fault, model_fault, is_name, starts_fault, ports_fault, links_fault, lack_fault}
use Rattle.model.specs.Reach.{lacks_from, lacks_port}

-- the values that the examples are made of
abbrev next : ℕ → ℕ → ℕ → ℕ → Next
next a b test limit = record { a = a; b = b; test = test; limit = limit }

abbrev always : ℕ → Next
always a = next a a 255 0

abbrev waits : ℕ → Next → Closer
waits k x = Time (record { 0 = k }) x

abbrev does : Op → Statement
does o = record { op = o }

abbrev segment : Closer → List Statement → Segment
segment g xs = record { closer = g; n = length xs; statements = xs }

abbrev model : ℕ → ℕ → ℕ → List Segment → List ℕ → Model
model h v e gs ks =
    record { horizon = record { 0 = h }; v = v; e = e; n = length gs; t = length ks; segments = gs; starts = starting ks }
  where
    starting : List ℕ → List Start
    starting [] = []
    starting (k ∷ ks) = record { first = k; ports = no_ports } ∷ starting ks

-- Numbers of refusal, and limits

numbers :
    (refusal.accepted ≡ 0) ×
    (refusal.short_file ≡ 1) ×
    (refusal.wrong_kind ≡ 2) ×
    (refusal.wrong_length ≡ 3) ×
    (refusal.wrong_count ≡ 4) ×
    (refusal.wrong_closer ≡ 5) ×
    (refusal.wrong_statement ≡ 6) ×
    (refusal.wrong_name ≡ 7) ×
    (refusal.wrong_target ≡ 8) ×
    (refusal.extra_bytes ≡ 9) ×
    (refusal.wrong_thread ≡ 10) ×
    (refusal.unfit ≡ 11) ×
    (refusal.not_ready ≡ 12) ×
    (refusal.past_horizon ≡ 13) ×
    (refusal.hazard_stands ≡ 14) ×
    (refusal.log_full ≡ 15) ×
    (refusal.short_table ≡ 16)
numbers = (refl, refl, refl, refl, refl, refl, refl, refl, refl, refl, refl, refl, refl, refl, refl, refl, refl)

limits :
    (largest_time ≡ 1000000000) ×
    (cut_time ≡ 1000000001) ×
    (record_time ≡ 2000000001)
limits = (refl, refl, refl)

-- H - 1, H with its first and its last delta, and H + 1; never is past it
horizon :
    (is_up_to_horizon (model 5 0 0 [] []) (cycle_at 4 1023) ≡ true) ×
    (is_up_to_horizon (model 5 0 0 [] []) (cycle_at 5 0) ≡ true) ×
    (is_up_to_horizon (model 5 0 0 [] []) (cycle_at 5 1023) ≡ true) ×
    (is_up_to_horizon (model 5 0 0 [] []) (cycle_at 6 0) ≡ false) ×
    (is_up_to_horizon (model 1000000000 0 0 [] []) (cycle_at 1000000000 1023) ≡ true) ×
    (is_up_to_horizon (model 1000000000 0 0 [] []) (cycle_at 1000000001 0) ≡ false) ×
    (is_bound_up_to_horizon (model 5 0 0 [] []) (At (cycle_at 5 1025)) ≡ true) ×
    (is_bound_up_to_horizon (model 5 0 0 [] []) (At (cycle_at 6 0)) ≡ false) ×
    (is_bound_up_to_horizon (model 5 0 0 [] []) Never ≡ false)
unfolding is_up_to_horizon is_bound_up_to_horizon
horizon = (refl, refl, refl, refl, refl, refl, refl, refl, refl)

-- Values

-- n statements, and no more of the places
body :
    (body_of (record { closer = End; n = 1; statements = does (Notify 1) ∷ does (Notify 2) ∷ [] }) ≡ does (Notify 1) ∷ []) ×
    (body_of no_segment ≡ [])
unfolding body_of
body = (refl, refl)

-- one segment more, one thread more, another head
put-together :
    ((with_segment (with_segment no_model no_segment) (segment End (does (Notify 3) ∷ []))).n ≡ 2) ×
    ((segment_at (with_segment (with_segment no_model no_segment) (segment End (does (Notify 3) ∷ []))) 1).n ≡ 1) ×
    ((segment_at (with_segment (with_segment no_model no_segment) (segment End (does (Notify 3) ∷ []))) 0).n ≡ 0) ×
    ((with_start (with_start no_model no_start) (record { first = 7; ports = no_ports })).t ≡ 2) ×
    ((start_at (with_start (with_start no_model no_start) (record { first = 7; ports = no_ports })) 1).first ≡ 7) ×
    ((with_head no_model 9 8 7).horizon.0 ≡ 9) ×
    ((with_head no_model 9 8 7).v ≡ 8) ×
    ((with_head no_model 9 8 7).e ≡ 7)
unfolding with_head with_segment with_start segment_at start_at
put-together = (refl, refl, refl, refl, refl, refl, refl, refl)

-- past the places: a segment that ends, with 32 statements that are none; a thread that starts at 0
past-places :
    (length (segment_at no_model 64).statements ≡ 32) ×
    ((segment_at no_model 64).n ≡ 0) ×
    ((start_at no_model 32).first ≡ 0)
unfolding segment_at start_at
past-places = (refl, refl, refl)

-- Statements

-- each operation on its variables; a number past the places is not put anywhere, and reads as 0
operations :
    (execute_op (Set 0 9) (7 ∷ 3 ∷ []) ≡ 9 ∷ 3 ∷ []) ×
    (execute_op (Add 0 9) (7 ∷ 3 ∷ []) ≡ 16 ∷ 3 ∷ []) ×
    (execute_op (Copy 0 1) (7 ∷ 3 ∷ []) ≡ 3 ∷ 3 ∷ []) ×
    (execute_op (AddVariable 0 1) (7 ∷ 3 ∷ []) ≡ 10 ∷ 3 ∷ []) ×
    (execute_op (SubVariable 0 1) (7 ∷ 3 ∷ []) ≡ 4 ∷ 3 ∷ []) ×
    (execute_op (Notify 0) (7 ∷ 3 ∷ []) ≡ 7 ∷ 3 ∷ []) ×
    (execute_op (Set 2 9) (7 ∷ 3 ∷ []) ≡ 7 ∷ 3 ∷ []) ×
    (execute_op (Copy 0 2) (7 ∷ 3 ∷ []) ≡ 0 ∷ 3 ∷ [])
operations = (refl, refl, refl, refl, refl, refl, refl, refl)

-- modulo 4,294,967,296, both ways; case 11: "subtracting 1 from 0 gives 4,294,967,295"
wraps :
    (execute_op (Add 0 1) (4294967294 ∷ []) ≡ 4294967295 ∷ []) ×
    (execute_op (Add 0 1) (4294967295 ∷ []) ≡ 0 ∷ []) ×
    (execute_op (Add 0 4294967295) (4294967295 ∷ []) ≡ 4294967294 ∷ []) ×
    (execute_op (AddVariable 0 1) (4294967294 ∷ 1 ∷ []) ≡ 4294967295 ∷ 1 ∷ []) ×
    (execute_op (AddVariable 0 1) (4294967295 ∷ 1 ∷ []) ≡ 0 ∷ 1 ∷ []) ×
    (execute_op (SubVariable 0 1) (1 ∷ 1 ∷ []) ≡ 0 ∷ 1 ∷ []) ×
    (execute_op (SubVariable 0 1) (0 ∷ 1 ∷ []) ≡ 4294967295 ∷ 1 ∷ []) ×
    (execute_op (SubVariable 0 1) (0 ∷ 4294967295 ∷ []) ≡ 1 ∷ 4294967295 ∷ [])
wraps = (refl, refl, refl, refl, refl, refl, refl, refl)

-- to set and then add is not to add and then set
statement-order :
    (execute [] (3 ∷ []) ≡ 3 ∷ []) ×
    (execute (does (Set 0 5) ∷ does (Add 0 1) ∷ []) (3 ∷ []) ≡ 6 ∷ []) ×
    (execute (does (Add 0 1) ∷ does (Set 0 5) ∷ []) (3 ∷ []) ≡ 5 ∷ [])
unfolding execute
statement-order = (refl, refl, refl)

-- notified in statement order, each as often as it stands
events-in-order :
    (notified_by (does (Notify 2) ∷ does (Set 0 1) ∷ does (Notify 0) ∷ does (Notify 2) ∷ []) ≡ 2 ∷ 0 ∷ 2 ∷ []) ×
    (notified_by (does (Set 0 1) ∷ does (Add 0 1) ∷ does (Copy 0 1) ∷ does (AddVariable 0 1) ∷ does (SubVariable 0 1) ∷ []) ≡ [])
unfolding notified_by
events-in-order = (refl, refl)

-- Records

-- ready, waiting and running threads
live :
    (is_live (Ended (cycle_at 1 2)) ≡ false) ×
    (is_live (Overrun (cycle_at 1 2)) ≡ false) ×
    (is_live (Ready (cycle_at 1 2)) ≡ true) ×
    (is_live (Waiting 0 (cycle_at 1 2)) ≡ true) ×
    (is_live (Running (cycle_at 1 2)) ≡ true)
live = (refl, refl, refl, refl, refl)

-- the cycle of a ready or a running thread alone
ready-cycles :
    (ready_cycle (Ended (cycle_at 1 2)) ≡ Never) ×
    (ready_cycle (Overrun (cycle_at 1 2)) ≡ Never) ×
    (ready_cycle (Ready (cycle_at 1 2)) ≡ At (cycle_at 1 2)) ×
    (ready_cycle (Waiting 0 (cycle_at 1 2)) ≡ Never) ×
    (ready_cycle (Running (cycle_at 1 2)) ≡ At (cycle_at 1 2))
ready-cycles = (refl, refl, refl, refl, refl)

-- the event and the cycle of a waiting thread alone
awaited :
    (awaited_by (Ended (cycle_at 1 2)) ≡ nothing) ×
    (awaited_by (Overrun (cycle_at 1 2)) ≡ nothing) ×
    (awaited_by (Ready (cycle_at 1 2)) ≡ nothing) ×
    (awaited_by (Waiting 5 (cycle_at 1 2)) ≡ awaits 5 (cycle_at 1 2)) ×
    (awaited_by (Running (cycle_at 1 2)) ≡ nothing)
awaited = (refl, refl, refl, refl, refl)

-- whichever the state
cycles :
    (cycle_of (Ended (cycle_at 1 2)) ≡ cycle_at 1 2) ×
    (cycle_of (Overrun (cycle_at 3 4)) ≡ cycle_at 3 4) ×
    (cycle_of (Ready (cycle_at 5 6)) ≡ cycle_at 5 6) ×
    (cycle_of (Waiting 0 (cycle_at 7 8)) ≡ cycle_at 7 8) ×
    (cycle_of (Running (cycle_at 9 10)) ≡ cycle_at 9 10)
cycles = (refl, refl, refl, refl, refl)

-- what a live thread counts at, and which thread is running
live-cycles :
    (live_cycle (Ready (cycle_at 1 2)) ≡ At (cycle_at 1 2)) ×
    (live_cycle (Running (cycle_at 1 2)) ≡ At (cycle_at 1 2)) ×
    (live_cycle (Waiting 0 (cycle_at 1 2)) ≡ Never)
live-cycles = (refl, refl, refl)

running :
    (is_running (Ended (cycle_at 1 2)) ≡ false) ×
    (is_running (Overrun (cycle_at 1 2)) ≡ false) ×
    (is_running (Ready (cycle_at 1 2)) ≡ false) ×
    (is_running (Waiting 0 (cycle_at 1 2)) ≡ false) ×
    (is_running (Running (cycle_at 1 2)) ≡ true)
running = (refl, refl, refl, refl, refl)

-- past the records: ended at (0, 0)
threads :
    (thread_at (record { segment = 3; state = Ready (cycle_at 1 2) } ∷ []) 0 ≡ record { segment = 3; state = Ready (cycle_at 1 2) }) ×
    (thread_at (record { segment = 3; state = Ready (cycle_at 1 2) } ∷ []) 1 ≡ record { segment = 0; state = Ended (cycle_at 0 0) })
unfolding thread_at
threads = (refl, refl)

-- Effects

-- below, at and above the limit; 255 is no test, 254 is one (of a variable past the places)
next-segment :
    (next_of (next 1 2 0 5) (4 ∷ []) ≡ 1) ×
    (next_of (next 1 2 0 5) (5 ∷ []) ≡ 2) ×
    (next_of (next 1 2 0 5) (6 ∷ []) ≡ 2) ×
    (next_of (next 1 2 0 0) (0 ∷ []) ≡ 2) ×
    (next_of (next 1 2 255 0) (9 ∷ []) ≡ 1) ×
    (next_of (next 1 2 254 0) (9 ∷ []) ≡ 2) ×
    (next_of (next 1 2 254 1) (9 ∷ []) ≡ 1)
unfolding next_of
next-segment = (refl, refl, refl, refl, refl, refl, refl)

-- ended with the last segment; waiting from its cycle; a wait of 0 at delta 1,022 and 1,023 (case 12), and of 7
closing :
    (closed_at 3 End (cycle_at 5 2) [] ≡ record { segment = 3; state = Ended (cycle_at 5 2) }) ×
    (closed_at 3 (Event 6 (always 1)) (cycle_at 5 2) [] ≡ record { segment = 1; state = Waiting 6 (cycle_at 5 2) }) ×
    (closed_at 3 (waits 0 (always 1)) (cycle_at 5 1022) [] ≡ record { segment = 1; state = Ready (cycle_at 5 1023) }) ×
    (closed_at 3 (waits 0 (always 1)) (cycle_at 5 1023) [] ≡ record { segment = 1; state = Overrun (cycle_at 5 1023) }) ×
    (closed_at 3 (waits 7 (always 1)) (cycle_at 5 1023) [] ≡ record { segment = 1; state = Ready (cycle_at 12 0) })
unfolding closed_at next_of wait_ends step_over passage_of next_delta
closing = (refl, refl, refl, refl, refl)

-- the limit is tested on the variables after the statements
tested-after :
    ((effect_in (segment (waits 1 (next 1 2 0 5)) (does (Add 0 1) ∷ [])) 0 (cycle_at 0 0) (3 ∷ [])).thread.segment ≡ 1) ×
    ((effect_in (segment (waits 1 (next 1 2 0 5)) (does (Add 0 1) ∷ [])) 0 (cycle_at 0 0) (4 ∷ [])).thread.segment ≡ 2)
unfolding effect_in closed_at next_of execute body_of wait_ends step_over passage_of
tested-after = (refl, refl)

-- segment s of the model, whichever the thread
effect-of : effect_of (model 9 1 1 (no_segment ∷ segment End (does (Set 0 4) ∷ does (Notify 0) ∷ []) ∷ []) (0 ∷ [])) 0 1 (cycle_at 3 4) (8 ∷ []) ≡ record { variables = 4 ∷ []; notified = 0 ∷ []; thread = record { segment = 1; state = Ended (cycle_at 3 4) } }
unfolding effect_of effect_in segment_for segment_at closed_at execute notified_by body_of map_segment map_statements mapped is_port
effect-of = refl

-- a ready time at 2 ^ 64 - 1, 2 ^ 64 and 2 ^ 64 + 1; other states as they are
held-states :
    (held_state (Ready (cycle_at (2 ^ 64 - 1) 7)) ≡ Ready (cycle_at (2 ^ 64 - 1) 7)) ×
    (held_state (Ready (cycle_at (2 ^ 64) 7)) ≡ Ready (cycle_at 0 7)) ×
    (held_state (Ready (cycle_at (2 ^ 64 + 1) 7)) ≡ Ready (cycle_at 1 7)) ×
    (held_state (Ended (cycle_at (2 ^ 64) 7)) ≡ Ended (cycle_at (2 ^ 64) 7)) ×
    (held_state (Overrun (cycle_at (2 ^ 64) 7)) ≡ Overrun (cycle_at (2 ^ 64) 7)) ×
    (held_state (Waiting 1 (cycle_at (2 ^ 64) 7)) ≡ Waiting 1 (cycle_at (2 ^ 64) 7))
held-states = (refl, refl, refl, refl, refl, refl)

-- at the front of 32 places, 0 past them; one more goes to the end
held-events :
    ((held_events (3 ∷ 1 ∷ [])).n ≡ 2) ×
    (get_or (held_events (3 ∷ 1 ∷ [])).at 1 9 ≡ 1) ×
    (get_or (held_events (3 ∷ 1 ∷ [])).at 2 9 ≡ 0) ×
    (length (held_events (3 ∷ 1 ∷ [])).at ≡ 32) ×
    ((with_op (held_events (3 ∷ 1 ∷ [])) (Notify 4)).n ≡ 3) ×
    (get_or (with_op (held_events (3 ∷ 1 ∷ [])) (Notify 4)).at 2 9 ≡ 4) ×
    ((with_op (held_events (3 ∷ 1 ∷ [])) (Set 0 4)).n ≡ 2)
unfolding held_events
held-events = (refl, refl, refl, refl, refl, refl, refl)

-- Footprints

-- writes at 1 and 2, then reads at 1, 2 and 3. To set reads nothing
uses-set :
    (writes_op (Set 1 2) 1 ≡ true) ×
    (writes_op (Set 1 2) 2 ≡ false) ×
    (reads_op (Set 1 2) 1 ≡ false) ×
    (reads_op (Set 1 2) 2 ≡ false) ×
    (reads_op (Set 1 2) 3 ≡ false)
uses-set = (refl, refl, refl, refl, refl)

-- to add reads a
uses-add :
    (writes_op (Add 1 2) 1 ≡ true) ×
    (writes_op (Add 1 2) 2 ≡ false) ×
    (reads_op (Add 1 2) 1 ≡ true) ×
    (reads_op (Add 1 2) 2 ≡ false) ×
    (reads_op (Add 1 2) 3 ≡ false)
uses-add = (refl, refl, refl, refl, refl)

-- to copy reads b and not a
uses-copy :
    (writes_op (Copy 1 2) 1 ≡ true) ×
    (writes_op (Copy 1 2) 2 ≡ false) ×
    (reads_op (Copy 1 2) 1 ≡ false) ×
    (reads_op (Copy 1 2) 2 ≡ true) ×
    (reads_op (Copy 1 2) 3 ≡ false)
uses-copy = (refl, refl, refl, refl, refl)

-- to add or subtract a variable reads both
uses-add-variable :
    (writes_op (AddVariable 1 2) 1 ≡ true) ×
    (writes_op (AddVariable 1 2) 2 ≡ false) ×
    (reads_op (AddVariable 1 2) 1 ≡ true) ×
    (reads_op (AddVariable 1 2) 2 ≡ true) ×
    (reads_op (AddVariable 1 2) 3 ≡ false)
uses-add-variable = (refl, refl, refl, refl, refl)

uses-sub-variable :
    (writes_op (SubVariable 1 2) 1 ≡ true) ×
    (writes_op (SubVariable 1 2) 2 ≡ false) ×
    (reads_op (SubVariable 1 2) 1 ≡ true) ×
    (reads_op (SubVariable 1 2) 2 ≡ true) ×
    (reads_op (SubVariable 1 2) 3 ≡ false)
uses-sub-variable = (refl, refl, refl, refl, refl)

-- to notify touches no variable
uses-notify :
    (writes_op (Notify 1) 1 ≡ false) ×
    (reads_op (Notify 1) 1 ≡ false)
uses-notify = (refl, refl)

-- "The test variable counts as read": by a wait for time or an event; with 255 there is none; an end tests nothing
tested :
    (tests End 0 ≡ false) ×
    (tests (waits 5 (next 0 0 3 0)) 2 ≡ false) ×
    (tests (waits 5 (next 0 0 3 0)) 3 ≡ true) ×
    (tests (waits 5 (next 0 0 3 0)) 4 ≡ false) ×
    (tests (Event 2 (next 0 0 3 0)) 3 ≡ true) ×
    (tests (Event 2 (next 0 0 3 0)) 2 ≡ false) ×
    (tests (waits 5 (always 0)) 255 ≡ false) ×
    (tests (waits 5 (next 0 0 254 0)) 254 ≡ true) ×
    (tests (Event 2 (always 0)) 255 ≡ false)
unfolding tests tests_next
tested = (refl, refl, refl, refl, refl, refl, refl, refl, refl)

abbrev reaching : Segment
reaching = segment (waits 1 (next 0 0 3 5)) (does (Set 0 9) ∷ does (Copy 1 2) ∷ does (Notify 5) ∷ [])

-- written, read, tested, and neither
footprint :
    (writes_of reaching 0 ≡ true) ×
    (writes_of reaching 1 ≡ true) ×
    (writes_of reaching 2 ≡ false) ×
    (writes_of reaching 3 ≡ false) ×
    (uses_of reaching 0 ≡ true) ×
    (uses_of reaching 1 ≡ true) ×
    (uses_of reaching 2 ≡ true) ×
    (uses_of reaching 3 ≡ true) ×
    (uses_of reaching 4 ≡ false) ×
    (uses_of reaching 5 ≡ false)
unfolding writes_of uses_of writes reads tests tests_next body_of
footprint = (refl, refl, refl, refl, refl, refl, refl, refl, refl, refl)

-- the same of a thread in a segment, and what it lists as notifying
footprint-in :
    (writes_in (model 9 4 6 (no_segment ∷ reaching ∷ []) []) 0 1 0 ≡ true) ×
    (writes_in (model 9 4 6 (no_segment ∷ reaching ∷ []) []) 1 0 0 ≡ false) ×
    (uses_in (model 9 4 6 (no_segment ∷ reaching ∷ []) []) 0 1 3 ≡ true) ×
    (uses_in (model 9 4 6 (no_segment ∷ reaching ∷ []) []) 0 0 3 ≡ false) ×
    (notifies_in (model 9 4 6 (no_segment ∷ reaching ∷ []) []) 0 1 5 ≡ true) ×
    (notifies_in (model 9 4 6 (no_segment ∷ reaching ∷ []) []) 0 1 4 ≡ false) ×
    (notifies_in (model 9 4 6 (no_segment ∷ reaching ∷ []) []) 0 0 5 ≡ false)
unfolding segment_for writes_in uses_in writes_of uses_of writes reads tests tests_next notifies_in listed_in has notified_by segment_at body_of map_segment map_statements mapped is_port
footprint-in = (refl, refl, refl, refl, refl, refl, refl)

-- Rules

-- H at 0, 1, 1,000,000,000 and one more; V at 64 and 65; E at 32 and 33
head :
    (head_fault 0 0 0 ≡ 4) ×
    (head_fault 1 0 0 ≡ 0) ×
    (head_fault 1000000000 0 0 ≡ 0) ×
    (head_fault 1000000001 0 0 ≡ 4) ×
    (head_fault 1 64 0 ≡ 0) ×
    (head_fault 1 65 0 ≡ 4) ×
    (head_fault 1 0 32 ≡ 0) ×
    (head_fault 1 0 33 ≡ 4)
unfolding head_fault
head = (refl, refl, refl, refl, refl, refl, refl, refl)

-- "With 255, B equals A and the limit is 0." With 254 neither is asked
choice :
    (choice_fault (next 1 1 255 0) ≡ 0) ×
    (choice_fault (next 1 2 255 0) ≡ 5) ×
    (choice_fault (next 1 1 255 1) ≡ 5) ×
    (choice_fault (next 1 2 254 1) ≡ 0)
unfolding choice_fault
choice = (refl, refl, refl, refl)

-- V - 1, V, 254 and 255
test-variable :
    (test_fault 3 (next 0 0 2 0) ≡ 0) ×
    (test_fault 3 (next 0 0 3 0) ≡ 7) ×
    (test_fault 64 (next 0 0 63 0) ≡ 0) ×
    (test_fault 64 (next 0 0 64 0) ≡ 7) ×
    (test_fault 64 (next 0 0 254 0) ≡ 7) ×
    (test_fault 0 (next 0 0 255 0) ≡ 0) ×
    (test_fault 0 (next 0 0 0 0) ≡ 7)
unfolding test_fault is_name is_port
test-variable = (refl, refl, refl, refl, refl, refl, refl)

-- an end names nothing; the delay at 1,000,000,000 and one more; the event at E - 1 and E
closers :
    (closer_fault 0 0 End ≡ 0) ×
    (closer_fault 0 0 (waits 0 (always 0)) ≡ 0) ×
    (closer_fault 0 0 (waits 1000000000 (always 0)) ≡ 0) ×
    (closer_fault 0 0 (waits 1000000001 (always 0)) ≡ 5) ×
    (closer_fault 0 3 (Event 2 (always 0)) ≡ 0) ×
    (closer_fault 0 3 (Event 3 (always 0)) ≡ 7) ×
    (closer_fault 1 0 (waits 0 (next 0 0 0 0)) ≡ 0) ×
    (closer_fault 0 0 (waits 0 (next 0 0 0 0)) ≡ 7) ×
    (closer_fault 0 1 (Event 0 (next 0 0 0 0)) ≡ 7)
unfolding closer_fault choice_fault test_fault or_else is_name is_port
closers = (refl, refl, refl, refl, refl, refl, refl, refl, refl)

-- "the closer's 5 and 7": 5 comes first
closer-order :
    (closer_fault 0 0 (waits 1000000001 (next 0 0 9 0)) ≡ 5) ×
    (closer_fault 0 0 (Event 9 (next 0 1 255 0)) ≡ 5) ×
    (closer_fault 0 0 (waits 0 (next 0 1 255 0)) ≡ 5)
unfolding closer_fault choice_fault test_fault or_else
closer-order = (refl, refl, refl)

-- a at V - 1 and V; b is a number in operations 1 and 2, and the whole number counts in 3 to 5
names :
    (op_fault 1 0 (Set 0 4294967295) ≡ 0) ×
    (op_fault 1 0 (Set 1 0) ≡ 7) ×
    (op_fault 1 0 (Add 0 4294967295) ≡ 0) ×
    (op_fault 1 0 (Add 1 0) ≡ 7) ×
    (op_fault 2 0 (Copy 1 1) ≡ 0) ×
    (op_fault 2 0 (Copy 2 1) ≡ 7) ×
    (op_fault 2 0 (Copy 1 2) ≡ 7) ×
    (op_fault 2 0 (Copy 1 256) ≡ 7) ×
    (op_fault 2 0 (AddVariable 1 1) ≡ 0) ×
    (op_fault 2 0 (AddVariable 2 1) ≡ 7) ×
    (op_fault 2 0 (AddVariable 1 2) ≡ 7) ×
    (op_fault 2 0 (AddVariable 1 256) ≡ 7) ×
    (op_fault 2 0 (SubVariable 1 1) ≡ 0) ×
    (op_fault 2 0 (SubVariable 2 1) ≡ 7) ×
    (op_fault 2 0 (SubVariable 1 2) ≡ 7) ×
    (op_fault 2 0 (SubVariable 1 256) ≡ 7) ×
    (op_fault 0 3 (Notify 2) ≡ 0) ×
    (op_fault 0 3 (Notify 3) ≡ 7)
unfolding op_fault is_name is_port
names = (refl, refl, refl, refl, refl, refl, refl, refl, refl, refl, refl, refl, refl, refl, refl, refl, refl, refl)

-- 32 and 33 statements; 3 before the closer's 5; the closer's 5 before a statement's 7; a fault past the n statements does not count
segments :
    (segment_fault 1 0 (segment End (replicate 32 no_statement)) ≡ 0) ×
    (segment_fault 1 0 (segment End (replicate 33 no_statement)) ≡ 3) ×
    (segment_fault 1 0 (segment (waits 1000000001 (always 0)) (replicate 33 no_statement)) ≡ 3) ×
    (segment_fault 0 0 (segment (waits 1000000001 (always 0)) (does (Set 0 0) ∷ [])) ≡ 5) ×
    (segment_fault 1 0 (segment End (does (Set 0 0) ∷ does (Set 1 0) ∷ [])) ≡ 7) ×
    (segment_fault 1 0 (record { closer = End; n = 1; statements = does (Set 0 0) ∷ does (Set 1 0) ∷ [] }) ≡ 0)
unfolding segment_fault statements_fault closer_fault choice_fault test_fault op_fault or_else first_below is_name is_port
segments = (refl, refl, refl, refl, refl, refl)

-- 64 and 65 segments; the first segment with a fault counts; one past N does not
each-segment :
    (segments_fault (model 1 0 0 (replicate 64 no_segment) []) ≡ 0) ×
    (segments_fault (model 1 0 0 (replicate 65 no_segment) []) ≡ 4) ×
    (segments_fault (model 1 0 0 (segment End (does (Set 0 0) ∷ []) ∷ segment (waits 1000000001 (always 0)) [] ∷ []) []) ≡ 7) ×
    (segments_fault (model 1 0 0 (segment (waits 1000000001 (always 0)) [] ∷ segment End (does (Set 0 0) ∷ []) ∷ []) []) ≡ 5) ×
    (segments_fault (record { horizon = record { 0 = 1 }; v = 0; e = 0; n = 1; t = 0; segments = no_segment ∷ segment End (does (Set 0 0) ∷ []) ∷ []; starts = [] }) ≡ 0)
unfolding segments_fault segment_fault statements_fault closer_fault choice_fault test_fault op_fault segment_at or_else first_below is_name is_port
each-segment = (refl, refl, refl, refl, refl)

-- no segment, no thread, 32 and 33 threads; a missing segment before a 33rd thread
counts :
    (counts_fault (model 1 0 0 [] (0 ∷ [])) ≡ 2) ×
    (counts_fault (model 1 0 0 (no_segment ∷ []) []) ≡ 2) ×
    (counts_fault (model 1 0 0 (no_segment ∷ []) (0 ∷ [])) ≡ 0) ×
    (counts_fault (model 1 0 0 (no_segment ∷ []) (replicate 32 0)) ≡ 0) ×
    (counts_fault (model 1 0 0 (no_segment ∷ []) (replicate 33 0)) ≡ 4) ×
    (counts_fault (model 1 0 0 [] (replicate 33 0)) ≡ 2)
unfolding counts_fault or_else starts_fault first_below ports_fault any_below ports_at start_at
counts = (refl, refl, refl, refl, refl, refl)

-- A and B at N - 1 and N; an end names no segment
leaving :
    (leaves_model 0 End ≡ false) ×
    (leaves_model 2 (waits 1 (next 1 1 0 0)) ≡ false) ×
    (leaves_model 2 (waits 1 (next 2 1 0 0)) ≡ true) ×
    (leaves_model 2 (waits 1 (next 1 2 0 0)) ≡ true) ×
    (leaves_model 2 (Event 0 (next 1 1 0 0)) ≡ false) ×
    (leaves_model 2 (Event 0 (next 2 1 0 0)) ≡ true) ×
    (leaves_model 2 (Event 0 (next 1 2 0 0)) ≡ true)
unfolding leaves_model
leaving = (refl, refl, refl, refl, refl, refl, refl)

-- a model of which n segments and t threads count
abbrev counted : ℕ → ℕ → List Segment → List ℕ → Model
counted n t gs ss = let m = model 1 0 0 gs ss in record { horizon = m.horizon; v = 0; e = 0; n = n; t = t; segments = m.segments; starts = m.starts }

-- a next segment at N - 1 and N, a first segment at N - 1 and N; a segment past N and a thread past T name nothing
targets :
    (targets_fault (model 1 0 0 (segment (waits 1 (always 1)) [] ∷ no_segment ∷ []) (1 ∷ [])) ≡ 0) ×
    (targets_fault (model 1 0 0 (no_segment ∷ segment (waits 1 (always 2)) [] ∷ []) (1 ∷ [])) ≡ 8) ×
    (targets_fault (model 1 0 0 (no_segment ∷ no_segment ∷ []) (0 ∷ 2 ∷ [])) ≡ 8) ×
    (targets_fault (model 1 0 0 (no_segment ∷ no_segment ∷ []) (0 ∷ 1 ∷ [])) ≡ 0) ×
    (targets_fault (counted 1 1 (no_segment ∷ segment (waits 1 (always 9)) [] ∷ []) (0 ∷ 9 ∷ [])) ≡ 0) ×
    (targets_fault (counted 2 1 (no_segment ∷ segment (waits 1 (always 9)) [] ∷ []) (0 ∷ 9 ∷ [])) ≡ 8) ×
    (targets_fault (counted 1 2 (no_segment ∷ segment (waits 1 (always 9)) [] ∷ []) (0 ∷ 9 ∷ [])) ≡ 8)
unfolding targets_fault any_segment_leaves any_start_leaves leaves_model segment_at start_at any_below
targets = (refl, refl, refl, refl, refl, refl, refl)

-- none; 4 before all; a segment's fault before a missing thread; a missing thread before 8; 8 last
whole :
    (model_fault (model 10 0 0 (no_segment ∷ []) (0 ∷ [])) ≡ 0) ×
    (model_fault (model 0 0 0 (segment End (does (Set 0 0) ∷ []) ∷ []) []) ≡ 4) ×
    (model_fault (model 1 0 0 (segment End (does (Set 0 0) ∷ []) ∷ []) []) ≡ 7) ×
    (model_fault (model 1 0 0 (segment (waits 1 (always 1)) [] ∷ []) []) ≡ 2) ×
    (model_fault (model 1 0 0 (segment (waits 1 (always 1)) [] ∷ []) (0 ∷ [])) ≡ 8) ×
    (model_fault (model 1 0 0 (no_segment ∷ []) (1 ∷ [])) ≡ 8) ×
    (model_fault (model 1 0 0 [] (0 ∷ [])) ≡ 2) ×
    (model_fault no_model ≡ 4)
unfolding model_fault head_fault segments_fault segment_fault statements_fault closer_fault choice_fault test_fault op_fault counts_fault targets_fault any_segment_leaves any_start_leaves leaves_model segment_at start_at or_else first_below any_below starts_fault ports_fault ports_at links_fault lack_fault lacks_from lacks_port names_port uses_of writes_of writes body_of reads tests is_name is_port
whole = (refl, refl, refl, refl, refl, refl, refl, refl)
