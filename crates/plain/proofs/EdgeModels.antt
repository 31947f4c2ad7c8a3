-- Places and small models for the closed examples of Edges and RunEdges.
use Prim.Native.Nat.{ℕ}
use mathlib.Core.Bool.{Bool}
use mathlib.Core.List.{List, [], ◌∷◌, ◌++◌}
use lib.ListN.{take, replicate}
use Rattle.clock.specs.declared.Cycle.{Cycle}
use Rattle.model.specs.declared.Op.{Op}
use Rattle.model.specs.declared.Op.TheVariants.{Set, Notify}
use Rattle.model.specs.declared.Statement.{Statement}
use Rattle.model.specs.declared.Next.{Next}
use Rattle.model.specs.declared.Closer.{Closer}
use Rattle.model.specs.declared.Closer.TheVariants.{End, Time, Event}
use Rattle.model.specs.declared.Segment.{Segment}
use Rattle.model.specs.declared.Model.{Model}
use Rattle.model.specs.declared.State.{State}
use Rattle.model.specs.declared.Thread.{Thread}
use Rattle.model.specs.Port.{no_ports}
use Rattle.model.specs.Values.{no_statement, no_model, with_head, with_segment, with_start}
use Rattle.plain.specs.declared.PlainRun.{PlainRun}
use Rattle.plain.specs.Start.{Place, start_of}
use Rattle.plain.specs.Run.{run_for, reported}
use Rattle.plain.proofs.Computed.{computed}

-- segments: of so many operations, the rest of the 32 places unused; one that waits k units; one that waits on an event; one that ends
unfoldable pub segment_of : Closer → ℕ → ℕ → List Statement → Segment
segment_of x n unused ss = record { closer = x; n = n; statements = ss ++ replicate unused no_statement }

abbrev pub onward : ℕ → Next
onward s = record { a = s; b = s; test = 255; limit = 0 }

abbrev pub waiting : ℕ → ℕ → Segment
waiting k s = segment_of (Time (record { 0 = k }) (onward s)) 0 32 []

abbrev pub hearing : ℕ → ℕ → Segment
hearing e s = segment_of (Event e (onward s)) 0 32 []

abbrev pub only : Op → Segment
only o = segment_of End 1 31 (record { op = o } ∷ [])

abbrev pub ending : Segment
ending = segment_of End 0 32 []

-- models: horizon h, two variables, two events
unfoldable pub with_segments : Model → List Segment → Model
with_segments m [] = m
with_segments m (g ∷ gs) = with_segments (with_segment m g) gs

unfoldable pub with_starts : Model → List ℕ → Model
with_starts m [] = m
with_starts m (s ∷ ss) = with_starts (with_start m (record { first = s; ports = no_ports })) ss

unfoldable pub model_of : ℕ → List Segment → List ℕ → Model
model_of h gs ss = with_starts (with_segments (with_head no_model h 2 2) gs) ss

abbrev pub thread : ℕ → State → Thread
thread s x = record { segment = s; state = x }

abbrev pub placed : List Thread → Cycle → ℕ → List ℕ → Place
placed ts c turn es = record { variables = replicate 64 0; threads = ts; now = c; turn = turn; notified = es; n = 0 }

-- four threads, H = 10
unfoldable pub four : Model
four = model_of 10 (ending ∷ []) (0 ∷ 0 ∷ 0 ∷ 0 ∷ [])

-- two threads that set variable 0, to 7 and to 9
unfoldable pub writers : List ℕ → Model
writers ss = model_of 10 (only (Set 0 7) ∷ only (Set 0 9) ∷ []) ss

-- a thread that waits on event 0 and ends, one that notifies it, one that begins that wait a delta later, one that ends
unfoldable pub wakes : List ℕ → Model
wakes ss = model_of 10 (hearing 0 1 ∷ ending ∷ only (Notify 0) ∷ waiting 0 0 ∷ hearing 1 1 ∷ []) ss

-- one thread that ends; one that waits k units before it ends; one that waits k units again and again
unfoldable pub ends : ℕ → Model
ends h = model_of h (ending ∷ []) (0 ∷ [])

unfoldable pub waits : ℕ → ℕ → Model
waits k h = model_of h (waiting k 1 ∷ ending ∷ []) (0 ∷ [])

unfoldable pub again : ℕ → ℕ → Model
again k h = model_of h (waiting k 0 ∷ []) (0 ∷ [])

-- a run of at most 12 steps, with what it shows: n and "spent", and the first three records
abbrev pub run_of : Model → ℕ → PlainRun
run_of m budget = reported m (run_for m budget 12 (start_of m))

abbrev pub counts_of : PlainRun → ℕ × Bool
counts_of r = (r.n, r.spent)

abbrev pub end_of : Model → ℕ → List Thread
end_of m budget = take 3 (run_of m budget).threads.at

-- opens them all
unfoldable pub models : Unit {0}
unfolding computed segment_of with_segments with_starts model_of four writers wakes ends waits again
models = tt
