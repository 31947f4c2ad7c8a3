-- Document 01, "Cases": the files and models of the cases marked P.
use Rattle.std.specs.Prelude.{ℕ, List, [], ◌∷◌, ◌++◌, replicate}
use Rattle.model.specs.declared.Op.{Op}
use Rattle.model.specs.declared.Op.TheVariants.{Set, SubVariable, Notify}
use Rattle.model.specs.declared.Statement.{Statement}
use Rattle.model.specs.declared.Next.{Next}
use Rattle.model.specs.declared.Closer.{Closer}
use Rattle.model.specs.declared.Closer.TheVariants.{End, Time, Event}
use Rattle.model.specs.declared.Segment.{Segment}
use Rattle.model.specs.declared.Model.{Model}
use Rattle.model.specs.Port.{no_ports}
use Rattle.model.specs.Values.{no_statement, no_model, with_head, with_segment, with_start}

-- case 1: "the 36-byte file of H = 10, V = E = 0, one ending segment, one thread"
unfoldable pub file1 : List ℕ
file1 =
    (10 ∷ 0 ∷ 1 ∷ 0 ∷ 10 ∷ 0 ∷ 0 ∷ 0 ∷ 0 ∷ 0 ∷ [])
    ++ (17 ∷ 0 ∷ 2 ∷ 0 ∷ 0 ∷ 0 ∷ 0 ∷ 0 ∷ 0 ∷ 0 ∷ 0 ∷ 0 ∷ 0 ∷ 0 ∷ 0 ∷ 0 ∷ 0 ∷ [])
    ++ (5 ∷ 0 ∷ 3 ∷ 0 ∷ 0 ∷ [])
    ++ (4 ∷ 0 ∷ 4 ∷ 0 ∷ [])

-- the model M, 116 bytes: V = 3, E = 1, H = 1,261; segments 0 to 3; threads at 0 and 2
unfoldable pub file_m : List ℕ
file_m =
    (10 ∷ 0 ∷ 1 ∷ 0 ∷ 237 ∷ 4 ∷ 0 ∷ 0 ∷ 3 ∷ 1 ∷ [])
    ++ (29 ∷ 0 ∷ 2 ∷ 0 ∷ 1 ∷ 0 ∷ 10 ∷ 0 ∷ 0 ∷ 0 ∷ 0 ∷ 1 ∷ 0 ∷ 126 ∷ 0 ∷ 0 ∷ 0 ∷ [])
    ++ (2 ∷ 0 ∷ 1 ∷ 0 ∷ 0 ∷ 0 ∷ 6 ∷ 0 ∷ 0 ∷ 0 ∷ 0 ∷ 0 ∷ [])
    ++ (17 ∷ 0 ∷ 2 ∷ 0 ∷ 0 ∷ 0 ∷ 0 ∷ 0 ∷ 0 ∷ 0 ∷ 0 ∷ 0 ∷ 0 ∷ 0 ∷ 0 ∷ 0 ∷ 0 ∷ [])
    ++ (17 ∷ 0 ∷ 2 ∷ 0 ∷ 2 ∷ 0 ∷ 0 ∷ 0 ∷ 0 ∷ 0 ∷ 3 ∷ 3 ∷ 255 ∷ 0 ∷ 0 ∷ 0 ∷ 0 ∷ [])
    ++ (29 ∷ 0 ∷ 2 ∷ 0 ∷ 2 ∷ 0 ∷ 0 ∷ 0 ∷ 0 ∷ 0 ∷ 3 ∷ 3 ∷ 255 ∷ 0 ∷ 0 ∷ 0 ∷ 0 ∷ [])
    ++ (3 ∷ 1 ∷ 0 ∷ 0 ∷ 0 ∷ 0 ∷ 2 ∷ 2 ∷ 1 ∷ 0 ∷ 0 ∷ 0 ∷ [])
    ++ (5 ∷ 0 ∷ 3 ∷ 0 ∷ 0 ∷ [])
    ++ (5 ∷ 0 ∷ 3 ∷ 0 ∷ 2 ∷ [])
    ++ (4 ∷ 0 ∷ 4 ∷ 0 ∷ [])

-- a segment of so many operations, the rest of its 32 places unused
unfoldable pub segment_of : Closer → ℕ → ℕ → List Statement → Segment
segment_of x n unused ss = record { closer = x; n = n; statements = ss ++ replicate unused no_statement }

abbrev pub says : Op → Statement
says o = record { op = o }

abbrev pub onward : ℕ → Next
onward s = record { a = s; b = s; test = 255; limit = 0 }

-- a segment that waits k units, one that ends after an operation, one that ends
abbrev pub waiting : ℕ → ℕ → Segment
waiting k s = segment_of (Time (record { 0 = k }) (onward s)) 0 32 []

abbrev pub only : Op → Segment
only o = segment_of End 1 31 (says o ∷ [])

abbrev pub ending : Segment
ending = segment_of End 0 32 []

-- a model from its head, its segments and its threads' first segments, without ports
unfoldable pub with_segments : Model → List Segment → Model
with_segments m [] = m
with_segments m (g ∷ gs) = with_segments (with_segment m g) gs

unfoldable pub with_starts : Model → List ℕ → Model
with_starts m [] = m
with_starts m (s ∷ ss) = with_starts (with_start m (record { first = s; ports = no_ports })) ss

unfoldable pub model_of : ℕ → ℕ → ℕ → List Segment → List ℕ → Model
model_of h v e gs ss = with_starts (with_segments (with_head no_model h v e) gs) ss

-- cases 6 and 7: "two threads set one variable, to 0 at (5, 0) and to 1 at (10, 0)"; "the same with two variables"
unfoldable pub setters : ℕ → Model
setters second = model_of 100 2 0 (waiting 5 2 ∷ waiting 10 3 ∷ only (Set 0 0) ∷ only (Set second 1) ∷ []) (0 ∷ 1 ∷ [])

-- cases 8 and 9: thread 0 waits on event 0 from (0, 0); thread 1 notifies it at (5, 0), thread 2 at (2, 0)
unfoldable pub notifiers : Model
notifiers =
    model_of 100 0 1 (segment_of (Event 0 (onward 3)) 0 32 [] ∷ waiting 5 4 ∷ waiting 2 4 ∷ ending ∷ only (Notify 0) ∷ []) (0 ∷ 1 ∷ 2 ∷ [])

-- case 10: from segment 0 to segment 2 over waits a, then b
unfoldable pub waits : ℕ → ℕ → Model
waits a b = model_of 100 0 0 (waiting a 1 ∷ waiting b 2 ∷ ending ∷ []) (0 ∷ [])

-- case 11: "subtracting 1 from 0"
unfoldable pub subtracts : Model
subtracts = model_of 10 2 0 (segment_of End 2 30 (says (Set 1 1) ∷ says (SubVariable 0 1) ∷ []) ∷ []) (0 ∷ [])

-- case 12: "a zero wait"
unfoldable pub zero_wait : Model
zero_wait = model_of 10 0 0 (waiting 0 0 ∷ []) (0 ∷ [])
