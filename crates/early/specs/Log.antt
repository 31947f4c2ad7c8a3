-- Document 01, "Early issue": the log. "a log of 128 places for notifications (event, cycle), an equal pair held once".
use Rattle.std.specs.Prelude.{ℕ, zero, suc, ◌-◌, Bool, true, false, cond, not, ◌&&◌, ◌||◌, List, [], ◌∷◌, ◌++◌, eqb, length, take, replicate}
use Rattle.clock.specs.declared.Cycle.{Cycle}
use Rattle.clock.specs.declared.Bound.{Bound}
use Rattle.clock.specs.declared.Bound.TheVariants.{Never, At}
use Rattle.clock.specs.Cycle.{cycle_at, is_before, is_same}
use Rattle.clock.specs.Advance.{least}
use Rattle.model.specs.declared.Model.{Model}
use Rattle.model.specs.declared.Thread.{Thread}
use Rattle.model.specs.Record.{thread_at, cycle_of, is_running}
use Rattle.model.specs.Footprint.{listed_in}
use Rattle.early.specs.declared.Notification.{Notification}
use Rattle.early.specs.declared.Site.{Site}

abbrev pub places : ℕ
places = 128

abbrev pub pair_of : ℕ → Cycle → Notification
pair_of e c = record { event = e; cycle = c }

-- the places below the count; those past it are not looked at
unfoldable pub log_of : Site → List Notification
log_of s = take s.count s.log

-- "after a grant the places past its count are 0"
unfoldable pub site_of : List ℕ → List Notification → Site
site_of v l =
    record { variables = record { at = v }; log = l ++ replicate (places - length l) (pair_of 0 (cycle_at 0 0)); count = length l }

unfoldable pub is_same_pair : Notification → Notification → Bool
is_same_pair a b = eqb a.event b.event && is_same a.cycle b.cycle

unfoldable pub holds : List Notification → Notification → Bool
holds [] x = false
holds (y ∷ ys) x = is_same_pair y x || holds ys x

-- "an equal pair held once. New pairs go to its end in statement order": the events es, notified at c
unfoldable pub with_pair : List Notification → Notification → List Notification
with_pair l x = cond (holds l x) l (l ++ (x ∷ []))

unfoldable pub with_pairs : List Notification → Cycle → List ℕ → List Notification
with_pairs l c [] = l
with_pairs l c (e ∷ es) = with_pairs (with_pair l (pair_of e c)) c es

-- "log plus new pairs": the places that it takes with the pairs of the events es at c
abbrev pub places_with : List Notification → Cycle → List ℕ → ℕ
places_with l c es = length (with_pairs l c es)

-- Document 02, slip 7: "its log places are counted from the grant, an equal pair once": the log with the pairs of all that the running
-- threads below k list
unfoldable pub with_running : Model → List Thread → List Notification → ℕ → List Notification
with_running m ts l zero = l
with_running m ts l (suc k) =
    let x = thread_at ts k in
    let before = with_running m ts l k in
    cond (is_running x.state) (with_pairs before (cycle_of x.state) (listed_in m k x.segment)) before

-- the places that are taken, or counted for a running thread
abbrev pub counted_log : Model → List Thread → List Notification → List Notification
counted_log m ts l = with_running m ts l m.t

-- the places that 15 counts: with those, the new pairs of all that the segment s of thread k lists
unfoldable pub counted_places : Model → Site → List Thread → ℕ → ℕ → Cycle → ℕ
counted_places m site ts k s c = places_with (counted_log m ts (log_of site)) c (listed_in m k s)

-- "the least logged notification not before its wait", of event e since a cycle
unfoldable pub is_heard : ℕ → Cycle → Notification → Bool
is_heard e since x = eqb x.event e && not (is_before x.cycle since)

unfoldable pub least_heard : List Notification → ℕ → Cycle → Bound
least_heard [] e since = Never
least_heard (x ∷ xs) e since = least (cond (is_heard e since x) (At x.cycle) Never) (least_heard xs e since)

-- "notifications before the floor .. are dropped, all of them if none is ready"; "dropped ones close up in order"
unfoldable pub is_dropped : Bound → Notification → Bool
is_dropped Never x = true
is_dropped (At f) x = is_before x.cycle f

unfoldable pub drop_before : Bound → List Notification → List Notification
drop_before f [] = []
drop_before f (x ∷ xs) = let rest = drop_before f xs in cond (is_dropped f x) rest (x ∷ rest)
