-- Document 01, "Early issue": "Hazard: another live thread could run, at a smaller stamp by earliest plus distance, a
-- segment that conflicts."
use Rattle.std.specs.Prelude.{ℕ, Bool, false, not, ◌&&◌, ◌||◌, List, eqb, get_or}
use Rattle.base.specs.Index.{any_below}
use Rattle.clock.specs.declared.Cycle.{Cycle}
use Rattle.clock.specs.declared.Stamp.{Stamp}
use Rattle.clock.specs.declared.Bound.{Bound}
use Rattle.clock.specs.declared.Bound.TheVariants.{Never, At}
use Rattle.clock.specs.Cycle.{stamp_at, is_stamp_before}
use Rattle.clock.specs.Advance.{◌⊕◌}
use Rattle.model.specs.declared.Model.{Model}
use Rattle.model.specs.declared.Thread.{Thread}
use Rattle.model.specs.Record.{thread_at, is_live}
use Rattle.model.specs.Footprint.{writes_in, uses_in, uses_by_port}
use Rattle.tables.specs.Conflict.{mark_at}
use Rattle.tables.specs.Word.{distance_in}
use Rattle.early.specs.declared.Notification.{Notification}
use Rattle.early.specs.Earliest.{earliest_of}

-- "a conflict through a port": thread i in segment r and thread j in segment s, "after mapping", both access a variable which at least
-- one writes, and at least one names through a port
unfoldable pub ports_conflict : Model → ℕ → ℕ → ℕ → ℕ → Bool
ports_conflict m i r j s =
    any_below m.v
    (λ v. (uses_in m i r v && uses_in m j s v) && ((writes_in m i r v || writes_in m j s v) && (uses_by_port m i r v || uses_by_port m j s v)))

-- whether thread i in segment r conflicts with thread j in segment s: the mark at row r, column s, or through a port
unfoldable pub threads_conflict : Model → List (List Bool) → ℕ → ℕ → ℕ → ℕ → Bool
threads_conflict m marks i r j s = mark_at marks r s || ports_conflict m i r j s

-- "at a smaller stamp": thread j, at bound b, before a stamp
unfoldable pub is_sooner : Bound → ℕ → Stamp → Bool
is_sooner Never j x = false
is_sooner (At b) j x = is_stamp_before (stamp_at b j) x

-- whether thread j, no sooner than b, could run a conflicting segment before thread i runs at c
unfoldable pub threatens : Model → List (List Bool) → List ℕ → List Thread → ℕ → Cycle → ℕ → Bound → Bool
threatens m marks ws ts i c j b =
    any_below m.n (λ s. threads_conflict m marks i (thread_at ts i).segment j s && is_sooner (b ⊕ distance_in m ws (thread_at ts j).segment s) j (stamp_at c i))

unfoldable pub hazard : Model → List (List Bool) → List ℕ → List Notification → List Thread → ℕ → Cycle → Bool
hazard m marks ws l ts i c =
    let xs = earliest_of m ws l ts in
    any_below m.t (λ j. (not (eqb j i) && is_live (thread_at ts j).state) && threatens m marks ws ts i c j (get_or xs j Never))
