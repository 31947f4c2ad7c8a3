-- Document 01, "Tables": the variables that a segment accesses, and the events that it lists as notifying.
use Rattle.std.specs.Prelude.{ℕ, ◌+◌, Bool, false, not, ◌&&◌, ◌||◌, List, [], ◌∷◌, eqb}
use Rattle.base.specs.Index.{any_below}
use Rattle.model.specs.declared.Op.{Op}
use Rattle.model.specs.declared.Op.TheVariants.{Set, Add, Copy, AddVariable, SubVariable, Notify}
use Rattle.model.specs.declared.Statement.{Statement}
use Rattle.model.specs.declared.Next.{Next}
use Rattle.model.specs.declared.Closer.{Closer}
use Rattle.model.specs.declared.Closer.TheVariants.{End, Time, Event}
use Rattle.model.specs.declared.Segment.{Segment}
use Rattle.model.specs.declared.Model.{Model}
use Rattle.model.specs.Port.{first_port, port_of}
use Rattle.model.specs.Values.{segment_at, ports_at, segment_for, body_of}
use Rattle.model.specs.Statement.{notified_by}
use Rattle.model.specs.Effect.{no_test}

abbrev pub writes_op : Op → ℕ → Bool
writes_op (Set a b) v = eqb a v
writes_op (Add a b) v = eqb a v
writes_op (Copy a b) v = eqb a v
writes_op (AddVariable a b) v = eqb a v
writes_op (SubVariable a b) v = eqb a v
writes_op (Notify w) v = false

abbrev pub reads_op : Op → ℕ → Bool
reads_op (Set a b) v = false
reads_op (Add a b) v = eqb a v
reads_op (Copy a b) v = eqb b v
reads_op (AddVariable a b) v = eqb a v || eqb b v
reads_op (SubVariable a b) v = eqb a v || eqb b v
reads_op (Notify w) v = false

unfoldable pub writes : List Statement → ℕ → Bool
writes [] v = false
writes (x ∷ xs) v = writes_op x.op v || writes xs v

unfoldable pub reads : List Statement → ℕ → Bool
reads [] v = false
reads (x ∷ xs) v = reads_op x.op v || reads xs v

-- "The test variable counts as read." With 255 there is none, and a closer of kind 0 names no variable.
unfoldable pub tests_next : Next → ℕ → Bool
tests_next x v = not (eqb x.test no_test) && eqb x.test v

unfoldable pub tests : Closer → ℕ → Bool
tests End v = false
tests (Time k x) v = tests_next x v
tests (Event e x) v = tests_next x v

-- whether segment g writes variable v; whether it accesses it: writes, reads or tests it
unfoldable pub writes_of : Segment → ℕ → Bool
writes_of g v = writes (body_of g) v

unfoldable pub uses_of : Segment → ℕ → Bool
uses_of g v = (writes_of g v || reads (body_of g) v) || tests g.closer v

-- the same of thread k in segment s
unfoldable pub writes_in : Model → ℕ → ℕ → ℕ → Bool
writes_in m k s v = writes_of (segment_for m k s) v

unfoldable pub uses_in : Model → ℕ → ℕ → ℕ → Bool
uses_in m k s v = uses_of (segment_for m k s) v

-- whether segment s names port p
unfoldable pub names_port : Model → ℕ → ℕ → Bool
names_port m s p = uses_of (segment_at m s) (first_port + p)

-- whether thread k names variable v through a port in segment s: "an unused port naming nothing"
unfoldable pub uses_by_port : Model → ℕ → ℕ → ℕ → Bool
uses_by_port m k s v = any_below 8 (λ p. names_port m s p && eqb (port_of (ports_at m k) p) v)

-- the events that thread k lists as notifying in segment s, whatever the variables
unfoldable pub listed_in : Model → ℕ → ℕ → List ℕ
listed_in m k s = notified_by (body_of (segment_for m k s))

-- whether e is among them
unfoldable pub has : List ℕ → ℕ → Bool
has [] e = false
has (x ∷ xs) e = eqb x e || has xs e

unfoldable pub notifies_in : Model → ℕ → ℕ → ℕ → Bool
notifies_in m k s e = has (listed_in m k s) e
