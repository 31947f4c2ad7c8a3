-- Document 02, "Modules with ports": "Variable numbers 128 to 135 may stand wherever a variable is named, and mean ports 0 to 7."
use Rattle.std.specs.Prelude.{ℕ, ◌-◌, Bool, cond, not, ◌&&◌, List, [], ◌∷◌, ltb, leb, eqb, get_or, replicate}
use Rattle.base.specs.Index.{any_below}
use Rattle.model.specs.declared.Op.{Op}
use Rattle.model.specs.declared.Op.TheVariants.{Set, Add, Copy, AddVariable, SubVariable, Notify}
use Rattle.model.specs.declared.Statement.{Statement}
use Rattle.model.specs.declared.Next.{Next}
use Rattle.model.specs.declared.Closer.{Closer}
use Rattle.model.specs.declared.Closer.TheVariants.{End, Time, Event}
use Rattle.model.specs.declared.Segment.{Segment}

-- "255 for an unused port"
abbrev pub unused : ℕ
unused = 255

-- "Without it all eight are unused."
abbrev pub no_ports : List ℕ
no_ports = replicate 8 unused

-- the number by which a segment names port p is 128 + p
abbrev pub first_port : ℕ
first_port = 128

unfoldable pub is_port : ℕ → Bool
is_port x = leb first_port x && ltb x 136

-- the variable of port p
abbrev pub port_of : List ℕ → ℕ → ℕ
port_of ps p = get_or ps p 0

-- whether some port is used
unfoldable pub uses_ports : List ℕ → Bool
uses_ports ps = any_below 8 (λ p. not (eqb (port_of ps p) unused))

-- "after mapping": the variable that a number names. No variable is numbered 255, so that an unused port names nothing.
unfoldable pub mapped : List ℕ → ℕ → ℕ
mapped ps x = cond (is_port x) (port_of ps (x - first_port)) x

abbrev pub map_op : List ℕ → Op → Op
map_op ps (Set a b) = Set (mapped ps a) b
map_op ps (Add a b) = Add (mapped ps a) b
map_op ps (Copy a b) = Copy (mapped ps a) (mapped ps b)
map_op ps (AddVariable a b) = AddVariable (mapped ps a) (mapped ps b)
map_op ps (SubVariable a b) = SubVariable (mapped ps a) (mapped ps b)
map_op ps (Notify w) = Notify w

abbrev pub map_statement : List ℕ → Statement → Statement
map_statement ps x = record { op = map_op ps x.op }

unfoldable pub map_statements : List ℕ → List Statement → List Statement
map_statements ps [] = []
map_statements ps (x ∷ xs) = map_statement ps x ∷ map_statements ps xs

abbrev pub map_next : List ℕ → Next → Next
map_next ps x = record { a = x.a; b = x.b; test = mapped ps x.test; limit = x.limit }

abbrev pub map_closer : List ℕ → Closer → Closer
map_closer ps End = End
map_closer ps (Time k x) = Time k (map_next ps x)
map_closer ps (Event e x) = Event e (map_next ps x)

unfoldable pub map_segment : List ℕ → Segment → Segment
map_segment ps g = record { closer = map_closer ps g.closer; n = g.n; statements = map_statements ps g.statements }
