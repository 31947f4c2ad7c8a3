-- Document 02, slip 2, for C and Rust: "a model held as values", as numbers in a lent slice. H, V, E, N, T; then 104 numbers for each
-- segment: kind, event, delay, A, B, test, limit, n, and 32 places for statements of operation, a, b; then nine for each thread: its first
-- segment and its ports.
use Rattle.std.specs.Prelude.{ℕ, ◌+◌, ◌-◌, ◌*◌, List, [], ◌∷◌, ◌++◌, get_or, replicate}
use Rattle.base.specs.Index.{tabulate}
use Rattle.model.specs.declared.Next.{Next}
use Rattle.model.specs.declared.Op.{Op}
use Rattle.model.specs.declared.Op.TheVariants.{Set, Add, Copy, AddVariable, SubVariable, Notify}
use Rattle.model.specs.declared.Closer.{Closer}
use Rattle.model.specs.declared.Closer.TheVariants.{End, Time, Event}
use Rattle.model.specs.declared.Segment.{Segment}
use Rattle.model.specs.declared.Start.{Start}
use Rattle.model.specs.declared.Model.{Model}
use Rattle.model.specs.Port.{port_of}
use Rattle.model.specs.Values.{no_statement, segment_at, start_at}
use Rattle.reader.specs.Closer.{closer_of}
use Rattle.reader.specs.Statement.{op_of}
use Rattle.writer.specs.Bytes.{joined}

abbrev pub number_at : List ℕ → ℕ → ℕ
number_at xs i = get_or xs i 0

abbrev pub count_n : List ℕ → ℕ
count_n xs = number_at xs 3

abbrev pub count_t : List ℕ → ℕ
count_t xs = number_at xs 4

-- where segment i begins, where its statement j begins, where thread k stands, and its port p
abbrev pub segment_place : ℕ → ℕ
segment_place i = 5 + 104 * i

abbrev pub statement_place : ℕ → ℕ → ℕ
statement_place i j = segment_place i + 8 + 3 * j

abbrev pub start_place : ℕ → ℕ → ℕ
start_place n k = segment_place n + 9 * k

abbrev pub port_place : ℕ → ℕ → ℕ → ℕ
port_place n k p = start_place n k + 1 + p

-- how many numbers a model of n segments and t threads takes
abbrev pub size_of : ℕ → ℕ → ℕ
size_of n t = start_place n t

-- THE MODEL THAT THE NUMBERS HOLD

abbrev pub next_held : List ℕ → ℕ → Next
next_held xs p = record { a = number_at xs (p + 3); b = number_at xs (p + 4); test = number_at xs (p + 5); limit = number_at xs (p + 6) }

abbrev pub closer_held : List ℕ → ℕ → Closer
closer_held xs p = closer_of (number_at xs p) (number_at xs (p + 1)) (number_at xs (p + 2)) (next_held xs p)

abbrev pub op_held : List ℕ → ℕ → Op
op_held xs p = op_of (number_at xs p) (number_at xs (p + 1)) (number_at xs (p + 2))

abbrev pub statements_held : List ℕ → ℕ → ℕ
statements_held xs i = number_at xs (segment_place i + 7)

-- THE NUMBERS OF A MODEL

unfoldable pub next_numbers : Next → List ℕ
next_numbers x = x.a ∷ x.b ∷ x.test ∷ x.limit ∷ []

unfoldable pub closer_numbers : Closer → List ℕ
closer_numbers End = 0 ∷ 0 ∷ 0 ∷ 0 ∷ 0 ∷ 0 ∷ 0 ∷ []
closer_numbers (Time k x) = 1 ∷ 0 ∷ k.0 ∷ next_numbers x
closer_numbers (Event e x) = 2 ∷ e ∷ 0 ∷ next_numbers x

unfoldable pub op_numbers : Op → List ℕ
op_numbers (Set a b) = 1 ∷ a ∷ b ∷ []
op_numbers (Add a b) = 2 ∷ a ∷ b ∷ []
op_numbers (Copy a b) = 3 ∷ a ∷ b ∷ []
op_numbers (AddVariable a b) = 4 ∷ a ∷ b ∷ []
op_numbers (SubVariable a b) = 5 ∷ a ∷ b ∷ []
op_numbers (Notify e) = 6 ∷ e ∷ 0 ∷ []

-- 104 of them: places past n are 0
unfoldable pub segment_numbers : Segment → List ℕ
segment_numbers g =
    closer_numbers g.closer
    ++ (g.n ∷ (joined g.n 0 (λ j. op_numbers (get_or g.statements j no_statement).op) ++ replicate (96 - 3 * g.n) 0))

unfoldable pub start_numbers : Start → List ℕ
start_numbers s = s.first ∷ tabulate 8 0 (λ p. port_of s.ports p)

unfoldable pub numbers_of : Model → List ℕ
numbers_of m =
    m.horizon.0 ∷ m.v ∷ m.e ∷ m.n ∷ m.t
    ∷ (joined m.n 0 (λ i. segment_numbers (segment_at m i)) ++ joined m.t 0 (λ k. start_numbers (start_at m k)))
