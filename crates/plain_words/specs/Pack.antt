-- A model's segments as words.
use Rattle.std.specs.Prelude.{ℕ, zero, suc, ◌+◌, ◌-◌, ◌*◌, ◌/◌, ◌%◌, ◌<◌, ◌≤◌, ◌^◌, ◌≡◌, Bool, cond, ◌||◌, List, ltb, length, get_or}
use Rattle.base.specs.Index.{any_below, tabulate}
use Rattle.model.specs.declared.Op.{Op}
use Rattle.model.specs.declared.Op.TheVariants.{Set, Add, Copy, AddVariable, SubVariable, Notify}
use Rattle.model.specs.declared.Next.{Next}
use Rattle.model.specs.declared.Closer.{Closer}
use Rattle.model.specs.declared.Closer.TheVariants.{End, Time, Event}
use Rattle.model.specs.declared.Segment.{Segment}
use Rattle.model.specs.declared.Model.{Model}
use Rattle.model.specs.Port.{is_port, port_of}
use Rattle.model.specs.Values.{no_statement, segment_at, ports_at}
use Rattle.plain_words.specs.Unpack.{size_by}
use Rattle.plain_words.specs.Ports.{code_for, word_names, names_from, marked_if}

-- a statement: its operation, a and b
abbrev pub pack_op : Op → ℕ
pack_op (Set a b) = 0 + 8 * a + 2048 * b
pack_op (Add a b) = 1 + 8 * a + 2048 * b
pack_op (Copy a b) = 2 + 8 * a + 2048 * b
pack_op (AddVariable a b) = 3 + 8 * a + 2048 * b
pack_op (SubVariable a b) = 4 + 8 * a + 2048 * b
pack_op (Notify w) = 5 + 8 * w + 2048 * 0

-- the number that a statement sets or adds
abbrev pub constant_of : Op → ℕ
constant_of (Set a b) = b
constant_of (Add a b) = b
constant_of (Copy a b) = 0
constant_of (AddVariable a b) = 0
constant_of (SubVariable a b) = 0
constant_of (Notify w) = 0

-- a word holds a statement
pub record Held (o : Op) (w : ℕ) : Type 0 where
  pub word : w ≡ pack_op o
  pub constant : constant_of o < 2 ^ 32

-- a number of statements, at most the 32 that a row has
unfoldable pub few : ℕ → ℕ
few n = cond (ltb n 32) n 32

-- how a segment of n statements closes: the kind, and the delay or the event
abbrev pub pack_end : ℕ → Closer → ℕ
pack_end n End = 4 * few n
pack_end n (Time k x) = 1 + 4 * few n + 1024 * k.0
pack_end n (Event e x) = 2 + 4 * few n + 1024 * e

abbrev pub pack_next : Next → ℕ
pack_next x = x.a + 256 * x.b + 65536 * x.test + 16777216 * x.limit

abbrev pub pack_choice : Closer → ℕ
pack_choice End = 0
pack_choice (Time k x) = pack_next x
pack_choice (Event e x) = pack_next x

-- whether a segment names a port
unfoldable pub segment_names : Segment → Bool
segment_names g =
    is_port (pack_choice g.closer / 65536 % 256) || any_below (size_by (pack_end g.n g.closer)) (λ j. word_names (pack_op (get_or g.statements j no_statement).op))

-- the 34 words of a segment: how it closes and whether it names a port, its next segments, its statements
unfoldable pub segment_word : Segment → ℕ → ℕ
segment_word g zero = marked_if (segment_names g) (pack_end g.n g.closer)
segment_word g (suc zero) = pack_choice g.closer
segment_word g (suc (suc j)) = pack_op (get_or g.statements j no_statement).op

-- the words of a model: of its 64 segments one after the other, then the ports of its 32 threads, then zeros
unfoldable pub model_word : Model → ℕ → ℕ
model_word m i =
    cond (ltb i 2176)
    (segment_word (segment_at m (i / 34)) (i % 34))
    (cond (ltb i 2432) (port_of (ports_at m ((i - 2176) / 8)) ((i - 2176) % 8)) 0)

abbrev pub code_of : Model → List ℕ
code_of m = tabulate 4384 0 (model_word m)

-- words that hold the model's first n segments, and can be read back
pub record IsCode (m : Model) (n : ℕ) (code : List ℕ) : Type 0 where
  pub size : length code ≡ 4384
  pub places : (s : ℕ) → s < n → length (segment_at m s).statements ≡ 32
  pub end : (s : ℕ) → s < n → let e = pack_end (segment_at m s).n (segment_at m s).closer in get_or code (34 * s) 0 ≡ marked_if (names_from code (34 * s) (size_by e)) e
  pub next : (s : ℕ) → s < n → get_or code (34 * s + 1) 0 ≡ pack_choice (segment_at m s).closer
  pub held : (s j : ℕ) → s < n → j < 32 → Held (get_or (segment_at m s).statements j no_statement).op (get_or code (34 * s + 2 + j) 0)
  pub rest : (i : ℕ) → 2432 ≤ i → get_or code i 0 ≡ 0

-- a word holds a port
pub record IsPort (port w : ℕ) : Type 0 where
  pub word : w ≡ port
  pub range : w < 256

-- words that hold the ports of a model's threads behind its segments
abbrev pub IsPorts : Model → List ℕ → Type 0
IsPorts m code = (k p : ℕ) → k < 32 → p < 8 → IsPort (port_of (ports_at m k) p) (get_or code (2176 + 8 * k + p) 0)

-- words that hold the model as thread k runs it
pub record IsCodeFor (m : Model) (k : ℕ) (words : List ℕ) : Type 0 where
  pub code : List ℕ
  pub is : IsCode m 64 code
  pub mapped : words ≡ code_for (ports_at m k) code
