-- A model whose values fit the fields of a file: one byte, four bytes, as document 01 lays them out.
use Rattle.std.specs.Prelude.{ℕ, ◌<◌, ◌^◌, get_or}
use Rattle.model.specs.declared.Next.{Next}
use Rattle.model.specs.declared.Op.{Op}
use Rattle.model.specs.declared.Op.TheVariants.{Set, Add, Copy, AddVariable, SubVariable, Notify}
use Rattle.model.specs.declared.Closer.{Closer}
use Rattle.model.specs.declared.Closer.TheVariants.{End, Time, Event}
use Rattle.model.specs.declared.Segment.{Segment}
use Rattle.model.specs.declared.Model.{Model}
use Rattle.model.specs.Port.{port_of}
use Rattle.model.specs.Values.{no_statement, segment_at, start_at}

abbrev pub FitsNext : Next → Type 0
FitsNext x = (x.a < 256) × (x.b < 256) × (x.test < 256) × (x.limit < 2 ^ 32)

abbrev pub FitsCloser : Closer → Type 0
FitsCloser End = Unit {0}
FitsCloser (Time k x) = (k.0 < 2 ^ 32) × FitsNext x
FitsCloser (Event e x) = (e < 256) × FitsNext x

abbrev pub FitsOp : Op → Type 0
FitsOp (Set a b) = (a < 256) × (b < 2 ^ 32)
FitsOp (Add a b) = (a < 256) × (b < 2 ^ 32)
FitsOp (Copy a b) = (a < 256) × (b < 2 ^ 32)
FitsOp (AddVariable a b) = (a < 256) × (b < 2 ^ 32)
FitsOp (SubVariable a b) = (a < 256) × (b < 2 ^ 32)
FitsOp (Notify e) = e < 256

pub record FitsSegment (g : Segment) : Type 0 where
  pub closer : FitsCloser g.closer
  pub few : g.n < 256
  pub statements : (j : ℕ) → j < g.n → FitsOp (get_or g.statements j no_statement).op

pub record Fields (m : Model) : Type 0 where
  pub horizon : m.horizon.0 < 2 ^ 32
  pub v : m.v < 256
  pub e : m.e < 256
  pub segments : (i : ℕ) → i < m.n → FitsSegment (segment_at m i)
  pub starts : (k : ℕ) → k < m.t → (start_at m k).first < 256
  pub ports : (k p : ℕ) → k < m.t → p < 8 → port_of (start_at m k).ports p < 256
