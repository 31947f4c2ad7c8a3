-- The kinds of record, and the number of each. What came last may be no record.
use Rattle.std.specs.Prelude.{ℕ, ◌≡◌, ◌≢◌, List, Option, Some, None, Result, MatchResult}
use Rattle.refusal.specs.declared.Refusal.{Refusal}
use Rattle.refusal.specs.declared.Refusal.TheVariants.{WrongKind}
use Rattle.reader.specs.Word.{word_at}
use Rattle.reader.specs.Record.{head_kind, segment_kind, thread_kind, end_kind, ports_kind}
use Rattle.reader_record.specs.declared.Kind.{Kind}
use Rattle.reader_record.specs.declared.Kind.TheVariants.{Head, Segment, Thread, End, Ports}
use Rattle.reader_record.specs.declared.Frame.{Frame}

abbrev pub kind_number : Kind → ℕ
kind_number Head = head_kind
kind_number Segment = segment_kind
kind_number Thread = thread_kind
kind_number End = end_kind
kind_number Ports = ports_kind

-- 0 stands before the first record
abbrev pub last_number : Option Kind → ℕ
last_number None = 0
last_number (Some k) = kind_number k

-- the kind of a number, or 2 of a number that no kind has
abbrev pub KindGives : ℕ → Result Kind Refusal → Type 0
KindGives n r = MatchResult r (λ k. kind_number k ≡ n) (λ e. (e ≡ WrongKind) × ((k : Kind) → kind_number k ≢ n))

-- what the head of the record that begins b says
pub record Frames (b : List ℕ) (f : Frame) : Type 0 where
  pub kind : kind_number f.kind ≡ word_at b 2
  pub size : f.size ≡ word_at b 0
