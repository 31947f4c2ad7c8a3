-- What a record's body says: its fault as the definition of the file has it, and the model with the record.
--     record_fault-is     1 to 7 and 17
--     with_record-..     the model after a head, a segment, a thread, a thread's ports
use Prim.Native.Nat.{ℕ, ◌+◌, ◌-◌, ◌<◌}
use mathlib.Core.Path.{ap, ◌≡◌, refl}
use mathlib.Core.Bool.{true}
use mathlib.Core.List.{List}
use native.Mathlib.Decide.{ℕ_discrete}
use lib.ListN.{length, take, get_or, set}
use borrow.Author.Tests.{ne_eqb}
use Rattle.base.specs.Index.{or_else}
use Rattle.base.proofs.IndexLaws.{or_else-none, or_else-last}
use Rattle.clock.specs.declared.Time.{Time}
use Rattle.model.specs.declared.Segment.{Segment}
use Rattle.model.specs.declared.Start.{Start}
use Rattle.model.specs.declared.Model.{Model}
use Rattle.model.specs.Values.{with_head, with_segment, with_start, with_ports}
use Rattle.model_rules.proofs.FaultLaws.{start_at-read}
use Rattle.reader.specs.Word.{byte_at, word_at, long_at}
use Rattle.reader.specs.Record.{framing_fault, ports_bytes_fault, body_fault, with_record}
use Rattle.reader_segment.specs.Parts.{fits, segment_in}
use Rattle.reader_segment.proofs.SegmentLaws.{segment_in-fits}
use Rattle.reader_record.specs.declared.Counts.{Counts}
use Rattle.reader_record.specs.Parts.{count_fault, own_fault, record_fault}
use Rattle.reader_file.specs.Parts.{thread_from, ports_into}
use Rattle.reader_file.proofs.TargetLaws.{Counted}

body_fault-is : (k : ℕ) (c : Counts) (m : Model) (r : List ℕ) → Counted c m → or_else (count_fault k c r) (own_fault k c.v c.e r) ≡ body_fault k m r
unfolding body_fault count_fault own_fault
body_fault-is k c m r g = rw (g.v, g.e, g.n, g.t) (go (ℕ_discrete k 2) (ℕ_discrete k 5))
  where
    counts : Counts
    counts = record { v = m.v; e = m.e; n = m.n; t = m.t; bound = c.bound; named = c.named }

    go : Dec (k ≡ 2) → Dec (k ≡ 5) → or_else (count_fault k counts r) (own_fault k m.v m.e r) ≡ body_fault k m r
    go (yes e) f = rw e refl
    go (no n) (yes e) = rw e (or_else-none 0 (ports_bytes_fault m.v r) refl)
    go (no n) (no f) = rw (ne_eqb k 2 n, ne_eqb k 5 f) (or_else-last _)

-- as the definition of the file has it
pub record_fault-is : (last : ℕ) (c : Counts) (m : Model) (b : List ℕ) → Counted c m → record_fault last c b ≡ or_else (framing_fault last b) (body_fault (word_at b 2) m (take (word_at b 0) b))
unfolding record_fault
record_fault-is last c m b g = ap (λ (x : ℕ). or_else (framing_fault last b) x) (body_fault-is (word_at b 2) c m (take (word_at b 0) b) g)

module _ (k : ℕ) (m : Model) (r : List ℕ) where
  pub with_record-head : (h : Time) → k ≡ 1 → h.0 ≡ long_at r 4
      → record { horizon = h; v = byte_at r 8; e = byte_at r 9; n = m.n; t = m.t; segments = m.segments; starts = m.starts } ≡ with_record k m r
  unfolding with_record with_head
  with_record-head h e p = rw (e, ← p) refl

  pub with_record-segment : (i : ℕ) (g : Segment) → k ≡ 2 → i ≡ m.n → fits r ≡ true → g ≡ segment_in r
      → record { horizon = m.horizon; v = m.v; e = m.e; n = m.n + 1; t = m.t; segments = set m.segments i g; starts = m.starts } ≡ with_record k m r
  unfolding with_record with_segment
  with_record-segment i g e p f q = rw (e, p, q, segment_in-fits r f) refl

  pub with_record-thread : (i : ℕ) (x : Start) → k ≡ 3 → i ≡ m.t → x ≡ thread_from r
      → record { horizon = m.horizon; v = m.v; e = m.e; n = m.n; t = m.t + 1; segments = m.segments; starts = set m.starts i x } ≡ with_record k m r
  unfolding with_record with_start thread_from
  with_record-thread i x e p q = rw (e, p, q) refl

  pub with_record-ports : (i : ℕ) (d x : Start) → k ≡ 5 → i ≡ m.t - 1 → i < length m.starts → x ≡ ports_into (get_or m.starts i d) r
      → record { horizon = m.horizon; v = m.v; e = m.e; n = m.n; t = m.t; segments = m.segments; starts = set m.starts i x } ≡ with_record k m r
  unfolding with_record with_ports ports_into
  with_record-ports i d x e p h q = rw (e, q, start_at-read m i d h, p) refl
