-- A file that is accepted is written again byte by byte, and the model that it gives is zero past its counts.
-- By induction over its records: the bytes of what was read so far, then the bytes left, are the file.
use Prim.Native.Nat.{ℕ, zero, suc, ◌+◌, ◌-◌, ◌*◌, ◌%◌, ◌≤◌, ◌<◌}
use mathlib.Core.Path.{◌≡◌, refl, sym, ap, ap₂, ◌∙◌, subst}
use mathlib.Core.Bool.{true, ◌&&◌}
use mathlib.Core.List.{List, [], ◌++◌, append_assoc, append-nil}
use native.Mathlib.Omega.{arith}
use native.Mathlib.Nat.{zero-add}
use lib.Dec.{ltb, leb, eqb}
use lib.ListN.{length, get_or, set, take, drop, length-drop, take-append-drop}
use lib.Seq.{get_or-take, length-take-le, take_all, set-set}
use borrow.Author.Tests.{ltb-true, leb-true, eqb-true}
use Rattle.base.specs.Index.{any_below, tabulate}
use Rattle.base.proofs.BoolLaws.{and→true}
use Rattle.base.proofs.IndexLaws.{or_else-zero}
use Rattle.model.specs.declared.Segment.{Segment}
use Rattle.model.specs.declared.Start.{Start}
use Rattle.model.specs.declared.Model.{Model}
use Rattle.model.specs.Port.{no_ports, uses_ports}
use Rattle.model.specs.Values.{no_segment, no_start, no_model, segment_at, start_at, ports_at, with_head, with_segment, with_start, with_ports}
use Rattle.model.specs.Rules.{unless, links_fault}
use Rattle.model_rules.proofs.FaultLaws.{unless-zero}
use Rattle.reader.specs.Word.{byte_at, word_at, long_at}
use Rattle.reader.specs.Record.{length_fits, segment_from, segment_bytes_fault, ports_from, ports_bytes_fault, body_fault, with_record}
use Rattle.reader.specs.File.{read_file}
use Rattle.reader_laws.proofs.FrameLaws.{head-length, thread-length, ports-length}
use Rattle.reader_laws.proofs.ReadSoFar.{SoFar, nothing_read, Follows, head, segment, thread, ports, ending}
use Rattle.writer.specs.Bytes.{bytes_of, joined}
use Rattle.writer.specs.File.{record_bytes, head_bytes, segment_bytes, ports_bytes, start_bytes, end_bytes, file_of, trimmed_segment, trimmed_start, trimmed}
use Rattle.writer_laws.proofs.ByteLaws.{AllBytes, take_below, drop-below, byte_at-again, long_at-again, part_then}
use Rattle.writer_laws.proofs.JoinLaws.{joined-more, joined-set}
use Rattle.writer_laws.proofs.RecordLaws.{record-again}
use Rattle.writer_laws.proofs.PortLaws.{ports_bytes-unused, ports_from-trimmed, ports_bytes-again}
use Rattle.writer_laws.proofs.TrimLaws.{filled, filled_more, filled-set}
use Rattle.writer_laws.proofs.SegmentLaws.{segment_from-trimmed, segment_bytes-again}
use Rattle.reader_laws.proofs.Reading.{Taken, read-induct}

-- the bytes of what m holds, after a record of kind last
segments_of : Model → List ℕ
segments_of m = joined m.n 0 (λ i. segment_bytes (segment_at m i))

starts_of : Model → List ℕ
starts_of m = joined m.t 0 (λ k. start_bytes (start_at m k))

written_to : ℕ → Model → List ℕ
written_to zero m = []
written_to (suc last) m = head_bytes m ++ (segments_of m ++ starts_of m)

-- a whole record of kind k
record IsRecord (k : ℕ) (r : List ℕ) : Type 0 where
  below : AllBytes r
  size : 4 ≤ length r
  whole : word_at r 0 ≡ length r
  kind : word_at r 2 ≡ k
  fits : length_fits k (length r) ≡ true

-- a thread is its record, then that of its ports; without ports it is its record alone
start_bytes-parts : (s : Start) → start_bytes s ≡ record_bytes 3 (bytes_of 1 s.first) ++ ports_bytes s.ports
unfolding start_bytes
start_bytes-parts s = refl

start_bytes-bare : (s : Start) → s.ports ≡ no_ports → start_bytes s ≡ record_bytes 3 (bytes_of 1 s.first)
unfolding start_bytes uses_ports any_below
start_bytes-bare s e =
    ap (λ (ps : List ℕ). record_bytes 3 (bytes_of 1 s.first) ++ ports_bytes ps) e
    ∙ ap (λ (b : List ℕ). record_bytes 3 (bytes_of 1 s.first) ++ b) (ports_bytes-unused no_ports refl)
    ∙ append-nil (record_bytes 3 (bytes_of 1 s.first))

-- what a record adds to the bytes
module _ (m : Model) (r : List ℕ) where
  head-written : IsRecord 1 r → m.n ≡ 0 → m.t ≡ 0 → written_to 1 (with_record 1 m r) ≡ r
  unfolding written_to segments_of starts_of with_record with_head head_bytes joined
  head-written w n t =
      let ten : length r ≡ 10 = head-length (length r) 1 w.fits refl in
      let h = with_record 1 m r in
      let fields : bytes_of 4 (long_at r 4) ++ (bytes_of 1 (byte_at r 8) ++ bytes_of 1 (byte_at r 9)) ≡ take 6 (drop 4 r) =
      part_then r 4 2 4 _ _ (long_at-again r 4 w.below (omega arith))
      (part_then r 1 1 8 _ _ (byte_at-again r 8 w.below (omega arith)) (byte_at-again r 9 w.below (omega arith))) in
      ap₂ ◌++◌
      (ap (record_bytes 1) (fields ∙ take_all 6 (drop 4 r) (omega (arith, length-drop 4 r)))
      ∙ record-again 1 r w.below w.size w.whole w.kind)
      (ap₂ (λ (n t : ℕ). joined n 0 (λ i. segment_bytes (segment_at h i)) ++ joined t 0 (λ k. start_bytes (start_at h k))) n t)
      ∙ append-nil r

  -- 17 + 6n bytes
  segment-size : IsRecord 2 r → (17 ≤ length r) × ((length r - 17) % 6 ≡ 0)
  unfolding length_fits
  segment-size w =
      let (p, q) = and→true (leb 17 (length r) && leb (length r) 209) (eqb ((length r - 17) % 6) 0) w.fits in
      (leb-true 17 (length r) (and→true (leb 17 (length r)) (leb (length r) 209) p).0, eqb-true ((length r - 17) % 6) 0 q)

  segment-room : body_fault 2 m r ≡ 0 → (m.n < 64) × (segment_bytes_fault m.v m.e r ≡ 0)
  unfolding body_fault
  segment-room none =
      let (p, q) = or_else-zero (unless (ltb m.n 64) 4) (segment_bytes_fault m.v m.e r) none in
      (ltb-true m.n 64 (unless-zero (ltb m.n 64) 4 (λ e. omega arith) p), q)

  thread-room : body_fault 3 m r ≡ 0 → m.t < 32
  unfolding body_fault
  thread-room none = ltb-true m.t 32 (unless-zero (ltb m.t 32) 4 (λ e. omega arith) none)

  segment-written : IsRecord 2 r → length m.segments ≡ 64 → m.t ≡ 0 → body_fault 2 m r ≡ 0
      → written_to 2 (with_record 2 m r) ≡ written_to 2 m ++ r
  unfolding written_to segments_of starts_of with_record with_segment head_bytes segment_at start_at joined
  segment-written w places t none =
      let (room, none') = segment-room none in
      let (least, even) = segment-size w in
      let H = head_bytes m in
      let S = joined m.n 0 (λ i. segment_bytes (get_or m.segments i no_segment)) in
      let again : segment_bytes (segment_from r) ≡ r =
      segment_bytes-again r w.below m.v m.e least even none' w.whole w.kind in
      let S' : joined (m.n + 1) 0 (λ i. segment_bytes (get_or (set m.segments m.n (segment_from r)) i no_segment)) ≡ S ++ r =
      joined-set segment_bytes no_segment m.segments m.n (segment_from r) (omega arith) ∙ ap (λ (b : List ℕ). S ++ b) again in
      let none-started : joined m.t 0 (λ k. start_bytes (get_or m.starts k no_start)) ≡ [] =
      ap (λ (t : ℕ). joined t 0 (λ k. start_bytes (get_or m.starts k no_start))) t in
      ap₂ (λ (x y : List ℕ). H ++ (x ++ y)) S' none-started
      ∙ ap (λ (b : List ℕ). H ++ b) (append-nil (S ++ r))
      ∙ sym (append_assoc H S r)
      ∙ ap (λ (b : List ℕ). (H ++ b) ++ r) (sym (append-nil S))
      ∙ ap (λ (b : List ℕ). (H ++ (S ++ b)) ++ r) (sym none-started)

  thread-written : IsRecord 3 r → length m.starts ≡ 32 → body_fault 3 m r ≡ 0 → written_to 3 (with_record 3 m r) ≡ written_to 3 m ++ r
  unfolding written_to segments_of starts_of with_record with_start head_bytes segment_at start_at
  thread-written w places none =
      let five : length r ≡ 5 = thread-length (length r) 3 w.fits refl in
      let s : Start = record { first = byte_at r 4; ports = no_ports } in
      let H = head_bytes m in
      let S = segments_of m in
      let D = joined m.t 0 (λ k. start_bytes (get_or m.starts k no_start)) in
      let again : record_bytes 3 (bytes_of 1 (byte_at r 4)) ≡ r =
      ap (record_bytes 3) (byte_at-again r 4 w.below (omega arith) ∙ take_all 1 (drop 4 r) (omega (arith, length-drop 4 r)))
      ∙ record-again 3 r w.below w.size w.whole w.kind in
      let D' : joined (m.t + 1) 0 (λ k. start_bytes (get_or (set m.starts m.t s) k no_start)) ≡ D ++ r =
      joined-set start_bytes no_start m.starts m.t s (omega (arith, thread-room none)) ∙ ap (λ (b : List ℕ). D ++ b) (start_bytes-bare s refl ∙ again) in
      ap (λ (b : List ℕ). H ++ (S ++ b)) D'
      ∙ ap (λ (b : List ℕ). H ++ b) (sym (append_assoc S D r))
      ∙ sym (append_assoc H (S ++ D) r)

  ports-judged : body_fault 5 m r ≡ 0 → ports_bytes_fault m.v r ≡ 0
  unfolding body_fault
  ports-judged none = none

  -- the last thread, which had none so far
  ports-written : IsRecord 5 r → length m.starts ≡ 32 → 1 ≤ m.t → m.t ≤ 32 → ports_at m (m.t - 1) ≡ no_ports → body_fault 5 m r ≡ 0
      → written_to 5 (with_record 5 m r) ≡ written_to 3 m ++ r
  unfolding written_to segments_of starts_of with_record with_ports head_bytes segment_at start_at ports_at
  ports-written w places some few bare none =
      let twelve : length r ≡ 12 = ports-length (length r) 5 w.fits refl in
      let k = m.t - 1 in
      let e : m.t ≡ k + 1 = omega arith in
      let x = get_or m.starts k no_start in
      let y : Start = record { first = x.first; ports = ports_from r } in
      let H = head_bytes m in
      let S = segments_of m in
      let f : ℕ → List ℕ = λ i. start_bytes (get_or m.starts i no_start) in
      let P = joined k 0 f in
      let R = record_bytes 3 (bytes_of 1 x.first) in
      let D : joined m.t 0 f ≡ P ++ R =
      ap (λ (n : ℕ). joined n 0 f) (omega arith)
      ∙ joined-more k 0 f
      ∙ ap (λ (i : ℕ). P ++ f i) (zero-add k)
      ∙ ap (λ (b : List ℕ). P ++ b) (start_bytes-bare x bare) in
      let again : start_bytes y ≡ R ++ r =
      start_bytes-parts y ∙ ap (λ (b : List ℕ). R ++ b) (ports_bytes-again r m.v w.below twelve (ports-judged none) w.whole w.kind) in
      let D' : joined m.t 0 (λ i. start_bytes (get_or (set m.starts k y) i no_start)) ≡ joined m.t 0 f ++ r =
      ap (λ (n : ℕ). joined n 0 (λ i. start_bytes (get_or (set m.starts k y) i no_start))) e
      ∙ joined-set start_bytes no_start m.starts k y (omega arith)
      ∙ ap (λ (b : List ℕ). P ++ b) again
      ∙ sym (append_assoc P R r)
      ∙ ap (λ (b : List ℕ). b ++ r) (sym D) in
      ap (λ (b : List ℕ). H ++ (S ++ b)) D'
      ∙ ap (λ (b : List ℕ). H ++ b) (sym (append_assoc S (joined m.t 0 f) r))
      ∙ sym (append_assoc H (S ++ joined m.t 0 f) r)

-- after the head the kind of the last record does not count
written_to-any : (last k : ℕ) (m : Model) → 1 ≤ last → 1 ≤ k → written_to k m ≡ written_to last m
unfolding written_to
written_to-any zero k m h l = absurd (omega arith)
written_to-any (suc last) zero m h l = absurd (omega arith)
written_to-any (suc last) (suc k) m h l = refl

record-written : (last k : ℕ) (m : Model) (r : List ℕ) → SoFar last m → Follows last k → IsRecord k r → body_fault k m r ≡ 0 → (k ≡ 4 → ⊥)
    → written_to k (with_record k m r) ≡ written_to last m ++ r
unfolding written_to
record-written last k m r g (head z e) w none more =
    subst (λ (k : ℕ). IsRecord k r → written_to k (with_record k m r) ≡ written_to last m ++ r) (sym e)
    (λ w. head-written m r w (g.no_segment (omega arith)) (g.no_thread (omega arith)) ∙ ap (λ (l : ℕ). written_to l m ++ r) (sym z))
    w
record-written last k m r g (segment a b e) w none more =
    subst (λ (k : ℕ). IsRecord k r → body_fault k m r ≡ 0 → written_to k (with_record k m r) ≡ written_to last m ++ r) (sym e)
    (λ w none.
    segment-written m r w g.segment_places (g.no_thread b) none
    ∙ ap (λ (b : List ℕ). b ++ r) (written_to-any last 2 m a (omega arith)))
    w none
record-written last k m r g (thread a e) w none more =
    subst (λ (k : ℕ). IsRecord k r → body_fault k m r ≡ 0 → written_to k (with_record k m r) ≡ written_to last m ++ r) (sym e)
    (λ w none.
    thread-written m r w g.start_places none
    ∙ ap (λ (b : List ℕ). b ++ r) (written_to-any last 3 m (omega arith) (omega arith)))
    w none
record-written last k m r g (ports z e) w none more =
    subst (λ (k : ℕ). IsRecord k r → body_fault k m r ≡ 0 → written_to k (with_record k m r) ≡ written_to last m ++ r) (sym e)
    (λ w none.
    ports-written m r w g.start_places (g.some_thread (omega arith)) g.few_threads (g.no_ports z) none
    ∙ ap (λ (b : List ℕ). b ++ r) (written_to-any last 3 m (omega arith) (omega arith)))
    w none
record-written last k m r g (ending z e) w none more = absurd (more e)

-- the record that begins the bytes
is-record : (last : ℕ) (b : List ℕ) (m : Model) → Taken last b m → AllBytes b → IsRecord (word_at b 2) (take (word_at b 0) b)
is-record last b m w below =
    let l = word_at b 0 in
    let whole = w.frame.whole in
    let size : length (take l b) ≡ l = length-take-le l b whole.left in
    let byte : (i : ℕ) → i < 4 → byte_at (take l b) i ≡ byte_at b i = λ i h. get_or-take l b i 0 (omega (arith, whole.least)) in
    record {
      below = take_below l b below;
      size = omega (arith, size, whole.least);
      whole = ap₂ (λ (x y : ℕ). x + y * 256) (byte 0 (omega arith)) (byte 1 (omega arith)) ∙ sym size;
      kind = ap₂ (λ (x y : ℕ). x + y * 256) (byte 2 (omega arith)) (byte 3 (omega arith));
      fits = ap (length_fits (word_at b 2)) size ∙ w.frame.fits;
    }

-- the end record
end-length : (k l : ℕ) → length_fits k l ≡ true → k ≡ 4 → l ≡ 4
unfolding length_fits
end-length k l h e = eqb-true l 4 (rw e at h)

file-ended : (last : ℕ) (b : List ℕ) (m : Model) → Taken last b m → AllBytes b → word_at b 2 ≡ 4 → drop (word_at b 0) b ≡ []
    → file_of m ≡ written_to 3 m ++ b
unfolding file_of written_to segments_of starts_of end_bytes
file-ended last b m w below kind empty =
    let whole = w.frame.whole in
    let all : length b ≡ word_at b 0 = omega (arith, length-drop (word_at b 0) b, ap length empty, whole.left) in
    let four : word_at b 0 ≡ 4 = end-length (word_at b 2) (word_at b 0) w.frame.fits kind in
    let end : record_bytes 4 [] ≡ b =
    ap (record_bytes 4) (sym empty ∙ ap (λ (l : ℕ). drop l b) four) ∙ record-again 4 b below whole.head (sym all) kind in
    let H = head_bytes m in
    ap (λ (e : List ℕ). H ++ (segments_of m ++ (starts_of m ++ e))) end
    ∙ ap (λ (c : List ℕ). H ++ c) (sym (append_assoc (segments_of m) (starts_of m) b))
    ∙ sym (append_assoc H (segments_of m ++ starts_of m) b)

abbrev Written : ℕ → List ℕ → Model → Model → Type 0
Written last b m n = AllBytes b → file_of n ≡ written_to last m ++ b

-- "an accepted file is written again byte by byte"
pub written_read : (b : List ℕ) → AllBytes b → (read_file b).number ≡ 0 → file_of (read_file b).model ≡ b
unfolding read_file written_to
written_read b below e = read-induct Written at_end at-record (length b) 0 b no_model nothing_read e below
  where
    at_end : (last : ℕ) (b : List ℕ) (m : Model) → Taken last b m → 3 ≤ last → word_at b 2 ≡ 4 → drop (word_at b 0) b ≡ [] → links_fault m ≡ 0
        → Written last b m m
    at_end last b m w after kind empty links below =
        file-ended last b m w below kind empty ∙ ap (λ (c : List ℕ). c ++ b) (written_to-any last 3 m (omega arith) (omega arith))

    at-record : (last : ℕ) (b : List ℕ) (m n : Model) → Taken last b m → (word_at b 2 ≡ 4 → ⊥)
        → Written (word_at b 2) (drop (word_at b 0) b) (with_record (word_at b 2) m (take (word_at b 0) b)) n → Written last b m n
    at-record last b m n w more ih below =
        let l = word_at b 0 in
        let r = take l b in
        ih (drop-below l b below)
        ∙ ap (λ (c : List ℕ). c ++ drop l b)
        (record-written last (word_at b 2) m r w.so_far w.next (is-record last b m w below) w.body more)
        ∙ append_assoc (written_to last m) r (drop l b)
        ∙ ap (λ (c : List ℕ). written_to last m ++ c) (take-append-drop l b)

-- a thread without ports, and with those that a record says
bare-trimmed : (x : ℕ) → trimmed_start (record { first = x; ports = no_ports }) ≡ record { first = x; ports = no_ports }
unfolding trimmed_start tabulate
bare-trimmed x = refl

said-trimmed : (x : ℕ) (r : List ℕ) → trimmed_start (record { first = x; ports = ports_from r }) ≡ record { first = x; ports = ports_from r }
unfolding trimmed_start
said-trimmed x r = ap (λ (ps : List ℕ). record { first = x; ports = ps }) (ports_from-trimmed r)

-- zero past the counts
module _ (m : Model) (r : List ℕ) (same : trimmed m ≡ m) where
  head-trimmed : trimmed (with_record 1 m r) ≡ with_record 1 m r
  unfolding trimmed with_record with_head segment_at start_at
  head-trimmed =
      let s = ap (λ (n : Model). n.segments) same in
      let u = ap (λ (n : Model). n.starts) same in
      λ i. record { horizon = record { 0 = long_at r 4 }; v = byte_at r 8; e = byte_at r 9; n = m.n; t = m.t; segments = s i; starts = u i }

  segment-trimmed : length m.segments ≡ 64 → m.n < 64 → trimmed (with_record 2 m r) ≡ with_record 2 m r
  unfolding trimmed with_record with_segment segment_at start_at
  segment-trimmed places room =
      let s =
      filled-set no_segment 64 trimmed_segment m.segments m.n (segment_from r) room (omega arith)
      ∙ ap₂ (λ (l : List Segment) (g : Segment). set l m.n g) (ap (λ (n : Model). n.segments) same) (segment_from-trimmed r) in
      let u = ap (λ (n : Model). n.starts) same in
      λ i. record { horizon = m.horizon; v = m.v; e = m.e; n = m.n + 1; t = m.t; segments = s i; starts = u i }

  start-trimmed : length m.starts ≡ 32 → m.t < 32 → trimmed (with_record 3 m r) ≡ with_record 3 m r
  unfolding trimmed with_record with_start segment_at start_at
  start-trimmed places room =
      let x : Start = record { first = byte_at r 4; ports = no_ports } in
      let s = ap (λ (n : Model). n.segments) same in
      let u =
      filled-set no_start 32 trimmed_start m.starts m.t x room (omega arith)
      ∙ ap₂ (λ (l : List Start) (x : Start). set l m.t x) (ap (λ (n : Model). n.starts) same) (bare-trimmed (byte_at r 4)) in
      λ i. record { horizon = m.horizon; v = m.v; e = m.e; n = m.n; t = m.t + 1; segments = s i; starts = u i }

  ports-trimmed : length m.starts ≡ 32 → 1 ≤ m.t → m.t ≤ 32 → trimmed (with_record 5 m r) ≡ with_record 5 m r
  unfolding trimmed with_record with_ports segment_at start_at
  ports-trimmed places some few =
      let k = m.t - 1 in
      let e : m.t ≡ k + 1 = omega arith in
      let f : ℕ → Start = λ i. trimmed_start (get_or m.starts i no_start) in
      let x : Start = record { first = (get_or m.starts k no_start).first; ports = ports_from r } in
      let s = ap (λ (n : Model). n.segments) same in
      let before : set (filled no_start 32 f k) k (f k) ≡ m.starts =
      filled_more no_start 32 f k (omega arith) ∙ ap (filled no_start 32 f) (omega arith) ∙ ap (λ (n : Model). n.starts) same in
      let u : filled no_start 32 (λ i. trimmed_start (get_or (set m.starts k x) i no_start)) m.t ≡ set m.starts k x =
      ap (filled no_start 32 (λ i. trimmed_start (get_or (set m.starts k x) i no_start))) e
      ∙ filled-set no_start 32 trimmed_start m.starts k x (omega arith) (omega arith)
      ∙ ap (set (filled no_start 32 f k) k) (said-trimmed x.first r)
      ∙ sym (set-set (filled no_start 32 f k) k (f k) x)
      ∙ ap (λ (l : List Start). set l k x) before in
      λ i. record { horizon = m.horizon; v = m.v; e = m.e; n = m.n; t = m.t; segments = s i; starts = u i }

record-trimmed : (last k : ℕ) (m : Model) (r : List ℕ) → SoFar last m → Follows last k → body_fault k m r ≡ 0 → (k ≡ 4 → ⊥) → trimmed m ≡ m
    → trimmed (with_record k m r) ≡ with_record k m r
record-trimmed last k m r g (head z e) none more same =
    subst (λ (k : ℕ). trimmed (with_record k m r) ≡ with_record k m r) (sym e) (head-trimmed m r same)
record-trimmed last k m r g (segment a b e) none more same =
    subst (λ (k : ℕ). body_fault k m r ≡ 0 → trimmed (with_record k m r) ≡ with_record k m r) (sym e)
    (λ none. segment-trimmed m r same g.segment_places (segment-room m r none).0) none
record-trimmed last k m r g (thread a e) none more same =
    subst (λ (k : ℕ). body_fault k m r ≡ 0 → trimmed (with_record k m r) ≡ with_record k m r) (sym e)
    (λ none. start-trimmed m r same g.start_places (thread-room m r none)) none
record-trimmed last k m r g (ports z e) none more same =
    subst (λ (k : ℕ). trimmed (with_record k m r) ≡ with_record k m r) (sym e)
    (ports-trimmed m r same g.start_places (g.some_thread (omega arith)) g.few_threads)
record-trimmed last k m r g (ending z e) none more same = absurd (more e)

abbrev Kept : ℕ → List ℕ → Model → Model → Type 0
Kept last b m n = trimmed m ≡ m → trimmed n ≡ n

nothing-trimmed : trimmed no_model ≡ no_model
unfolding trimmed tabulate
nothing-trimmed = refl

pub accepted-trimmed : (b : List ℕ) → (read_file b).number ≡ 0 → trimmed (read_file b).model ≡ (read_file b).model
unfolding read_file
accepted-trimmed b e =
    read-induct Kept (λ last b m w after kind empty links same. same) at-record (length b) 0 b no_model nothing_read e nothing-trimmed
  where
    at-record : (last : ℕ) (b : List ℕ) (m n : Model) → Taken last b m → (word_at b 2 ≡ 4 → ⊥)
        → Kept (word_at b 2) (drop (word_at b 0) b) (with_record (word_at b 2) m (take (word_at b 0) b)) n → Kept last b m n
    at-record last b m n w more ih same =
        ih (record-trimmed last (word_at b 2) m (take (word_at b 0) b) w.so_far w.next w.body more same)
