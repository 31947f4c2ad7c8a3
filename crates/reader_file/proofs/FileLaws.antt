-- The file: its end, and one record after another.
--     judged_from-enough     more turns than bytes change nothing
--     judged_rest-..     what is left of the bytes, read with as many turns as bytes
--     judged-..     the exits and the turn of `judge`
--     filled-..     the head and the turn of `model_from`
use Prim.Native.Nat.{ℕ, zero, suc, ◌+◌, ◌-◌, ◌<◌, ◌≤◌}
use mathlib.Core.Path.{◌≡◌, refl, sym, ap, ◌∙◌, subst}
use mathlib.Core.Bool.{false}
use mathlib.Core.List.{List}
use native.Mathlib.Omega.{arith}
use native.Mathlib.Decide.{ℕ_discrete}
use lib.Dec.{ltb, eqb}
use lib.ListN.{length, get_or, set, take, drop, replicate, length-drop}
use lib.Seq.{drop-drop}
use borrow.Author.Tests.{ltb-true, eqb-true, eq-eqb, ne_eqb}
use Rattle.base.specs.Index.{or_else}
use Rattle.base.proofs.BoolLaws.{true→T}
use Rattle.base.proofs.IndexLaws.{or_else-some, or_else-zero}
use Rattle.clock.specs.declared.Time.{Time}
use Rattle.model.specs.declared.Segment.{Segment}
use Rattle.model.specs.declared.Start.{Start}
use Rattle.model.specs.declared.Model.{Model}
use Rattle.model.specs.Values.{no_segment, no_start, no_model}
use Rattle.model.specs.Rules.{unless, targets_fault, lack_fault}
use Rattle.model_rules.proofs.FaultLaws.{unless-zero}
use Rattle.model_rules.proofs.RuleLaws.{targets_fault-first}
use Rattle.reader.specs.Read.{Read}
use Rattle.reader.specs.Word.{byte_at, word_at, long_at}
use Rattle.reader.specs.Record.{framing_fault, body_fault, with_record}
use Rattle.reader_laws.proofs.FrameLaws.{framed}
use Rattle.reader_laws.proofs.ReadSoFar.{SoFar, nothing_read, Follows, head, segment, thread, ports, ending, follows→, record-kept}
use Rattle.reader_laws.proofs.Reading.{read_or-accepted}
use Rattle.reader_segment.specs.Parts.{segment_in}
use Rattle.reader_segment.proofs.SegmentLaws.{part-rest, fits-length}
use Rattle.reader_record.specs.declared.Counts.{Counts}
use Rattle.reader_record.specs.Parts.{record_fault}
use Rattle.reader_file.specs.Parts.{no_counts, counts_after, end_fault, refused_with, thread_from, ports_into, judged_end, judged_from, judged_file, Builds}
use Rattle.reader_record.proofs.RecordLaws.{is_whole-head, framing_fault-short, Opened, opened_some, opened-least, opened-left, opened-length, opened_after, opened-size, opened-fits, opened-head, opened-thread, opened-ports, opened-last, opened-end}
use Rattle.reader_file.proofs.TargetLaws.{stays-targets, Counted, counted_none, counted-more}
use Rattle.reader_file.proofs.UnnamedLaws.{unnamed-lack}
use Rattle.reader_file.proofs.LackLaws.{read_or-number}
use Rattle.reader_file.proofs.BodyLaws.{record_fault-is, with_record-head, with_record-segment, with_record-thread, with_record-ports}

-- the first fault of the record that begins b
abbrev pub fault_at : ℕ → List ℕ → Model → ℕ
fault_at last b m = or_else (framing_fault last b) (body_fault (word_at b 2) m (take (word_at b 0) b))

module _ (most last : ℕ) (b : List ℕ) (m : Model) where
  judged_from-refused : (x : ℕ) → fault_at last b m ≡ x → (x ≡ 0 → ⊥) → judged_from (suc most) last b m ≡ refused_with x
  unfolding judged_from
  judged_from-refused x e n = rw (e, ne_eqb x 0 n) refl

  judged_from-end : fault_at last b m ≡ 0 → word_at b 2 ≡ 4 → judged_from (suc most) last b m ≡ judged_end (drop (word_at b 0) b) m
  unfolding judged_from
  judged_from-end e k = rw (e, eq-eqb (word_at b 2) 4 k) refl

  judged_from-more : fault_at last b m ≡ 0 → (word_at b 2 ≡ 4 → ⊥) → judged_from (suc most) last b m ≡ judged_from most (word_at b 2) (drop (word_at b 0) b) (with_record (word_at b 2) m (take (word_at b 0) b))
  unfolding judged_from
  judged_from-more e k = rw (e, ne_eqb (word_at b 2) 4 k) refl

  -- with no byte left it is 1
  judged_from-none : length b ≡ 0 → judged_from (suc most) last b m ≡ refused_with 1
  judged_from-none h = judged_from-refused 1 (or_else-some _ _ (λ z. omega (arith, one)) ∙ sym one) (λ z. omega arith)
    where
      one : 1 ≡ framing_fault last b
      one = framing_fault-short last b (sym (is_whole-head b (omega arith)))

-- no 4 to 7 of a record with no fault
body-none : {last s k : ℕ} {b : List ℕ} (m : Model) (o : Opened last b s k) → fault_at last b m ≡ 0 → body_fault k m (take s b) ≡ 0
body-none m o none = rw (o.is_size, o.is_kind) (or_else-zero _ _ none).1

-- a record with no fault takes bytes away
fault_at-shorter : (last : ℕ) (b : List ℕ) (m : Model) → fault_at last b m ≡ 0 → (4 ≤ word_at b 0) × (word_at b 0 ≤ length b)
fault_at-shorter last b m e = let w = (framed last b (or_else-zero _ _ e).0).whole in (w.least, w.left)

judged_from-zero : (last : ℕ) (b : List ℕ) (m : Model) → judged_from zero last b m ≡ refused_with 1
unfolding judged_from
judged_from-zero last b m = refl

judged_from-enough : (n k last : ℕ) (b : List ℕ) (m : Model) → length b ≤ n → length b ≤ k → judged_from n last b m ≡ judged_from k last b m
judged_from-enough zero zero last b m p q = refl
judged_from-enough zero (suc k) last b m p q = judged_from-zero last b m ∙ sym (judged_from-none k last b m (omega arith))
judged_from-enough (suc n) zero last b m p q = judged_from-none n last b m (omega arith) ∙ sym (judged_from-zero last b m)
judged_from-enough (suc n) (suc k) last b m p q = go (λ k' b' m' p' q'. judged_from-enough n k k' b' m' p' q') (ℕ_discrete (fault_at last b m) 0) (ℕ_discrete (word_at b 2) 4)
  where
    go : ((k' : ℕ) (b' : List ℕ) (m' : Model) → length b' ≤ n → length b' ≤ k → judged_from n k' b' m' ≡ judged_from k k' b' m')
        → Dec (fault_at last b m ≡ 0) → Dec (word_at b 2 ≡ 4) → judged_from (suc n) last b m ≡ judged_from (suc k) last b m
    go ih (no f) w = judged_from-refused n last b m _ refl f ∙ sym (judged_from-refused k last b m _ refl f)
    go ih (yes f) (yes w) = judged_from-end n last b m f w ∙ sym (judged_from-end k last b m f w)
    go ih (yes f) (no w) =
        let (s, l) = fault_at-shorter last b m f in
        judged_from-more n last b m f w
        ∙ (ih _ (drop (word_at b 0) b) _ (simp length-drop (omega arith)) (simp length-drop (omega arith))
        ∙ sym (judged_from-more k last b m f w))

-- the bytes b after a record of kind last, with as many turns as bytes
unfoldable pub judged_rest : ℕ → List ℕ → Model → Read
judged_rest last b m = judged_from (length b) last b m

-- what is left of the bytes, as the code takes it
abbrev pub rest_of : List ℕ → ℕ → List ℕ
rest_of b at = take (length b - at) (drop at b)

judged_rest-all : (b : List ℕ) → judged_rest 0 (rest_of b 0) no_model ≡ judged_file b
unfolding judged_rest judged_file
judged_rest-all b = rw (part-rest b 0) refl

pub rest_of-next : (b : List ℕ) (at s : ℕ) → rest_of b (at + s) ≡ drop s (rest_of b at)
rest_of-next b at s = rw (part-rest b at, part-rest b (at + s)) (sym (drop-drop s at b))

judged_rest-none : (last : ℕ) (b : List ℕ) (m : Model) → length b ≡ 0 → judged_rest last b m ≡ refused_with 1
unfolding judged_rest
judged_rest-none last b m e = rw e (judged_from-zero last b m)

pub rest_of-some : (b : List ℕ) (at : ℕ) → at < length b → 0 < length (rest_of b at)
rest_of-some b at h = rw (part-rest b at) (simp length-drop (omega arith))

pub rest_of-none : (b : List ℕ) (at : ℕ) → at ≡ length b → length (rest_of b at) ≡ 0
rest_of-none b at h = rw (part-rest b at) (simp length-drop (omega arith))

pub rest_of-length : (b : List ℕ) (at : ℕ) → length (rest_of b at) ≡ length b - at
rest_of-length b at = rw (part-rest b at) (length-drop at b)

judged_rest-suc : (last : ℕ) (b : List ℕ) (m : Model) → 0 < length b → judged_rest last b m ≡ judged_from (suc (length b - 1)) last b m
unfolding judged_rest
judged_rest-suc last b m h = ap (λ (n : ℕ). judged_from n last b m) (omega arith)

judged_rest-refused : (last : ℕ) (b : List ℕ) (m : Model) (x : ℕ) → 0 < length b → x ≡ fault_at last b m → (x ≡ 0 → ⊥) → judged_rest last b m ≡ refused_with x
judged_rest-refused last b m x h e n = judged_rest-suc last b m h ∙ judged_from-refused (length b - 1) last b m x (sym e) n

module _ {last s k : ℕ} {b : List ℕ} (m : Model) (o : Opened last b s k) (none : fault_at last b m ≡ 0) where
  judged_rest-end : k ≡ 4 → judged_rest last b m ≡ judged_end (rest_of b s) m
  judged_rest-end e =
      judged_rest-suc last b m (opened_some o)
      ∙ (judged_from-end (length b - 1) last b m none (sym o.is_kind ∙ e)
      ∙ rw (part-rest b s, o.is_size) refl)

  judged_rest-more : (k ≡ 4 → ⊥) → judged_rest last b m ≡ judged_rest k (drop s b) (with_record k m (take s b))
  unfolding judged_rest
  judged_rest-more n =
      let p = opened-least o in
      let q = opened-left o in
      judged_rest-suc last b m (opened_some o)
      ∙ (judged_from-more (length b - 1) last b m none (λ w. n (o.is_kind ∙ w))
      ∙ rw (← o.is_size, ← o.is_kind) (judged_from-enough (length b - 1) (length (drop s b)) k (drop s b) _ (simp length-drop (omega arith)) (omega arith)))

  -- a record that is not the end adds to what was read
  so_far_more : SoFar last m → (k ≡ 4 → ⊥) → SoFar k (with_record k m (take s b))
  so_far_more g n = record-kept last k m (take s b) g (follows→ last k (true→T _ (opened_after o))) (rw (opened-length o) (opened-size o)) (body-none m o none) n

-- what was read of the bytes before at, the last record of kind last
pub record Reading (bytes : List ℕ) (at last : ℕ) (m : Model) : Type 0 where
  pub so_far : SoFar last m
  pub on : judged_rest last (rest_of bytes at) m ≡ judged_file bytes

pub reading-none : (bytes : List ℕ) → Reading bytes 0 0 no_model
reading-none bytes = record { so_far = nothing_read; on = judged_rest-all bytes }

pub reading-more : {last s k : ℕ} (bytes : List ℕ) (at : ℕ) (m : Model) (o : Opened last (rest_of bytes at) s k) → Reading bytes at last m → fault_at last (rest_of bytes at) m ≡ 0 → (k ≡ 4 → ⊥)
    → Reading bytes (at + s) k (with_record k m (take s (rest_of bytes at)))
reading-more {s = s} bytes at m o g none n =
    record { so_far = so_far_more m o none g.so_far n; on = rw (rest_of-next bytes at s) (sym (judged_rest-more m o none n) ∙ g.on) }

end_fault-is : (left : ℕ) (b : List ℕ) (c : Counts) (m : Model) → Counted c m → left ≡ length b → end_fault left c ≡ (judged_end b m).number
unfolding end_fault judged_end
end_fault-is left b c m g l = rw (l, ← g.bounds c.n, g.n, ← stays-targets m) (sym (read_or-number _ m))

judged_end-accepted : (b : List ℕ) (m : Model) → (judged_end b m).number ≡ 0 → (judged_end b m).model ≡ m
unfolding judged_end
judged_end-accepted b m z = (read_or-accepted (or_else (unless (eqb (length b) 0) 9) (targets_fault m)) m z).1

-- judged so far: a model that was read, and what is counted of it
pub record Judged (bytes : List ℕ) (at last : ℕ) (c : Counts) : Type 0 where
  pub model : Model
  pub reading : Reading bytes at last model
  pub counted : Counted c model

pub judged-none : (bytes : List ℕ) → Judged bytes 0 0 no_counts
judged-none bytes = record { model = no_model; reading = reading-none bytes; counted = counted_none }

module _ (bytes : List ℕ) (at last : ℕ) (c : Counts) (j : Judged bytes at last c) where
  pub judged-short : at ≡ length bytes → 1 ≡ (judged_file bytes).number
  judged-short e = ap (λ (r : Read). r.number) (sym (judged_rest-none last (rest_of bytes at) j.model (rest_of-none bytes at e)) ∙ j.reading.on)

  pub judged-refused : (x : ℕ) → at < length bytes → x ≡ record_fault last c (rest_of bytes at) → (x ≡ 0 → ⊥) → x ≡ (judged_file bytes).number
  judged-refused x h e n =
      ap (λ (r : Read). r.number)
      (sym (judged_rest-refused last (rest_of bytes at) j.model x (rest_of-some bytes at h) (e ∙ record_fault-is last c j.model (rest_of bytes at) j.counted) n) ∙ j.reading.on)

  module _ {s k : ℕ} (o : Opened last (rest_of bytes at) s k) (kept : record_fault last c (rest_of bytes at) ≡ 0) where
    none : fault_at last (rest_of bytes at) j.model ≡ 0
    none = sym (record_fault-is last c j.model (rest_of bytes at) j.counted) ∙ kept

    pub judged-end : (left x : ℕ) → k ≡ 4 → left ≡ length (rest_of bytes at) - s → x ≡ end_fault left c → x ≡ (judged_file bytes).number
    judged-end left x e l f =
        f
        ∙ (end_fault-is left (rest_of (rest_of bytes at) s) c j.model j.counted (l ∙ sym (rest_of-length (rest_of bytes at) s))
        ∙ ap (λ (r : Read). r.number) (sym (judged_rest-end j.model o none e) ∙ j.reading.on))

    -- no port was seen: 18 does not apply
    pub judged-unnamed : k ≡ 4 → (judged_file bytes).number ≡ 0 → c.named ≡ false → lack_fault (judged_file bytes).model ≡ 0
    judged-unnamed e z u =
        let same = sym (judged_rest-end j.model o none e) ∙ j.reading.on in
        let is = judged_end-accepted (rest_of (rest_of bytes at) s) j.model (ap (λ (r : Read). r.number) same ∙ z) in
        ap lack_fault (sym (ap (λ (r : Read). r.model) same) ∙ is) ∙ unnamed-lack j.model (j.counted.unnamed u)

    pub judged-more : (k ≡ 4 → ⊥) → Judged bytes (at + s) k (counts_after k c (take s (rest_of bytes at)))
    judged-more n =
        record {
          model = with_record k j.model (take s (rest_of bytes at));
          reading = reading-more bytes at j.model o j.reading none n;
          counted = counted-more last c j.model (take s (rest_of bytes at)) j.reading.so_far j.counted k (follows→ last k (true→T _ (opened_after o))) (opened-fits o) (body-none j.model o none) n;
        }

-- an accepted file, read as far as at
module _ {bytes : List ℕ} {at last : ℕ} {m : Model} (ok : (judged_file bytes).number ≡ 0) (g : Reading bytes at last m) where
  reading-some : 0 < length (rest_of bytes at)
  reading-some = go (ℕ_discrete (length (rest_of bytes at)) 0)
    where
      go : Dec (length (rest_of bytes at) ≡ 0) → 0 < length (rest_of bytes at)
      go (yes e) = absurd (omega (arith, ap (λ (r : Read). r.number) (sym (judged_rest-none last (rest_of bytes at) m e) ∙ g.on), ok))
      go (no n) = omega arith

  reading-kept : fault_at last (rest_of bytes at) m ≡ 0
  reading-kept = go (ℕ_discrete (fault_at last (rest_of bytes at) m) 0)
    where
      go : Dec (fault_at last (rest_of bytes at) m ≡ 0) → fault_at last (rest_of bytes at) m ≡ 0
      go (yes e) = e
      go (no n) = ap (λ (r : Read). r.number) (sym (judged_rest-refused last (rest_of bytes at) m _ reading-some refl n) ∙ g.on) ∙ ok

  pub reading-opened : Opened last (rest_of bytes at) (word_at (rest_of bytes at) 0) (word_at (rest_of bytes at) 2)
  reading-opened = record { none = (or_else-zero _ _ reading-kept).0; is_size = refl; is_kind = refl }

  module _ {s k : ℕ} (o : Opened last (rest_of bytes at) s k) where
    -- the end record is the last, and the model is then whole
    reading-end : k ≡ 4 → (length (rest_of bytes at) - s ≡ 0) × Builds bytes m
    unfolding judged_end
    reading-end e =
        let same = sym (judged_rest-end m o reading-kept e) ∙ g.on in
        let (z, is) = read_or-accepted _ m (ap (λ (r : Read). r.number) same ∙ ok) in
        let (nine, eight) = or_else-zero _ _ z in (
          sym (rest_of-length (rest_of bytes at) s) ∙ eqb-true _ 0 (unless-zero _ 9 (λ y. omega arith) nine),
          record {
            model = sym is ∙ ap (λ (r : Read). r.model) same;
            segments = g.so_far.few_segments;
            threads = g.so_far.few_threads;
            firsts = targets_fault-first m eight;
          },
        )

    reading-inside : 4 < length (rest_of bytes at) → k ≡ 4 → ⊥
    reading-inside h e = omega (arith, opened-last o e, (reading-end e).0)

    reading-whole : length (rest_of bytes at) ≤ 4 → Builds bytes m
    reading-whole h =
        (reading-end
        (opened-end o (λ e. omega (arith, left, opened-head o e, opened-length o))
        (λ e. omega (arith, left, (fits-length (take s (rest_of bytes at)) (opened-fits o e)).0, opened-length o))
        (λ e. omega (arith, left, opened-thread o e, opened-length o))
        (λ e. omega (arith, left, opened-ports o e, opened-length o)))).1
      where
        left : s ≤ length (rest_of bytes at)
        left = opened-left o

-- an accepted file, read as far as at: past its head
pub record Filled (bytes : List ℕ) (at : ℕ) (m : Model) : Type 0 where
  pub last : ℕ
  pub begun : 1 ≤ last
  pub reading : Reading bytes at last m

kind-some : (last k : ℕ) → Follows last k → 1 ≤ k
kind-some last k (head z e) = omega arith
kind-some last k (segment p q e) = omega arith
kind-some last k (thread p e) = omega arith
kind-some last k (ports z e) = omega arith
kind-some last k (ending z e) = omega arith

-- the first record is the head
module _ (bytes : List ℕ) (ok : (judged_file bytes).number ≡ 0) where
  head_opened : Opened 0 (rest_of bytes 0) (word_at (rest_of bytes 0) 0) (word_at (rest_of bytes 0) 2)
  head_opened = reading-opened ok (reading-none bytes)

  head-kind : word_at (rest_of bytes 0) 2 ≡ 1
  head-kind = go (follows→ 0 _ (true→T _ (opened_after head_opened)))
    where
      go : Follows 0 (word_at (rest_of bytes 0) 2) → word_at (rest_of bytes 0) 2 ≡ 1
      go (head z e) = e
      go (segment p q e) = absurd (omega arith)
      go (thread p e) = absurd (omega arith)
      go (ports z e) = absurd (omega arith)
      go (ending z e) = absurd (omega arith)

  head-size : word_at (rest_of bytes 0) 0 ≡ 10
  head-size = sym (opened-length head_opened) ∙ opened-head head_opened head-kind

  pub filled-left : 10 ≤ length bytes
  filled-left = omega (arith, head-size, opened-left head_opened, rest_of-length bytes 0)

  head_bytes : take (word_at (rest_of bytes 0) 0) (rest_of bytes 0) ≡ take 10 bytes
  head_bytes = ap (λ (n : ℕ). take n (rest_of bytes 0)) head-size ∙ ap (λ (b : List ℕ). take 10 b) (part-rest bytes 0)

  pub filled-head : (h : Time) → h.0 ≡ long_at (take 10 bytes) 4
      → Filled bytes 10 (record { horizon = h; v = byte_at (take 10 bytes) 8; e = byte_at (take 10 bytes) 9; n = 0; t = 0; segments = replicate 64 no_segment; starts = replicate 32 no_start })
  filled-head h e =
      let g = reading-more bytes 0 no_model head_opened (reading-none bytes) (reading-kept ok (reading-none bytes)) (λ z. omega (arith, head-kind)) in
      let at-is : 0 + word_at (rest_of bytes 0) 0 ≡ 10 = omega (arith, head-size) in
      let model_is = ap (λ (r : List ℕ). with_record (word_at (rest_of bytes 0) 2) no_model r) head_bytes ∙ sym (with_record-head _ no_model (take 10 bytes) h head-kind e) in
      record {
        last = word_at (rest_of bytes 0) 2;
        begun = omega (arith, head-kind);
        reading = subst (λ (m : Model). Reading bytes 10 (word_at (rest_of bytes 0) 2) m) model_is (subst (λ (at : ℕ). Reading bytes at (word_at (rest_of bytes 0) 2) (with_record (word_at (rest_of bytes 0) 2) no_model (take (word_at (rest_of bytes 0) 0) (rest_of bytes 0)))) at-is g);
      }

module _ {bytes : List ℕ} {at : ℕ} {m : Model} (ok : (judged_file bytes).number ≡ 0) (f : Filled bytes at m) where
  pub filled-all : length (rest_of bytes at) ≤ 4 → Builds bytes m
  filled-all h = reading-whole ok f.reading (reading-opened ok f.reading) h

  module _ {s k : ℕ} (is_size : s ≡ word_at (rest_of bytes at) 0) (is_kind : k ≡ word_at (rest_of bytes at) 2) (h : 4 < length (rest_of bytes at)) where
    pub filled-opened : Opened f.last (rest_of bytes at) s k
    filled-opened = record { none = (reading-opened ok f.reading).none; is_size = is_size; is_kind = is_kind }

    filled_more : Filled bytes (at + s) (with_record k m (take s (rest_of bytes at)))
    filled_more = record { last = k; begun = kind-some f.last k (follows→ f.last k (true→T _ (opened_after filled-opened))); reading = reading-more bytes at m filled-opened f.reading (reading-kept ok f.reading) (reading-inside ok f.reading filled-opened h) }

    pub filled-ports : (k ≡ 2 → ⊥) → (k ≡ 3 → ⊥) → k ≡ 5
    filled-ports n t = go (follows→ f.last k (true→T _ (opened_after filled-opened)))
      where
        go : Follows f.last k → k ≡ 5
        go (head z e) = absurd (omega (arith, f.begun))
        go (segment p q e) = absurd (n e)
        go (thread p e) = absurd (t e)
        go (ports z e) = e
        go (ending z e) = absurd (reading-inside ok f.reading filled-opened h e)

    -- ports are those of a thread that was read
    pub filled-last : k ≡ 5 → (1 ≤ m.t) × (m.t ≤ 32)
    filled-last is = (f.reading.so_far.some_thread (go (follows→ f.last k (true→T _ (opened_after filled-opened)))), f.reading.so_far.few_threads)
      where
        go : Follows f.last k → 3 ≤ f.last
        go (head z e) = absurd (omega arith)
        go (segment p q e) = absurd (omega arith)
        go (thread p e) = absurd (omega arith)
        go (ports z e) = omega arith
        go (ending z e) = absurd (omega arith)

    -- places are left
    pub filled-segments : k ≡ 2 → m.n < 64
    unfolding body_fault
    filled-segments e = ltb-true m.n 64 (unless-zero (ltb m.n 64) 4 (λ z. omega arith) (or_else-zero _ _ (rw e at (body-none m filled-opened (reading-kept ok f.reading)))).0)

    pub filled-threads : k ≡ 3 → m.t < 32
    unfolding body_fault
    filled-threads e = ltb-true m.t 32 (unless-zero (ltb m.t 32) 4 (λ z. omega arith) (rw e at (body-none m filled-opened (reading-kept ok f.reading))))

    -- the model's parts with one segment, one thread or a thread's ports more
    module _ (n t : ℕ) (gs : List Segment) (ss : List Start) where
      pub filled-with-segment : (i : ℕ) (g : Segment) → k ≡ 2 → i ≡ m.n → g ≡ segment_in (take s (rest_of bytes at)) → n ≡ m.n + 1 → t ≡ m.t → gs ≡ set m.segments i g → ss ≡ m.starts
          → Filled bytes (at + s) (record { horizon = m.horizon; v = m.v; e = m.e; n = n; t = t; segments = gs; starts = ss })
      filled-with-segment i g e p q is-n is-t is-gs is-ss =
          rw (is-n, is-t, is-gs, is-ss, with_record-segment k m (take s (rest_of bytes at)) i g e p (opened-fits filled-opened e) q) filled_more

      pub filled-with-thread : (i : ℕ) (y : Start) → k ≡ 3 → i ≡ m.t → y ≡ thread_from (take s (rest_of bytes at)) → n ≡ m.n → t ≡ m.t + 1 → gs ≡ m.segments → ss ≡ set m.starts i y
          → Filled bytes (at + s) (record { horizon = m.horizon; v = m.v; e = m.e; n = n; t = t; segments = gs; starts = ss })
      filled-with-thread i y e p q is-n is-t is-gs is-ss =
          rw (is-n, is-t, is-gs, is-ss, with_record-thread k m (take s (rest_of bytes at)) i y e p q) filled_more

      pub filled-with-ports : (i : ℕ) (d y : Start) → k ≡ 5 → i ≡ m.t - 1 → y ≡ ports_into (get_or m.starts i d) (take s (rest_of bytes at)) → n ≡ m.n → t ≡ m.t → gs ≡ m.segments → ss ≡ set m.starts i y
          → Filled bytes (at + s) (record { horizon = m.horizon; v = m.v; e = m.e; n = n; t = t; segments = gs; starts = ss })
      filled-with-ports i d y e p q is-n is-t is-gs is-ss =
          let l : i < length m.starts = omega (arith, filled-last e, f.reading.so_far.start_places) in
          rw (is-n, is-t, is-gs, is-ss, with_record-ports k m (take s (rest_of bytes at)) i d y e p l q) filled_more
