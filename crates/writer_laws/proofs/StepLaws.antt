-- One step of the reader at a record as it is written.
--     read-record     the number at it, and what follows
--     read-refused, read_more, read-ended     the three ways on
--     read_or-other     beside a number no model counts
use Prim.Native.Nat.{ℕ, suc, ◌+◌, ◌<◌}
use mathlib.Core.Path.{◌≡◌, refl, ap, ◌∙◌}
use mathlib.Core.Bool.{cond}
use mathlib.Core.List.{List, ◌++◌}
use native.Mathlib.Omega.{arith}
use lib.Dec.{eqb}
use lib.ListN.{length, take, drop}
use borrow.Author.Tests.{le-leb, eq-eqb, ne_eqb}
use Rattle.base.specs.Index.{or_else}
use Rattle.base.proofs.IndexLaws.{or_else-none}
use Rattle.model.specs.declared.Model.{Model}
use Rattle.model.specs.Rules.{unless}
use Rattle.reader.specs.Read.{Read}
use Rattle.reader.specs.Word.{word_at}
use Rattle.reader.specs.Record.{follows, length_fits, framing_fault, body_fault, with_record}
use Rattle.reader.specs.File.{read_or, read_end, read_from}
use Rattle.writer.specs.File.{record_bytes}
use Rattle.writer_laws.proofs.RecordLaws.{record-whole, record-length, record-kind, record-taken, record-left}

pub read_or-other : (x : ℕ) (m n : Model) → (x ≡ 0 → ⊥) → read_or x m ≡ read_or x n
read_or-other x m n h = rw (ne_eqb x 0 h) refl

module _ (last k : ℕ) (body : List ℕ) where
  -- 2 and 3 at the record
  abbrev pub kind_fault : ℕ
  kind_fault = or_else (unless (follows last k) 2) (unless (length_fits k (4 + length body)) 3)

  -- and its own faults, after what m holds
  abbrev pub record_fault : Model → ℕ
  record_fault m = or_else kind_fault (body_fault k m (record_bytes k body))

  module _ (rest : List ℕ) (small : 4 + length body < 65536) (kind : k < 65536) where
    framing_fault-written : framing_fault last (record_bytes k body ++ rest) ≡ kind_fault
    unfolding framing_fault
    framing_fault-written =
        let l = record-length k body rest small in
        let w = record-whole k body rest in
        rw (
          le-leb 4 (length (record_bytes k body ++ rest)) (omega arith),
          le-leb 4 (word_at (record_bytes k body ++ rest) 0) (omega arith),
          le-leb (word_at (record_bytes k body ++ rest) 0) (length (record_bytes k body ++ rest)) (omega arith),
          record-kind k body rest kind,
          l,
        )
        (or_else-none 0 kind_fault refl)

    module _ (most : ℕ) (m : Model) where
      -- what a step gives: 1 to 3, the kind, the record and the bytes after it
      step_of : ℕ → ℕ → List ℕ → List ℕ → Read
      step_of f k r b =
          cond (eqb (or_else f (body_fault k m r)) 0) (cond (eqb k 4) (read_end b m) (read_from most k b (with_record k m r)))
          (read_or (or_else f (body_fault k m r)) m)

      read-record : read_from (suc most) last (record_bytes k body ++ rest) m ≡ step_of kind_fault k (record_bytes k body) rest
      unfolding read_from step_of
      read-record =
          let b = record_bytes k body ++ rest in
          let l : word_at b 0 ≡ 4 + length body = record-length k body rest small in
          let t : take (word_at b 0) b ≡ record_bytes k body = ap (λ (l : ℕ). take l b) l ∙ record-taken k body rest in
          let d : drop (word_at b 0) b ≡ rest = ap (λ (l : ℕ). drop l b) l ∙ record-left k body rest in
          λ i. step_of (framing_fault-written i) (record-kind k body rest kind i) (t i) (d i)

      pub read-refused : (x : ℕ) → record_fault m ≡ x → (x ≡ 0 → ⊥) → read_from (suc most) last (record_bytes k body ++ rest) m ≡ read_or x m
      unfolding step_of
      read-refused x e h = read-record ∙ rw (e, ne_eqb x 0 h) refl

      pub read_more :
          record_fault m ≡ 0 → (k ≡ 4 → ⊥)
          → read_from (suc most) last (record_bytes k body ++ rest) m ≡ read_from most k rest (with_record k m (record_bytes k body))
      unfolding step_of
      read_more e h = read-record ∙ rw (e, ne_eqb k 4 h) refl

      pub read-ended : record_fault m ≡ 0 → k ≡ 4 → read_from (suc most) last (record_bytes k body ++ rest) m ≡ read_end rest m
      unfolding step_of
      read-ended e h = read-record ∙ rw (e, eq-eqb k 4 h) refl
