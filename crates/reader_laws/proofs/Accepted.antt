-- A file that the reader accepts gives a model that keeps the file rules: its records do (`ReadSoFar`), and what the records name
-- of each other is judged at the end. So what holds of a model without fault holds of every accepted file.
-- Assumes nothing.
use Prim.Native.Nat.{ℕ, zero, suc, ◌<◌, ◌≤◌}
use mathlib.Core.Path.{◌≡◌, refl, ◌∙◌}
use mathlib.Core.List.{List}
use native.Mathlib.Omega.{arith}
use lib.Dec.{ltb, leb, eqb, le→leb, lt→ltb}
use lib.ListN.{length, take, drop}
use Rattle.base.specs.Index.{or_else}
use Rattle.base.proofs.BoolLaws.{T→true, cond-case}
use Rattle.base.proofs.IndexLaws.{or_else-none, first_below-all}
use Rattle.model.specs.declared.Model.{Model}
use Rattle.model.specs.Values.{no_model, segment_at, ports_at}
use Rattle.model.specs.Rules.{unless, segment_fault, segments_fault, ports_fault, starts_fault, counts_fault, links_fault, model_fault}
use Rattle.model_rules.proofs.FaultLaws.{unless-kept}
use Rattle.reader.specs.Read.{Read}
use Rattle.reader.specs.Word.{word_at}
use Rattle.reader.specs.Record.{framing_fault, body_fault, with_record}
use Rattle.reader.specs.File.{read_or, read_end, read_from, read_file}
use Rattle.reader_laws.proofs.ReadSoFar.{SoFar, nothing_read}
use Rattle.reader_laws.proofs.Reading.{read-induct}

-- after the threads, with targets that are there and ports that are used, no rule is broken
module _ (last : ℕ) (m : Model) (g : SoFar last m) (ended : 3 ≤ last) where
  segments-kept : segments_fault m ≡ 0
  unfolding segments_fault
  segments-kept = first_below-all m.n _ each
    where
      each : (i : ℕ) → i < m.n → or_else (unless (ltb i 64) 4) (segment_fault m.v m.e (segment_at m i)) ≡ 0
      each i h = or_else-none (unless (ltb i 64) 4) _ (unless-kept (ltb i 64) 4 (T→true (ltb i 64) (lt→ltb i 64 (omega (arith, g.few_segments))))) ∙ g.segments i h

  starts-kept : starts_fault m ≡ 0
  unfolding starts_fault
  starts-kept = first_below-all m.t _ each
    where
      each : (k : ℕ) → k < m.t → or_else (unless (ltb k 32) 4) (ports_fault m.v (ports_at m k)) ≡ 0
      each k h = or_else-none (unless (ltb k 32) 4) _ (unless-kept (ltb k 32) 4 (T→true (ltb k 32) (lt→ltb k 32 (omega (arith, g.few_threads))))) ∙ g.ports k h

  counts-kept : counts_fault m ≡ 0
  unfolding counts_fault
  counts-kept =
      or_else-none (unless (leb 1 m.n) 2) _ (unless-kept (leb 1 m.n) 2 (T→true (leb 1 m.n) (le→leb 1 m.n (g.some_segment (omega arith)))))
      ∙ or_else-none (unless (leb 1 m.t) 2) _ (unless-kept (leb 1 m.t) 2 (T→true (leb 1 m.t) (le→leb 1 m.t (g.some_thread ended))))
      ∙ starts-kept

  read_kept : links_fault m ≡ 0 → model_fault m ≡ 0
  unfolding model_fault
  read_kept links =
      or_else-none _ _ (g.head (omega arith))
      ∙ or_else-none _ _ segments-kept
      ∙ or_else-none _ _ counts-kept
      ∙ links

pub accepted-kept : (b : List ℕ) → (read_file b).number ≡ 0 → model_fault (read_file b).model ≡ 0
unfolding read_file
accepted-kept b e =
    read-induct (λ last b m n. model_fault n ≡ 0)
    (λ last b m w ended kind empty links. read_kept last m w.so_far ended links)
    (λ last b m n w other kept. kept)
    (length b) 0 b no_model nothing_read e

-- beside a number the model is zero
pub read_or-refused : (n : ℕ) (m : Model) → ((read_or n m).number ≡ 0 → ⊥) → (read_or n m).model ≡ no_model
read_or-refused n m = cond-case (λ (x : Read). (x.number ≡ 0 → ⊥) → x.model ≡ no_model) (eqb n 0) (λ t h. absurd (h refl)) (λ t h. refl)

from-refused : (most last : ℕ) (b : List ℕ) (m : Model) → ((read_from most last b m).number ≡ 0 → ⊥) → (read_from most last b m).model ≡ no_model
unfolding read_from read_end
from-refused zero last b m h = read_or-refused 1 m h
from-refused (suc most) last b m h =
    let k = word_at b 2 in
    let rest = drop (word_at b 0) b in
    let next = with_record k m (take (word_at b 0) b) in
    let fault = or_else (framing_fault last b) (body_fault k m (take (word_at b 0) b)) in
    let more = from-refused most k rest next in
    cond-case (λ (x : Read). (x.number ≡ 0 → ⊥) → x.model ≡ no_model) (eqb fault 0)
    (λ t. cond-case (λ (x : Read). (x.number ≡ 0 → ⊥) → x.model ≡ no_model) (eqb k 4) (λ u. read_or-refused (or_else (unless (eqb (length rest) 0) 9) (links_fault m)) m) (λ u. more))
    (λ t. read_or-refused fault m)
    h

pub refused-zero : (b : List ℕ) → ((read_file b).number ≡ 0 → ⊥) → (read_file b).model ≡ no_model
unfolding read_file
refused-zero b h = from-refused (length b) 0 b no_model h
