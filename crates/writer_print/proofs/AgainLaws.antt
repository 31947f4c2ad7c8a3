-- What is printed of a file, accepted or refused; of an accepted file it is the file.
use Prim.Native.Nat.{ℕ}
use mathlib.Core.Path.{◌≡◌, refl, sym, ap, ◌∙◌}
use mathlib.Core.List.{List}
use borrow.Author.Tests.{eq-eqb, ne_eqb}
use Rattle.buffers.specs.declared.Written.{Written}
use Rattle.buffers.specs.Write.{Writes}
use Rattle.buffers.specs.Written.{length_of, Saves}
use Rattle.buffers.proofs.WrittenLaws.{saves-writes}
use Rattle.model.specs.Rules.{model_fault}
use Rattle.reader.specs.Read.{Read}
use Rattle.reader.specs.File.{read_file}
use Rattle.reader_laws.proofs.Accepted.{accepted-kept}
use Rattle.writer.specs.File.{file_of}
use Rattle.writer_laws.proofs.WrittenRead.{written_read}
use Rattle.sheet.specs.Sheet.{refused_line}
use Rattle.writer_print.specs.Again.{again_of, again, Same}

module _ (file : List ℕ) (r : Read) (e : r ≡ read_file file) where
  again-written : r.number ≡ 0 → file_of r.model ≡ again file
  unfolding again again_of
  again-written h = rw (← e, eq-eqb r.number 0 h) refl

  pub again-refused : (r.number ≡ 0 → ⊥) → refused_line r.number ≡ again file
  unfolding again again_of
  again-refused h = rw (← e, ne_eqb r.number 0 h) refl

  -- a model that was read has no fault, so that it is written, or there is no room
  pub again-saved : (before after : List ℕ) (w : Written) (k : ℕ) → r.number ≡ 0 → Saves before after w (model_fault r.model) (file_of r.model)
      → k ≡ length_of w → Writes before after k (again file)
  again-saved before after w k h s q =
      rw (q, ← again-written h) (saves-writes before after w (file_of r.model) (model_fault r.model) kept s)
    where
      kept : model_fault r.model ≡ 0
      kept = rw e (accepted-kept file (sym (ap (λ (x : Read). x.number) e) ∙ h))

pub again-same : (file : List ℕ) → Same file
again-same file bytes h = sym (again-written file (read_file file) refl h) ∙ written_read file bytes h
