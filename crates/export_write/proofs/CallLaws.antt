-- Each exit of the two calls, over variables.
--     models-refused, models-short, models-written     a file's model as numbers
--     files-no-place, files-number, files-short, files-written     the file of a model held as numbers
-- Assumes nothing.
use Prim.Native.Nat.{ℕ, ◌<◌}
use mathlib.Core.Path.{◌≡◌, refl, sym, ap, ◌∙◌, subst}
use mathlib.Core.Bool.{cond}
use mathlib.Core.List.{List, []}
use native.Mathlib.Decide.{dec_lt}
use native.Mathlib.Omega.{arith}
use lib.Dec.{leb, eqb}
use lib.ListN.{length, set}
use borrow.Author.Tests.{eq-eqb, ne_eqb, le-leb, lt-leb}
use Rattle.base.specs.Index.{or_else}
use Rattle.base.proofs.IndexLaws.{or_else-none}
use Rattle.buffers.specs.declared.Written.{Written}
use Rattle.buffers.specs.declared.Written.TheVariants.{Length, Refused}
use Rattle.buffers.specs.Write.{Writes}
use Rattle.buffers.specs.Written.{number_of, length_of, written_in, left_in, Saves}
use Rattle.buffers.proofs.WriteLaws.{length_in-room, length_in-short}
use Rattle.buffers.proofs.WrittenLaws.{saves-number}
use Rattle.model.specs.declared.Model.{Model}
use Rattle.model.specs.Rules.{model_fault}
use Rattle.model_rules.proofs.FaultLaws.{unless-kept}
use Rattle.reader.specs.Read.{Read}
use Rattle.reader.specs.File.{read_file}
use Rattle.reader_laws.proofs.Accepted.{accepted-kept}
use Rattle.writer.specs.File.{file_of}
use Rattle.export_model.specs.Numbers.{numbers_of}
use Rattle.export_model.specs.Judged.{numbers_number, model_held, held_or}
use Rattle.export_hold.proofs.KeptLaws.{held_kept}
use Rattle.export_write.specs.Call.{Models, call_number, answer_of, Files}

-- a text that is not empty, written or not: the answer 0 is no room
module _ (before after text : List ℕ) (k : ℕ) (w : Writes before after k text) where
  short-saves : 0 < length text → k ≡ 0 → Saves before after (Refused 16) 0 text
  unfolding written_in left_in
  short-saves some z = record { answer = go (dec_lt (length before) (length text)); buffer = w.buffer }
    where
      go : Dec (length before < length text) → Refused 16 ≡ cond (leb (length text) (length before)) (Length (length text)) (Refused 16)
      go (yes h) = rw (lt-leb (length text) (length before) h) refl
      go (no h) =
          let l : k ≡ length text = w.answer ∙ length_in-room text before (omega arith) in
          absurd (omega arith)

  text-saves : (k ≡ 0 → ⊥) → Saves before after (Length k) 0 text
  unfolding written_in left_in
  text-saves n = record { answer = go (dec_lt (length before) (length text)); buffer = w.buffer }
    where
      go : Dec (length before < length text) → Length k ≡ cond (leb (length text) (length before)) (Length (length text)) (Refused 16)
      go (yes h) = absurd (n (w.answer ∙ sym (length_in-short text before h)))
      go (no h) =
          rw (le-leb (length text) (length before) (omega arith)) (ap Length (w.answer ∙ length_in-room text before (omega arith)))

-- a model's numbers begin with its horizon
numbers_of-some : (m : Model) → 0 < length (numbers_of m)
unfolding numbers_of
numbers_of-some m = omega arith

module _ (file before : List ℕ) (r : Read) (e : r ≡ read_file file) where
  models-saved : (after : List ℕ) (w : Written) → Saves before after w r.number (numbers_of r.model) → Models file before (number_of w) after
  models-saved after w s = let s = rw e at s in record { number = ap number_of s.answer; numbers = s.buffer }

  pub models-refused : (r.number ≡ 0 → ⊥) → Models file before r.number before
  models-refused n =
      models-saved before (Refused r.number) (saves-number before (numbers_of r.model) r.number r.number refl n)

  -- a model that was read has no fault, so that its numbers are written, or there is no room
  module _ (after : List ℕ) (k : ℕ) (h : r.number ≡ 0) (w : Writes before after k (cond (eqb (model_fault r.model) 0) (numbers_of r.model) [])) where
    kept : model_fault r.model ≡ 0
    kept = rw e (accepted-kept file (sym (ap (λ (x : Read). x.number) e) ∙ h))

    writes : Writes before after k (numbers_of r.model)
    writes = rw (eq-eqb (model_fault r.model) 0 kept) at w

    models-zero : (x : Written) → Saves before after x 0 (numbers_of r.model) → Models file before (number_of x) after
    models-zero x s = models-saved after x (subst (λ (n : ℕ). Saves before after x n (numbers_of r.model)) (sym h) s)

    pub models-short : k ≡ 0 → Models file before 16 after
    models-short z = models-zero (Refused 16) (short-saves before after (numbers_of r.model) k writes (numbers_of-some r.model) z)

    pub models-written : (k ≡ 0 → ⊥) → Models file before 0 after
    models-written n = models-zero (Length k) (text-saves before after (numbers_of r.model) k writes n)

module _ (xs before place : List ℕ) where
  call-refused : (x : ℕ) → x ≡ call_number xs place → (x ≡ 0 → ⊥) → Files xs before place x before place
  call-refused x e n =
      let s = saves-number before (file_of (model_held xs)) (call_number xs place) x e n in
      let a : x ≡ number_of (answer_of xs before place) = ap number_of s.answer in
      record { number = a; bytes = s.buffer; size = rw (ne_eqb (number_of (answer_of xs before place)) 0 (λ z. n (a ∙ z))) refl }

  call_none : length place ≡ 0 → 11 ≡ call_number xs place
  unfolding or_else
  call_none z = rw z refl

  call-number : (length place ≡ 0 → ⊥) → call_number xs place ≡ numbers_number xs
  call-number p = or_else-none _ _ (unless-kept (leb 1 (length place)) 11 (le-leb 1 (length place) (omega arith)))

  pub files-no-place : length place ≡ 0 → Files xs before place 11 before place
  files-no-place z = call-refused 11 (call_none z) (λ n. omega arith)

  module _ (p : length place ≡ 0 → ⊥) (x : ℕ) (e : x ≡ numbers_number xs) where
    pub files-number : (x ≡ 0 → ⊥) → Files xs before place x before place
    files-number n = call-refused x (e ∙ sym (call-number p)) n

    -- a model held as numbers without a number has no fault
    module _ (z : x ≡ 0) (m : Model) (held : m ≡ held_or xs) (after : List ℕ) (w : Written) (s : Saves before after w (model_fault m) (file_of m)) (r : ℕ) (q : r ≡ number_of w) where
      none : numbers_number xs ≡ 0
      none = sym e ∙ z

      same : m ≡ model_held xs
      unfolding held_or
      same = held ∙ rw (eq-eqb (numbers_number xs) 0 none) refl

      call-saves : Saves before after w (call_number xs place) (file_of (model_held xs))
      call-saves =
          let s = rw same at s in
          subst (λ (n : ℕ). Saves before after w n (file_of (model_held xs))) (held_kept xs none ∙ sym (call-number p ∙ none)) s

      answer : r ≡ number_of (answer_of xs before place)
      answer = q ∙ ap number_of call-saves.answer

      pub files-short : (r ≡ 0 → ⊥) → Files xs before place r after place
      files-short n =
          record {
            number = answer;
            bytes = call-saves.buffer;
            size = rw (ne_eqb (number_of (answer_of xs before place)) 0 (λ y. n (answer ∙ y))) refl;
          }

      pub files-written : (k : ℕ) → k ≡ length_of w → r ≡ 0 → Files xs before place r after (set place 0 k)
      files-written k l y =
          record {
            number = answer;
            bytes = call-saves.buffer;
            size = rw (eq-eqb (number_of (answer_of xs before place)) 0 (sym answer ∙ y)) (ap (set place 0) (l ∙ ap length_of call-saves.answer));
          }
