-- What is written is read back: beside each answer of a call that writes a model.
-- Assumes nothing of the model but that it is owned.
use Prim.Native.Nat.{ℕ, ◌<◌, ◌^◌}
use mathlib.Core.Path.{◌≡◌, refl, sym, ap, ◌∙◌}
use mathlib.Core.List.{List}
use native.Mathlib.Decide.{ℕ_discrete}
use native.Mathlib.Omega.{arith}
use mir.Val.{Val}
use denote.Laws.{Is}
use borrow.Author.Tests.{eq-eqb, ne_eqb}
use Rattle.buffers.specs.declared.Written.{Written}
use Rattle.buffers.specs.Written.{Saves}
use Rattle.buffers.proofs.WrittenLaws.{saves-front}
use Rattle.model.specs.declared.Model.{Model}
use Rattle.model.specs.Rules.{model_fault}
use Rattle.model.specs.contracts.Model as model
use Rattle.model_effect.proofs.LengthLaws.{segments-length}
use Rattle.model_rules.proofs.RuleLaws.{model_fault-horizon}
use Rattle.reader.specs.Read.{Read}
use Rattle.reader.specs.File.{read_or, read_file}
use Rattle.writer.specs.File.{file_of, trimmed}
use Rattle.writer.specs.Back.{ReadsBack}
use Rattle.writer_laws.proofs.ReadWritten.{read-written}
use Rattle.writer_file.proofs.FieldLaws.{fields_owned}

read_or-number : (x : ℕ) (m : Model) → (read_or x m).number ≡ x
read_or-number x m = go (ℕ_discrete x 0)
  where
    go : Dec (x ≡ 0) → (read_or x m).number ≡ x
    go (yes z) = rw (eq-eqb x 0 z) (sym z)
    go (no z) = rw (ne_eqb x 0 z) refl

module _ (m : Model) (vs : List Val) (owned : Is model.the_row m vs) where
  -- at most 64 places, and values that fit, as owning the model tells
  read_owned : m.horizon.0 < 2 ^ 32 → read_file (file_of m) ≡ read_or (model_fault m) (trimmed m)
  read_owned h = read-written m (fields_owned m vs owned h) (omega (arith, segments-length m vs owned))

  module _ (before after : List ℕ) (r : Written) where
    pub reads-back : Saves before after r (model_fault m) (file_of m) → ReadsBack m r after
    reads-back s =
        record {
          number = λ h. ap (λ (x : Read). x.number) (read_owned h) ∙ read_or-number (model_fault m) (trimmed m);
          model =
              λ none.
              let (ok, front) = saves-front before after r (file_of m) (model_fault m) s none in
              let h : m.horizon.0 < 2 ^ 32 = omega (arith, (model_fault-horizon m ok).1) in
              ap read_file front ∙ read_owned h ∙ ap (λ (x : ℕ). read_or x (trimmed m)) ok;
        }

    -- both clauses of `write`
    pub saves-back : Saves before after r (model_fault m) (file_of m) → Saves before after r (model_fault m) (file_of m) × ReadsBack m r after
    saves-back s = (s, reads-back s)
