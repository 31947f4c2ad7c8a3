-- A statement's bytes: the operation beside a refusal is a notify.
use Prim.Native.Nat.{ℕ}
use mathlib.Core.Path.{◌≡◌, ◌∙◌}
use mathlib.Core.List.{List}
use native.Mathlib.Omega.{arith}
use Rattle.std.specs.Prelude.{Result, Ok, Err, IfOk}
use Rattle.std.specs.Result.{result_unwrap_or}
use Rattle.model.specs.declared.Op.{Op}
use Rattle.model.specs.declared.Op.TheVariants.{Notify}
use Rattle.refusal.specs.declared.Refusal.{Refusal}
use Rattle.refusal.specs.Number.{number_told}
use Rattle.refusal.proofs.NumberLaws.{number_of-not_0}
use Rattle.reader.specs.Word.{byte_at}
use Rattle.reader.specs.Statement.{op_from, op_shape_fault}

module _ (b : List ℕ) where
  op_from-refused : (op_shape_fault b ≡ 0 → ⊥) → Notify (byte_at b 1) ≡ op_from b
  unfolding op_shape_fault op_from
  op_from-refused n = grind (arith, n)

  pub op_from-decoded : (d : Result Op Refusal) → number_told d ≡ op_shape_fault b → IfOk d (λ op. op ≡ op_from b) → result_unwrap_or d (Notify (byte_at b 1)) ≡ op_from b
  op_from-decoded (Ok op) f e = e
  op_from-decoded (Err r) f e = op_from-refused (λ z. number_of-not_0 r (f ∙ z))
