-- The kind of a record, as the code compares and matches it; an answer that is a refusal, or a value.
use Prim.Native.Nat.{ℕ}
use mathlib.Core.Path.{◌≡◌, refl, sym, ap}
use mathlib.Core.Bool.{Bool, true, false}
use native.Mathlib.Omega.{arith}
use denote.Enum.Bare.{sameb}
use Rattle.std.specs.Prelude.{Result, Ok, Err}
use Rattle.base.proofs.BoolLaws.{true→T, false→T}
use Rattle.refusal.specs.declared.Refusal.{Refusal}
use Rattle.refusal.specs.Number.{number_told}
use Rattle.refusal.proofs.NumberLaws.{number_of-not_0}
use Rattle.reader_record.specs.declared.Kind.{Kind}
use Rattle.reader_record.specs.declared.Kind.TheVariants.{Head, Segment, Thread, End, Ports}
use Rattle.reader_record.specs.contracts.Kind.{the_type}
use Rattle.reader_record.specs.Kinds.{kind_number, KindGives}

-- a refusal is no value, and a value is one
pub err-not_ok : {A : Type 0} {r : Refusal} {x : A} → ◌≡◌ {A = Result A Refusal} (Err r) (Ok x) → ⊥
err-not_ok e = number_of-not_0 _ (ap number_told e)

abbrev ok-or : Bool → Result Bool Refusal → Bool
ok-or d (Ok x) = x
ok-or d (Err r) = d

pub ok-same : {x y : Bool} → ◌≡◌ {A = Result Bool Refusal} (Ok x) (Ok y) → x ≡ y
ok-same {x} e = ap (ok-or x) e

-- whether it is the end
pub kind-end : (k : Kind) → sameb the_type k End ≡ true → kind_number k ≡ 4
kind-end Head e = absurd (true→T false e)
kind-end Segment e = absurd (true→T false e)
kind-end Thread e = absurd (true→T false e)
kind-end End e = refl
kind-end Ports e = absurd (true→T false e)

pub kind-inside : (k : Kind) → sameb the_type k End ≡ false → kind_number k ≡ 4 → ⊥
kind-inside Head e z = omega arith
kind-inside Segment e z = omega arith
kind-inside Thread e z = omega arith
kind-inside End e z = false→T true e
kind-inside Ports e z = omega arith

-- a number of no kind
pub no-kind : (n : ℕ) (r : Result Kind Refusal) (e : Refusal) → KindGives n r → r ≡ Err e → (k : Kind) → kind_number k ≡ n → ⊥
no-kind n (Ok x) e g is k z = number_of-not_0 e (sym (ap number_told is))
no-kind n (Err x) e g is k z = g.1 k z
