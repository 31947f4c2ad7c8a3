-- No refusal has number 0, so an answer with a number is no success.
--     number_of-not_0, number_told-err, number_told-ok     the number of each case
--     told-refused, told-held     by the test whether an answer is an error
use mathlib.Core.Path.{◌≡◌, refl, sym, ◌∙◌}
use native.Mathlib.Omega.{arith}
use mathlib.Core.Bool.{true, false}
use borrow.Author.Tests.{both_ways}
use Rattle.std.specs.Prelude.{ℕ, Result, Ok, Err}
use Rattle.std.specs.Result.{is_err}
use Rattle.refusal.specs.declared.Refusal.{Refusal}
use Rattle.refusal.specs.declared.Refusal.TheVariants.{ShortFile, WrongKind, WrongLength, WrongCount, WrongCloser, WrongStatement, WrongName, WrongTarget, ExtraBytes, WrongThread, Unfit, NotReady, PastHorizon, HazardStands, LogFull, ShortTable, WrongPort, LackedPort, OutOfTurn}
use Rattle.refusal.specs.Number.{number_of, number_told}

pub number_of-not_0 : (r : Refusal) → number_of r ≡ 0 → ⊥
number_of-not_0 ShortFile e = omega arith
number_of-not_0 WrongKind e = omega arith
number_of-not_0 WrongLength e = omega arith
number_of-not_0 WrongCount e = omega arith
number_of-not_0 WrongCloser e = omega arith
number_of-not_0 WrongStatement e = omega arith
number_of-not_0 WrongName e = omega arith
number_of-not_0 WrongTarget e = omega arith
number_of-not_0 ExtraBytes e = omega arith
number_of-not_0 WrongThread e = omega arith
number_of-not_0 Unfit e = omega arith
number_of-not_0 NotReady e = omega arith
number_of-not_0 PastHorizon e = omega arith
number_of-not_0 HazardStands e = omega arith
number_of-not_0 LogFull e = omega arith
number_of-not_0 ShortTable e = omega arith
number_of-not_0 WrongPort e = omega arith
number_of-not_0 LackedPort e = omega arith
number_of-not_0 OutOfTurn e = omega arith

-- the number of an answer, as its cases say it
pub number_told-err : {A : Type 0} (a : Result A Refusal) (r : Refusal) → a ≡ Err r → number_told a ≡ number_of r
number_told-err a r e = rw e refl

pub number_told-ok : {A : Type 0} (a : Result A Refusal) (x : A) → a ≡ Ok x → number_told a ≡ 0
number_told-ok a x e = rw e refl

-- an answer that is an error has a number, and any other has none
pub told-refused : {A : Type 0} (a : Result A Refusal) (n : ℕ) → number_told a ≡ n → is_err a ≡ true → n ≡ 0 → ⊥
told-refused (Ok x) n e t z = both_ways false refl t
told-refused (Err r) n e t z = number_of-not_0 r (e ∙ z)

pub told-held : {A : Type 0} (a : Result A Refusal) (n : ℕ) → number_told a ≡ n → is_err a ≡ false → n ≡ 0
told-held (Ok x) n e t = sym e
told-held (Err r) n e t = absurd (both_ways true t refl)
