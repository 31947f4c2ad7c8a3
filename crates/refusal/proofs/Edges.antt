-- The first and the last number, those beside them, and an answer without one: by hand from document 01's table and document 02.
-- Assumes nothing.
use Prim.Native.Nat.{ℕ}
use mathlib.Core.Path.{◌≡◌, refl}
use Rattle.std.specs.Prelude.{Result, Ok, Err}
use Rattle.refusal.specs.declared.Refusal.{Refusal}
use Rattle.refusal.specs.declared.Refusal.TheVariants.{ShortFile, WrongKind, WrongLength, WrongCount, WrongCloser, WrongStatement, WrongName, WrongTarget, ExtraBytes, WrongThread, Unfit, NotReady, PastHorizon, HazardStands, LogFull, ShortTable, WrongPort, LackedPort, OutOfTurn}
use Rattle.refusal.specs.Number.{number_of, number_told}

-- "1 to 7 .., then 9, 8, 16"
pub number_of-file :
    (number_of ShortFile ≡ 1) ×
    (number_of WrongKind ≡ 2) ×
    (number_of WrongLength ≡ 3) ×
    (number_of WrongCount ≡ 4) ×
    (number_of WrongCloser ≡ 5) ×
    (number_of WrongStatement ≡ 6) ×
    (number_of WrongName ≡ 7) ×
    (number_of WrongTarget ≡ 8) ×
    (number_of ExtraBytes ≡ 9) ×
    (number_of ShortTable ≡ 16)
number_of-file = (refl, refl, refl, refl, refl, refl, refl, refl, refl, refl)

-- "Requests: 11, 10, 12, 13, 14, 15"
pub number_of-request :
    (number_of WrongThread ≡ 10) ×
    (number_of Unfit ≡ 11) ×
    (number_of NotReady ≡ 12) ×
    (number_of PastHorizon ≡ 13) ×
    (number_of HazardStands ≡ 14) ×
    (number_of LogFull ≡ 15)
number_of-request = (refl, refl, refl, refl, refl, refl)

-- those of document 02
pub number_of-later :
    (number_of WrongPort ≡ 17) ×
    (number_of LackedPort ≡ 18) ×
    (number_of OutOfTurn ≡ 19)
number_of-later = (refl, refl, refl)

-- nothing refused, and the first number
abbrev granted : Result ℕ Refusal
granted = Ok 7

abbrev refused : Result ℕ Refusal
refused = Err ShortFile

pub number_told-edges :
    (number_told granted ≡ 0) ×
    (number_told refused ≡ 1)
number_told-edges = (refl, refl)
