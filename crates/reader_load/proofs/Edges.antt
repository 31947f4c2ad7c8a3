-- The edge of 16: one word less than N × N, and N × N of them. And the reader's number before 16, also where it is the greater.
use Prim.Native.Nat.{ℕ}
use mathlib.Core.Path.{◌≡◌, refl}
use mathlib.Core.List.{[], ◌∷◌}
use Rattle.base.specs.Index.{or_else}
use Rattle.model.specs.Values.{no_segment, no_start}
use Rattle.model.specs.declared.Model.{Model}
use Rattle.reader.specs.Read.{Read}
use Rattle.tables.specs.Outcome.{is_short}
use Rattle.reader_load.specs.Load.{load_number, by_rows_number}

-- two segments
abbrev two : Model
two = record { horizon = record { 0 = 10 }; v = 0; e = 0; n = 2; t = 1; segments = no_segment ∷ no_segment ∷ []; starts = no_start ∷ [] }

abbrev read : ℕ → Read
read n = record { number = n; model = two }

pub load_number-edges :
    (load_number (read 0) (0 ∷ 0 ∷ 0 ∷ []) ≡ 16) ×
    (load_number (read 0) (0 ∷ 0 ∷ 0 ∷ 0 ∷ []) ≡ 0) ×
    (load_number (read 0) (0 ∷ 0 ∷ 0 ∷ 0 ∷ 0 ∷ []) ≡ 0) ×
    (load_number (read 9) (0 ∷ 0 ∷ 0 ∷ []) ≡ 9) ×
    (load_number (read 17) (0 ∷ 0 ∷ 0 ∷ []) ≡ 17) ×
    (load_number (read 18) (0 ∷ 0 ∷ 0 ∷ []) ≡ 18)
unfolding load_number is_short or_else
load_number-edges = (refl, refl, refl, refl, refl, refl)

-- by rows: 63, 64 and 65 words, whatever N is, after every number of the file
pub by_rows_number-edges :
    (by_rows_number (read 0) 63 ≡ 16) × (by_rows_number (read 0) 64 ≡ 0) × (by_rows_number (read 0) 65 ≡ 0) × (by_rows_number (read 9) 63 ≡ 9) × (by_rows_number (read 18) 63 ≡ 18)
unfolding by_rows_number or_else
by_rows_number-edges = (refl, refl, refl, refl, refl)
