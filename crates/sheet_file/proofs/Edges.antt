-- Document 01, "Cases": what is printed of small files, worked out by hand.
use mathlib.Core.Path.{◌≡◌, refl}
use mathlib.Core.List.{[], ◌∷◌}
use Rattle.reader.proofs.Computed as reader
use Rattle.sheet.proofs.Computed as sheet
use Rattle.sheet_file.specs.Report.{printed_of, printed}

-- 1, "empty file"; 2, "04 00 04 00 alone": `refused 1`, `refused 2`, and nothing else
pub printed-refused :
    (printed 1000000 [] ≡ 114 ∷ 101 ∷ 102 ∷ 117 ∷ 115 ∷ 101 ∷ 100 ∷ 32 ∷ 49 ∷ 10 ∷ []) ×
    (printed 1000000 (4 ∷ 0 ∷ 4 ∷ 0 ∷ []) ≡ 114 ∷ 101 ∷ 102 ∷ 117 ∷ 115 ∷ 101 ∷ 100 ∷ 32 ∷ 50 ∷ 10 ∷ [])
unfolding reader.computed sheet.computed printed_of printed
printed-refused = (refl, refl)

-- case 1: "the 36-byte file of H = 10, V = E = 0, one ending segment, one thread: ended at (0, 0), n is 1"
pub printed-case-1 :
    printed 1000000 (10 ∷ 0 ∷ 1 ∷ 0 ∷ 10 ∷ 0 ∷ 0 ∷ 0 ∷ 0 ∷ 0 ∷ 17 ∷ 0 ∷ 2 ∷ 0 ∷ 0 ∷ 0 ∷ 0 ∷ 0 ∷ 0 ∷ 0 ∷ 0 ∷ 0 ∷ 0 ∷ 0 ∷ 0 ∷ 0 ∷ 0 ∷ 5 ∷ 0 ∷ 3 ∷ 0 ∷ 0 ∷ 4 ∷ 0 ∷ 4 ∷ 0 ∷ []) ≡ 116 ∷ 32 ∷ 48 ∷ 32 ∷ 48 ∷ 32 ∷ 101 ∷ 110 ∷ 100 ∷ 101 ∷ 100 ∷ 32 ∷ 48 ∷ 32 ∷ 48 ∷ 10 ∷ 110 ∷ 32 ∷ 49 ∷ 10 ∷ []
unfolding reader.computed sheet.computed printed_of printed
printed-case-1 = refl
