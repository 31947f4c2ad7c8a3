-- How the code makes the marks: the variables of a segment as bits of two words. Only private contracts cite this; `proofs/MaskLaws.antt` says that the marks are those of `marks_of`.
use Rattle.std.specs.Prelude.{ℕ, zero, suc, Bool, false, not, List, eqb, get_or, replicate}
use Rattle.std.specs.Int.Bits.{bit_and, bit_or}
use Rattle.base.specs.Index.{store_to}
use Rattle.masks.specs.Mask.{bit_of}
use Rattle.model.specs.declared.Op.{Op}
use Rattle.model.specs.declared.Op.TheVariants.{Set, Add, Copy, AddVariable, SubVariable, Notify}
use Rattle.model.specs.declared.Statement.{Statement}
use Rattle.model.specs.declared.Closer.{Closer}
use Rattle.model.specs.declared.Closer.TheVariants.{End, Time, Event}
use Rattle.model.specs.declared.Segment.{Segment}
use Rattle.model.specs.declared.Model.{Model}
use Rattle.model.specs.Values.{no_statement, segment_at}
use Rattle.tables_conflict.specs.declared.Masks.{Masks}
use Rattle.tables.specs.Conflict.{no_marks}

abbrev pub masks : ℕ → ℕ → Masks
masks w u = record { writes = w; uses = u }

-- what an operation writes, and what it writes or reads: variable x is bit x, if it is below 64; a port is none by itself, and 255 is none
unfoldable pub op_masks : Op → Masks
op_masks (Set a b) = masks (bit_of a) (bit_of a)
op_masks (Add a b) = masks (bit_of a) (bit_of a)
op_masks (Copy a b) = masks (bit_of a) (bit_or (bit_of a) (bit_of b))
op_masks (AddVariable a b) = masks (bit_of a) (bit_or (bit_of a) (bit_of b))
op_masks (SubVariable a b) = masks (bit_of a) (bit_or (bit_of a) (bit_of b))
op_masks (Notify w) = masks 0 0

-- "The test variable counts as read."
unfoldable pub test_mask : Closer → ℕ
test_mask End = 0
test_mask (Time k x) = bit_of x.test
test_mask (Event w x) = bit_of x.test

unfoldable pub join_masks : Masks → Masks → Masks
join_masks a b = masks (bit_or a.writes b.writes) (bit_or a.uses b.uses)

-- the first statements of a segment, and all of it
unfoldable pub masks_to : List Statement → ℕ → Masks
masks_to xs zero = masks 0 0
masks_to xs (suc j) = join_masks (masks_to xs j) (op_masks (get_or xs j no_statement).op)

unfoldable pub masks_of : Segment → Masks
masks_of g = let a = masks_to g.statements g.n in masks a.writes (bit_or a.uses (test_mask g.closer))

-- whether both use a variable that at least one writes
unfoldable pub clash : Masks → Masks → Bool
clash a b = not (eqb (bit_and (bit_and a.uses b.uses) (bit_or a.writes b.writes)) 0)

-- the first segments; the first marks of a row; the first rows
unfoldable pub masks_for : Model → ℕ → List Masks
masks_for m n = store_to (λ i xs. masks_of (segment_at m i)) 0 (replicate 64 (masks 0 0)) n

unfoldable pub row_to : List Masks → ℕ → ℕ → List Bool
row_to ms r n = store_to (λ s xs. clash (get_or ms r (masks 0 0)) (get_or ms s (masks 0 0))) 0 (replicate 64 false) n

unfoldable pub rows_to : List Masks → ℕ → ℕ → List (List Bool)
rows_to ms n k = store_to (λ r xs. row_to ms r n) 0 no_marks k
