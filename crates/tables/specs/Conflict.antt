-- Document 01, "Tables": conflict.
use Rattle.std.specs.Prelude.{ℕ, Bool, false, ◌&&◌, ◌||◌, List, [], ltb, get_or, replicate}
use Rattle.base.specs.Index.{any_below, tabulate}
use Rattle.model.specs.declared.Model.{Model}
use Rattle.model.specs.Values.{segment_at}
use Rattle.model.specs.Footprint.{writes_of, uses_of}

-- "two segments that both access a variable which at least one writes"
unfoldable pub conflict : Model → ℕ → ℕ → Bool
conflict m r s =
    any_below m.v (λ v. (uses_of (segment_at m r) v && uses_of (segment_at m s) v) && (writes_of (segment_at m r) v || writes_of (segment_at m s) v))

-- "Marks past N are unset."
unfoldable pub mark : Model → ℕ → ℕ → Bool
mark m r s = (ltb r m.n && ltb s m.n) && conflict m r s

-- "a table of 64 rows of 64 marks, handed on by value"
unfoldable pub marks_of : Model → List (List Bool)
marks_of m = tabulate 64 0 (λ r. tabulate 64 0 (λ s. mark m r s))

abbrev pub no_marks : List (List Bool)
no_marks = replicate 64 (replicate 64 false)

-- the mark at row r, column s
unfoldable pub mark_at : List (List Bool) → ℕ → ℕ → Bool
mark_at t r s = get_or (get_or t r []) s false
