-- What is read from a model's words, whatever they are.
use Rattle.std.specs.Prelude.{ℕ, ◌+◌, ◌*◌, ◌/◌, ◌%◌, cond, List, ltb, eqb, get_or}
use Rattle.model.specs.declared.Op.{Op}
use Rattle.model.specs.declared.Op.TheVariants.{Set, Add, Copy, AddVariable, SubVariable, Notify}

-- the operation of a word
unfoldable pub op_of : ℕ → Op
op_of w =
    cond (eqb (w % 8) 0)
    (Set (w / 8 % 64) (w / 2048 % 4294967296))
    (cond (eqb (w % 8) 1)
    (Add (w / 8 % 64) (w / 2048 % 4294967296))
    (cond (eqb (w % 8) 2)
    (Copy (w / 8 % 64) (w / 2048 % 64))
    (cond (eqb (w % 8) 3)
    (AddVariable (w / 8 % 64) (w / 2048 % 64))
    (cond (eqb (w % 8) 4) (SubVariable (w / 8 % 64) (w / 2048 % 64)) (Notify (w / 8 % 32))))))

-- how the segment in row s closes
abbrev pub end_by : List ℕ → ℕ → ℕ
end_by code s = get_or code (34 * (s % 128)) 0

-- how many statements that closes
unfoldable pub size_by : ℕ → ℕ
size_by end = end / 4 % 64

-- the next segment of a word
unfoldable pub next_by : ℕ → List ℕ → ℕ
next_by w v =
    cond (eqb (w / 65536 % 256) 255)
    (w % 64)
    (cond (ltb (get_or v (w / 65536 % 256 % 64) 0) (w / 16777216)) (w % 64) (w / 256 % 64))

-- the row of the segment after the one in row s; in an ended thread, s
unfoldable pub follow_by : List ℕ → ℕ → List ℕ → ℕ
follow_by code s v = cond (eqb (end_by code s % 4) 0) s (next_by (get_or code (34 * (s % 128) + 1) 0) v)
