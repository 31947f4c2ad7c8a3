-- Document 01, "Model file": a statement's 6 bytes. "Statement: operation, one byte a, four bytes b."
use Rattle.std.specs.Prelude.{ℕ, cond, not, ◌&&◌, ◌||◌, List, leb, eqb}
use Rattle.base.specs.Index.{or_else}
use Rattle.model.specs.declared.Op.{Op}
use Rattle.model.specs.declared.Op.TheVariants.{Set, Add, Copy, AddVariable, SubVariable, Notify}
use Rattle.model.specs.Refusal.{wrong_statement}
use Rattle.model.specs.Rules.{unless, op_fault}
use Rattle.reader.specs.Word.{byte_at, long_at}

-- a statement by its operation, a and b
abbrev pub op_of : ℕ → ℕ → ℕ → Op
op_of op a b =
    cond (eqb op 1) (Set a b)
    (cond (eqb op 2) (Add a b)
    (cond (eqb op 3) (Copy a b)
    (cond (eqb op 4) (AddVariable a b)
    (cond (eqb op 5) (SubVariable a b)
    (Notify a)))))

unfoldable pub op_from : List ℕ → Op
op_from b = op_of (byte_at b 0) (byte_at b 1) (long_at b 2)

-- "An operation byte outside 1 to 6 is refused."; "6 notifies event a, b is 0."
abbrev pub op_form_fault : ℕ → ℕ → ℕ
op_form_fault op b = unless ((leb 1 op && leb op 6) && (not (eqb op 6) || eqb b 0)) wrong_statement

unfoldable pub op_shape_fault : List ℕ → ℕ
op_shape_fault b = op_form_fault (byte_at b 0) (long_at b 2)

-- "6 and 7 of each statement"
unfoldable pub op_bytes_fault : ℕ → ℕ → List ℕ → ℕ
op_bytes_fault v e b = or_else (op_shape_fault b) (op_fault v e (op_from b))
