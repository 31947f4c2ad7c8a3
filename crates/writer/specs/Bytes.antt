-- Document 02, slip 2, "the model file": numbers, a closer and a statement as bytes, as document 01 lays them out.
use Rattle.std.specs.Prelude.{ℕ, zero, suc, ◌+◌, ◌/◌, ◌%◌, List, [], ◌∷◌, ◌++◌, replicate}
use Rattle.model.specs.declared.Next.{Next}
use Rattle.model.specs.declared.Op.{Op}
use Rattle.model.specs.declared.Op.TheVariants.{Set, Add, Copy, AddVariable, SubVariable, Notify}
use Rattle.model.specs.declared.Closer.{Closer}
use Rattle.model.specs.declared.Closer.TheVariants.{End, Time, Event}

-- "Little-endian.": x in n bytes, the lowest first
unfoldable pub bytes_of : ℕ → ℕ → List ℕ
bytes_of zero x = []
bytes_of (suc n) x = x % 256 ∷ bytes_of n (x / 256)

-- f i, f (i + 1), .., n of them, one after the other
unfoldable pub joined : ℕ → ℕ → (ℕ → List ℕ) → List ℕ
joined zero i f = []
joined (suc n) i f = f i ++ joined n (i + 1) f

-- "next segments A and B", "a test variable, or 255 for none", "a limit"
unfoldable pub next_bytes : Next → List ℕ
next_bytes x = bytes_of 1 x.a ++ (bytes_of 1 x.b ++ (bytes_of 1 x.test ++ bytes_of 4 x.limit))

-- "a closer of 13 bytes": byte 0, the event, the delay, and what comes next; "With kind 0 the other twelve bytes are 0"
unfoldable pub closer_bytes : Closer → List ℕ
closer_bytes End = replicate 13 0
closer_bytes (Time k x) = bytes_of 1 1 ++ (bytes_of 1 0 ++ (bytes_of 4 k.0 ++ next_bytes x))
closer_bytes (Event e x) = bytes_of 1 2 ++ (bytes_of 1 e ++ (bytes_of 4 0 ++ next_bytes x))

-- "Statement: operation, one byte a, four bytes b."
unfoldable pub statement_of : ℕ → ℕ → ℕ → List ℕ
statement_of op a b = bytes_of 1 op ++ (bytes_of 1 a ++ bytes_of 4 b)

unfoldable pub op_bytes : Op → List ℕ
op_bytes (Set a b) = statement_of 1 a b
op_bytes (Add a b) = statement_of 2 a b
op_bytes (Copy a b) = statement_of 3 a b
op_bytes (AddVariable a b) = statement_of 4 a b
op_bytes (SubVariable a b) = statement_of 5 a b
op_bytes (Notify e) = statement_of 6 e 0
