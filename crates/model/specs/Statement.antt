-- Document 01, "Model file": what the statements do to the variables, and what they notify.
use Rattle.std.specs.Prelude.{ℕ, ◌+◌, ◌-◌, ◌%◌, ◌^◌, List, [], ◌∷◌, get_or, set}
use Rattle.model.specs.declared.Op.{Op}
use Rattle.model.specs.declared.Op.TheVariants.{Set, Add, Copy, AddVariable, SubVariable, Notify}
use Rattle.model.specs.declared.Statement.{Statement}

-- "1 sets variable a to b. 2 adds b. 3 copies variable b. 4 adds variable b. 5 subtracts variable b. 6 notifies event a".
-- "Sums and differences are taken modulo 4,294,967,296."
abbrev pub execute_op : Op → List ℕ → List ℕ
execute_op (Set a b) v = set v a b
execute_op (Add a b) v = set v a ((get_or v a 0 + b) % 2 ^ 32)
execute_op (Copy a b) v = set v a (get_or v b 0)
execute_op (AddVariable a b) v = set v a ((get_or v a 0 + get_or v b 0) % 2 ^ 32)
execute_op (SubVariable a b) v = set v a ((get_or v a 0 + 2 ^ 32 - get_or v b 0) % 2 ^ 32)
execute_op (Notify w) v = v

-- one statement after the other
unfoldable pub execute : List Statement → List ℕ → List ℕ
execute [] v = v
execute (x ∷ xs) v = execute xs (execute_op x.op v)

-- the event that an operation notifies, before those of es
abbrev pub notified_by_op : Op → List ℕ → List ℕ
notified_by_op (Set a b) es = es
notified_by_op (Add a b) es = es
notified_by_op (Copy a b) es = es
notified_by_op (AddVariable a b) es = es
notified_by_op (SubVariable a b) es = es
notified_by_op (Notify w) es = w ∷ es

-- the events notified, in statement order
unfoldable pub notified_by : List Statement → List ℕ
notified_by [] = []
notified_by (x ∷ xs) = notified_by_op x.op (notified_by xs)
