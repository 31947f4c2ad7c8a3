-- Statements one after the other: what they leave of the variables, and what they notify.
--     execute-none, execute-more     no statement; one more
--     notified_by-none, notified_by-more     the same for the events
--     execute-append, notified_by-append     two lists of statements
--     execute-length     the variables keep their number
--     notified_by-length     each statement notifies at most one event
--     body_of-length, body_of-at     the statements of a segment
use Rattle.std.proofs.Common.{◌≡◌, ℕ, suc, ◌<◌, ◌≤◌, min, List, [], ◌∷◌, ◌++◌, length, get_or, take, sym, refl, ◌∙◌, arith, length-set, length-take, get_or-take, take-suc}
use Rattle.model.specs.declared.Op.{Op}
use Rattle.model.specs.declared.Op.TheVariants.{Set, Add, Copy, AddVariable, SubVariable, Notify}
use Rattle.model.specs.declared.Statement.{Statement}
use Rattle.model.specs.declared.Segment.{Segment}
use Rattle.model.specs.Values.{body_of}
use Rattle.model.specs.Statement.{execute_op, execute, notified_by_op, notified_by}

pub execute-append : (xs ys : List Statement) (v : List ℕ) → execute (xs ++ ys) v ≡ execute ys (execute xs v)
unfolding execute
execute-append [] ys v = refl
execute-append (x ∷ xs) ys v = execute-append xs ys (execute_op x.op v)

pub execute-none : (xs : List Statement) (v : List ℕ) → v ≡ execute (take 0 xs) v
unfolding execute
execute-none xs v = refl

pub execute-more : (xs : List Statement) (j : ℕ) (d : Statement) (v : List ℕ) → j < length xs
    → execute (take (suc j) xs) v ≡ execute_op (get_or xs j d).op (execute (take j xs) v)
unfolding execute
execute-more xs j d v h = rw (take-suc xs j d h, execute-append (take j xs)) refl

notified_by_op-append : (o : Op) (es fs : List ℕ) → notified_by_op o (es ++ fs) ≡ notified_by_op o es ++ fs
notified_by_op-append (Set a b) es fs = refl
notified_by_op-append (Add a b) es fs = refl
notified_by_op-append (Copy a b) es fs = refl
notified_by_op-append (AddVariable a b) es fs = refl
notified_by_op-append (SubVariable a b) es fs = refl
notified_by_op-append (Notify w) es fs = refl

pub notified_by-append : (xs ys : List Statement) → notified_by (xs ++ ys) ≡ notified_by xs ++ notified_by ys
unfolding notified_by
notified_by-append [] ys = refl
notified_by-append (x ∷ xs) ys = rw (notified_by-append xs ys) (notified_by_op-append x.op (notified_by xs) (notified_by ys))

pub notified_by-none : (xs : List Statement) → notified_by (take 0 xs) ≡ []
unfolding notified_by
notified_by-none xs = refl

pub notified_by-more : (xs : List Statement) (j : ℕ) (d : Statement) → j < length xs
    → notified_by (take (suc j) xs) ≡ notified_by (take j xs) ++ notified_by_op (get_or xs j d).op []
unfolding notified_by
notified_by-more xs j d h = rw (take-suc xs j d h, notified_by-append (take j xs)) refl

pub execute_op-length : (o : Op) (v : List ℕ) → length (execute_op o v) ≡ length v
execute_op-length (Set a b) v = length-set v a _
execute_op-length (Add a b) v = length-set v a _
execute_op-length (Copy a b) v = length-set v a _
execute_op-length (AddVariable a b) v = length-set v a _
execute_op-length (SubVariable a b) v = length-set v a _
execute_op-length (Notify w) v = refl

pub execute-length : (xs : List Statement) (v : List ℕ) → length (execute xs v) ≡ length v
unfolding execute
execute-length [] v = refl
execute-length (x ∷ xs) v = execute-length xs (execute_op x.op v) ∙ execute_op-length x.op v

notified_by_op-length : (o : Op) (es : List ℕ) → length (notified_by_op o es) ≤ suc (length es)
notified_by_op-length (Set a b) es = omega arith
notified_by_op-length (Add a b) es = omega arith
notified_by_op-length (Copy a b) es = omega arith
notified_by_op-length (AddVariable a b) es = omega arith
notified_by_op-length (SubVariable a b) es = omega arith
notified_by_op-length (Notify w) es = omega arith

pub notified_by-length : (xs : List Statement) → length (notified_by xs) ≤ length xs
unfolding notified_by
notified_by-length [] = omega arith
notified_by-length (x ∷ xs) = omega (arith, notified_by-length xs, notified_by_op-length x.op (notified_by xs))

pub notified_by-first : (xs : List Statement) (j : ℕ) → length (notified_by (take j xs)) ≤ j
notified_by-first xs j = omega (arith, notified_by-length (take j xs), length-take j xs)

-- the body of a segment: as many statements as it counts, or all that there are
pub body_of-length : (g : Segment) → length (body_of g) ≡ min g.n (length g.statements)
unfolding body_of
body_of-length g = length-take g.n g.statements

pub body_of-at : (g : Segment) (j : ℕ) (d : Statement) → j < length (body_of g) → get_or g.statements j d ≡ get_or (body_of g) j d
unfolding body_of
body_of-at g j d h = sym (get_or-take g.n g.statements j d (omega (arith, length-take g.n g.statements)))
