-- Search over an index, and lists filled by an index.
use Rattle.std.specs.Prelude.{ℕ, zero, suc, ◌+◌, Bool, false, ◌||◌, List, [], ◌∷◌, set}

-- whether f holds at some index below n
unfoldable pub any_below : ℕ → (ℕ → Bool) → Bool
any_below zero f = false
any_below (suc n) f = any_below n f || f n

-- a number, or another where it is 0
unfoldable pub or_else : ℕ → ℕ → ℕ
or_else zero b = b
or_else (suc a) b = suc a

-- the first of f 0, f 1, .., f (n - 1) that is not 0, or 0
unfoldable pub first_below : ℕ → (ℕ → ℕ) → ℕ
first_below zero f = 0
first_below (suc n) f = or_else (first_below n f) (f n)

-- f i, f (i + 1), .., n of them
unfoldable pub tabulate : {A : Type 0} → ℕ → ℕ → (ℕ → A) → List A
tabulate zero i f = []
tabulate (suc n) i f = f i ∷ tabulate n (i + 1) f

-- xs with new elements at p, p + 1, .., n of them: the one at p + j is made of j and of the list as it is by then
unfoldable pub store_to : {A : Type 0} → (ℕ → List A → A) → ℕ → List A → ℕ → List A
store_to f p xs zero = xs
store_to f p xs (suc j) = let ys = store_to f p xs j in set ys (p + j) (f j ys)
