-- Searches over an index at, below and above their ends: closed examples.
-- Assumes nothing.
use Prim.Native.Nat.{ℕ, ◌+◌, ◌-◌}
use mathlib.Core.Path.{◌≡◌, refl}
use mathlib.Core.Bool.{true, false}
use mathlib.Core.List.{List, [], ◌∷◌}
use lib.Dec.{eqb}
use lib.ListN.{get_or}
use Rattle.base.specs.Index.{any_below, or_else, first_below, tabulate, store_to}
use Rattle.base.proofs.Computed.{computed}

-- found at the last index below n, not at n itself, nor where there is none
pub any_below-edges :
    (any_below 3 (λ i. eqb i 2) ≡ true) ×
    (any_below 3 (λ i. eqb i 3) ≡ false) ×
    (any_below 3 (λ i. eqb i 0) ≡ true) ×
    (any_below 0 (λ i. true) ≡ false)
unfolding computed
any_below-edges = (refl, refl, refl, refl)

-- the first that is not 0, by its place and not by its size
pub first_below-edges :
    (first_below 3 (λ i. i) ≡ 1) ×
    (first_below 1 (λ i. i) ≡ 0) ×
    (or_else 0 7 ≡ 7) ×
    (or_else 5 7 ≡ 5) ×
    (or_else 7 5 ≡ 7) ×
    (first_below 3 (λ i. 3 - i) ≡ 3)
unfolding computed
first_below-edges = (refl, refl, refl, refl, refl, refl)

-- from i on, n of them
pub tabulate-edges :
    (tabulate 3 5 (λ i. i) ≡ 5 ∷ 6 ∷ 7 ∷ []) ×
    (tabulate {A = ℕ} 0 5 (λ i. i) ≡ [])
unfolding computed
tabulate-edges = (refl, refl)

-- from p on, n of them, each after those before it
pub store_to-edges :
    (store_to (λ j xs. 7 + j) 1 (0 ∷ 0 ∷ 0 ∷ 0 ∷ []) 2 ≡ 0 ∷ 7 ∷ 8 ∷ 0 ∷ []) ×
    (store_to (λ j xs. get_or xs j 0 + 1) 1 (5 ∷ 0 ∷ 0 ∷ []) 2 ≡ 5 ∷ 6 ∷ 7 ∷ []) ×
    (store_to (λ j (xs : List ℕ). 7) 1 (1 ∷ 2 ∷ []) 0 ≡ 1 ∷ 2 ∷ [])
unfolding computed
store_to-edges = (refl, refl, refl)
