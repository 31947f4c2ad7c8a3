-- What `all` of a range finds, as a search over an index.
use Prim.Native.Nat.{ℕ, zero, suc, ◌+◌, ◌≤◌}
use mathlib.Core.Path.{◌≡◌, refl, ◌∙◌}
use mathlib.Core.Bool.{Bool, true, false, not, ◌&&◌, ◌||◌}
use native.Mathlib.Nat.{zero-add}
use native.Mathlib.Omega.{arith}
use lib.ListN.{get_or, take}
use Rattle.std.specs.List.{list_all, range_with_len}
use Rattle.std.proofs.lemmas.List.{take_all}
use Rattle.std.proofs.lemmas.List.Folds.{list_all_more}
use Rattle.std.proofs.lemmas.List.FromFn.{length-range_with_len, get_or-range_with_len}
use Rattle.base.specs.Index.{any_below}

not_or : (a b : Bool) → (not a && b) ≡ not (a || not b)
not_or true b = refl
not_or false true = refl
not_or false false = refl

all-front : (f : ℕ → Bool) (m n : ℕ) → n ≤ m → list_all f (take n (range_with_len 0 m)) ≡ not (any_below n (λ i. not (f i)))
unfolding any_below
all-front f m zero h = refl
all-front f m (suc n) h =
    let e : suc n ≡ n + 1 = omega arith in
    let at : get_or (range_with_len 0 m) n 0 ≡ n = get_or-range_with_len 0 m n 0 (omega arith) ∙ zero-add n in
    rw (e, list_all_more f (range_with_len 0 m) n 0 (omega (arith, length-range_with_len 0 m)), all-front f m n (omega arith), at)
    (not_or (any_below n (λ i. not (f i))) (f n))

pub list_all-below : (f : ℕ → Bool) (n : ℕ) → list_all f (range_with_len 0 n) ≡ not (any_below n (λ i. not (f i)))
list_all-below f n =
    let e : take n (range_with_len 0 n) ≡ range_with_len 0 n = take_all n (range_with_len 0 n) (omega (arith, length-range_with_len 0 n)) in
    rw e at (all-front f n n (omega arith))
