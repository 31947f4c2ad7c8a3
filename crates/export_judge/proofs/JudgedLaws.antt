-- What a chain over numbers finds, as a search over an index.
--     list_all-below, list_any-below     a test of each of some elements, and at some index
--     rest-zero     all but the kind of a closer
--     port_of-filled, ports-kept     eight ports
use Prim.Native.Nat.{ℕ, zero, suc, ◌+◌, ◌-◌, ◌<◌, ◌≤◌}
use mathlib.Core.Path.{◌≡◌, refl, sym, ap, ◌∙◌}
use mathlib.Core.Bool.{Bool, true, false, not, ◌&&◌, ◌||◌}
use mathlib.Core.List.{List}
use native.Mathlib.Nat.{zero-add}
use native.Mathlib.Omega.{arith}
use lib.Dec.{eqb, ltb}
use lib.ListN.{length, get_or, take, drop, length-drop}
use lib.Seq.{get_or-drop}
use Rattle.std.specs.List.{list_all, list_any, range_with_len, slice_range}
use Rattle.std.proofs.lemmas.List.{take_all}
use Rattle.std.proofs.lemmas.List.Folds.{list_all_more, list_any_more}
use Rattle.std.proofs.lemmas.List.FromFn.{length-range_with_len, get_or-range_with_len}
use Rattle.base.specs.Index.{any_below, tabulate}
use Rattle.base.proofs.IndexLaws.{any_below-same, tabulate-at}
use Rattle.model.specs.Port.{port_of}
use Rattle.model.specs.Rules.{unless, ports_fault}
use Rattle.export_model.specs.Numbers.{number_at}

-- a test of each of n elements, and a test at some index below n
not_or : (a b : Bool) → (not a && b) ≡ not (a || not b)
not_or true b = refl
not_or false true = refl
not_or false false = refl

pub list_all-below :
    (test : ℕ → Bool) (ys : List ℕ) (n : ℕ) → n ≤ length ys → list_all test (take n ys) ≡ not (any_below n (λ i. not (test (get_or ys i 0))))
unfolding any_below
list_all-below test ys zero h = refl
list_all-below test ys (suc n) h =
    let e : suc n ≡ n + 1 = omega arith in
    rw (e, list_all_more test ys n 0 (omega arith), list_all-below test ys n (omega arith))
    (not_or (any_below n (λ i. not (test (get_or ys i 0)))) (test (get_or ys n 0)))

any-front : (f : ℕ → Bool) (m n : ℕ) → n ≤ m → list_any f (take n (range_with_len 0 m)) ≡ any_below n f
unfolding any_below
any-front f m zero h = refl
any-front f m (suc n) h =
    let e : suc n ≡ n + 1 = omega arith in
    let at : get_or (range_with_len 0 m) n 0 ≡ n = get_or-range_with_len 0 m n 0 (omega arith) ∙ zero-add n in
    rw (e, list_any_more f (range_with_len 0 m) n 0 (omega (arith, length-range_with_len 0 m)), any-front f m n (omega arith), at)

pub list_any-below : (f : ℕ → Bool) (n : ℕ) → list_any f (range_with_len 0 n) ≡ any_below n f
list_any-below f n =
    let e : take n (range_with_len 0 n) ≡ range_with_len 0 n = take_all n (range_with_len 0 n) (omega (arith, length-range_with_len 0 n)) in
    rw e at (any-front f n n (omega arith))

-- all but the kind of a closer: the six numbers after it
pub rest-zero :
    (xs : List ℕ) (p : ℕ) (r : Bool) → p + 104 ≤ length xs → r ≡ list_all (λ x. eqb x 0) (slice_range xs (p + 1) (p + 7)) →
    r ≡ not (any_below 6 (λ i. not (eqb (number_at xs (p + 1 + i)) 0)))
rest-zero xs p r h e =
    let n : p + 7 - (p + 1) ≡ 6 = omega arith in
    (rw n at e) ∙ (list_all-below (λ x. eqb x 0) (drop (p + 1) xs) 6 (omega (arith, length-drop {A = ℕ}))
    ∙ ap not (any_below-same 6 _ _ (λ i l. rw get_or-drop refl)))

-- eight ports
pub port_of-filled : (f : ℕ → ℕ) (p : ℕ) → p < 8 → port_of (tabulate 8 0 f) p ≡ f p
port_of-filled f p l = tabulate-at 8 0 p f 0 l ∙ ap f (zero-add p)

pub ports-kept :
    (xs : List ℕ) (p v : ℕ) (r : Bool) → p + 8 ≤ length xs → r ≡ list_all (λ x. eqb x 255 || ltb x v) (slice_range xs p (p + 8)) →
    unless r 17 ≡ ports_fault v (tabulate 8 0 (λ i. number_at xs (p + i)))
unfolding ports_fault
ports-kept xs p v r h e =
    let n : p + 8 - p ≡ 8 = omega arith in
    let all : r ≡ not (any_below 8 (λ i. not (eqb (get_or (drop p xs) i 0) 255 || ltb (get_or (drop p xs) i 0) v))) =
    (rw n at e) ∙ list_all-below (λ x. eqb x 255 || ltb x v) (drop p xs) 8 (omega (arith, length-drop {A = ℕ})) in
    let port : (i : ℕ) → i < 8 → get_or (drop p xs) i 0 ≡ port_of (tabulate 8 0 (λ i. number_at xs (p + i))) i =
    λ i l. get_or-drop p xs i 0 ∙ sym (port_of-filled (λ i. number_at xs (p + i)) i l) in
    ap (λ t. unless t 17) (all ∙ ap not (any_below-same 8 _ _ (λ i l. ap (λ (x : ℕ). not (eqb x 255 || ltb x v)) (port i l))))
