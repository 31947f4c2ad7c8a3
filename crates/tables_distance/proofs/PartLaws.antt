-- A store into a part of a list is one into the list.
use Prim.Native.Nat.{ℕ, zero, suc, ◌+◌, ◌-◌, ◌≤◌, ◌<◌}
use mathlib.Core.Path.{◌≡◌, ap, sym, ◌∙◌}
use mathlib.Core.List.{List, ◌++◌}
use native.Mathlib.Omega.{arith}
use lib.ListN.{length, set, take}
use lib.Seq.{length-take-le, set-append_left}
use Rattle.std.proofs.lemmas.List.{set-append_right}
use borrow.Rule.Slice.PartMut.{put_mid, mid_of, post_of, put_same}
use native.Mathlib.Nat.{zero-add}
use Rattle.base.specs.Index.{store_to}
use Rattle.base.proofs.IndexLaws.{store_to-length}

-- the part of xs that begins at a and has k places is ys; place j of it is set
pub part-set : {A : Type 0} (a k j : ℕ) (xs ys : List A) (v : A) → a ≤ length xs → j < length ys → put_mid a k xs (set ys j v) ≡ set (put_mid a k xs ys) (a + j) v
part-set {A} a k j xs ys v h l = let few = length-take-le a xs h in let e : a + j - a ≡ j = omega arith in sym (set-append_right (take a xs) (ys ++ post_of a k xs) a (a + j) v few (omega arith) ∙ rw e (ap (λ (zs : List A). take a xs ++ zs) (set-append_left ys (post_of a k xs) j v l)))

-- stores into the part by their places alone
pub part-stores :
    {A : Type 0} (h : ℕ → A) (a k : ℕ) (xs : List A) (n : ℕ) → a ≤ length xs → n ≤ length (mid_of a k xs) →
    put_mid a k xs (store_to (λ s vs. h s) 0 (mid_of a k xs) n) ≡ store_to (λ s vs. h s) a xs n
unfolding store_to
part-stores h a k xs zero l m = put_same a k xs
part-stores h a k xs (suc n) l m =
    let ys = store_to (λ s vs. h s) 0 (mid_of a k xs) n in
    let size = store_to-length (λ s vs. h s) 0 (mid_of a k xs) n in
    rw zero-add (part-set a k n xs ys (h n) l (omega arith) ∙ ap (λ zs. set zs (a + n) (h n)) (part-stores h a k xs n l (omega arith)))
