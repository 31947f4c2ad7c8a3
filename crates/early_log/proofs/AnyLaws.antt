-- A list searched by a test: the answer of an index below a count, of a pair that is held, and of an event that is listed.
use Prim.Native.Nat.{ℕ, zero, suc, ◌≤◌}
use mathlib.Core.Path.{◌≡◌, refl, ap, ◌∙◌}
use mathlib.Core.Bool.{Bool, ◌||◌}
use mathlib.Core.List.{List, [], ◌∷◌}
use native.Mathlib.Omega.{arith}
use native.Mathlib.Numerals.{add-one}
use lib.Dec.{eqb}
use lib.ListN.{length, get_or, take}
use Rattle.std.specs.List.{list_any}
use Rattle.std.proofs.lemmas.List.Folds.{list_any_more}
use Rattle.base.specs.Index.{any_below}
use Rattle.model.specs.Footprint.{has}
use Rattle.early.specs.declared.Notification.{Notification}
use Rattle.early.specs.Log.{is_same_pair, holds}

-- the first n elements
pub list_any-below : {X : Type 0} (p : X → Bool) (xs : List X) (d : X) (n : ℕ) → n ≤ length xs → list_any p (take n xs) ≡ any_below n (λ k. p (get_or xs k d))
unfolding any_below
list_any-below p xs d zero h = refl
list_any-below p xs d (suc n) h =
    rw (← add-one) (list_any_more p xs n d (omega arith) ∙ ap (λ b. b || p (get_or xs n d)) (list_any-below p xs d n (omega arith)))

pub list_any-holds : (l : List Notification) (x : Notification) → list_any (λ y. is_same_pair y x) l ≡ holds l x
unfolding holds
list_any-holds [] x = refl
list_any-holds (y ∷ l) x = ap (λ b. is_same_pair y x || b) (list_any-holds l x)

pub list_any-has : (es : List ℕ) (e : ℕ) → list_any (λ x. eqb x e) es ≡ has es e
unfolding has
list_any-has [] e = refl
list_any-has (x ∷ es) e = ap (λ b. eqb x e || b) (list_any-has es e)
