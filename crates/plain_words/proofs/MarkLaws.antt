-- The events of a cycle, kept as marks: what is marked is what was notified, one segment after the other.
--     marked_append, marked-length     events one after the other; no mark more
--     Tells     the marks say of every event whether it was notified
--     tells_none, tells_more     no event; the events of one segment more
use Prim.Native.Nat.{ℕ, zero, suc, ◌<◌}
use mathlib.Core.Path.{◌≡◌, refl, ap, sym, ◌∙◌}
use mathlib.Core.Bool.{Bool, true, false, ◌||◌, or_assoc, or-false, or_comm}
use mathlib.Core.List.{List, [], ◌∷◌, ◌++◌}
use native.Mathlib.Decide.{ℕ_discrete}
use lib.Dec.{T, eqb}
use lib.ListN.{length, get_or, set, replicate, length-set}
use lib.Seq.{get_or-set_same, get_or-set_other}
use borrow.Author.Tests.{eq-eqb, ne_eqb}
use Rattle.model.specs.Footprint.{has}
use Rattle.model_effect.proofs.FootprintLaws.{has-append}
use Rattle.plain_words.specs.Shared.{marked}

pub marked_append : (fs : List Bool) (es ds : List ℕ) → marked fs (es ++ ds) ≡ marked (marked fs es) ds
unfolding marked
marked_append fs [] ds = refl
marked_append fs (e ∷ es) ds = marked_append (set fs e true) es ds

abbrev pub Tells : List Bool → List ℕ → Type 0
Tells fs es = (e : ℕ) → get_or fs e false ≡ has es e

pub tells_none : Tells (replicate 32 false) []
unfolding has
tells_none e = go 32 e
  where
    go : (n e : ℕ) → get_or (replicate n false) e false ≡ false
    go zero e = refl
    go (suc n) zero = refl
    go (suc n) (suc e) = go n e

pub marked-length : (fs : List Bool) (es : List ℕ) → length (marked fs es) ≡ length fs
unfolding marked
marked-length fs [] = refl
marked-length fs (e ∷ es) = marked-length (set fs e true) es ∙ length-set fs e true

set-mark : (fs : List Bool) (x e : ℕ) → x < length fs → get_or (set fs x true) e false ≡ get_or fs e false || eqb x e
set-mark fs x e h = go (ℕ_discrete x e)
  where
    go : Dec (x ≡ e) → get_or (set fs x true) e false ≡ get_or fs e false || eqb x e
    go (yes q) = rw (← q, get_or-set_same fs x true false h, eq-eqb x x refl) (or_comm true (get_or fs x false))
    go (no q) = rw (get_or-set_other fs x e true false (λ r. q (sym r)), ne_eqb x e q) (sym (or-false (get_or fs e false)))

-- the events es are all among the marks' places
abbrev pub Within : ℕ → List ℕ → Type 0
Within n es = (e : ℕ) → T (has es e) → e < n

within-rest : (n x : ℕ) (es : List ℕ) → Within n (x ∷ es) → Within n es
unfolding has
within-rest n x es h e t = h e (go (eqb x e) t)
  where
    go : (b : Bool) → T (has es e) → T (b || has es e)
    go true u = tt
    go false u = u

within_first : (n x : ℕ) (es : List ℕ) → Within n (x ∷ es) → x < n
unfolding has
within_first n x es h = h x (rw (eq-eqb x x refl) tt)

marked-at : (fs : List Bool) (es : List ℕ) (e : ℕ) → Within (length fs) es → get_or (marked fs es) e false ≡ get_or fs e false || has es e
unfolding marked has
marked-at fs [] e h = sym (or-false (get_or fs e false))
marked-at fs (x ∷ es) e h =
    let size = length-set fs x true in
    marked-at (set fs x true) es e (rw size (within-rest (length fs) x es h)) ∙
    (ap (λ (b : Bool). b || has es e) (set-mark fs x e (within_first (length fs) x es h)) ∙ or_assoc (get_or fs e false) (eqb x e) (has es e))

pub tells_more : (fs : List Bool) (es ds : List ℕ) → Within (length fs) ds → Tells fs es → Tells (marked fs ds) (es ++ ds)
tells_more fs es ds h t e = marked-at fs ds e h ∙ (ap (λ (b : Bool). b || has ds e) (t e) ∙ sym (has-append es ds e))
