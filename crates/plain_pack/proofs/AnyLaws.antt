-- A list searched by a test, and an index searched by one: the same answer.
use Rattle.std.proofs.Common.{◌≡◌, ◌∙◌, sym, ℕ, ◌+◌, ◌-◌, ◌<◌, ◌≤◌, ◌/◌, ◌%◌, refl, ap, Bool, false, not, List, length, get_or, take, drop, arith, length-take, length-drop}
use Rattle.std.specs.List.{list_any}
use Rattle.std.proofs.lemmas.List.{get_or-drop, get_or-take}
use Rattle.std.proofs.lemmas.List.Elements.{All-from_get_or}
use Rattle.std.proofs.lemmas.List.Folds.{list_any_at, list_any_none}
use mathlib.Core.Logic.{◌⊎◌, inl, inr}
use lib.Dec.{T}
use Rattle.model.specs.Port.{is_port}
use Rattle.plain_words.specs.Ports.{word_names, names_from}
use Rattle.base.specs.Index.{any_below}
use Rattle.base.proofs.BoolLaws.{T-case, T→true, T→false}
use Rattle.base.proofs.IndexLaws.{any_below-some, any_below-none}

pub list_any-below : (p : ℕ → Bool) (xs : List ℕ) (n : ℕ) (f : ℕ → Bool) → length xs ≡ n → ((i : ℕ) → i < n → p (get_or xs i 0) ≡ f i) → list_any p xs ≡ any_below n f
list_any-below p xs n f e h = go (T-case (any_below n f))
  where
    go : T (any_below n f) ⊎ T (not (any_below n f)) → list_any p xs ≡ any_below n f
    go (inl t) = let (i, l, u) = any_below-some n f t in list_any_at p xs i 0 (omega arith) (h i l ∙ T→true (f i) u) ∙ sym (T→true (any_below n f) t)
    go (inr t) =
        list_any_none p xs (All-from_get_or (λ x. p x ≡ false) xs 0 (λ i l. h i (omega arith) ∙ T→false (f i) (any_below-none n f t i (omega arith)))) ∙
        sym (T→false (any_below n f) t)

-- the statements of a segment, whose words stand from a place on
pub names_from-words : (code : List ℕ) (base n : ℕ) → base + 2 + n ≤ length code → is_port (get_or code (base + 1) 0 / 65536 % 256) ≡ false →
    list_any word_names (take (base + 2 + n - (base + 2)) (drop (base + 2) code)) ≡ names_from code base n
unfolding names_from
names_from-words code base n h e =
    let same : base + 2 + n - (base + 2) ≡ n = omega arith in
    rw same
    (list_any-below word_names (take n (drop (base + 2) code)) n (λ j. word_names (get_or code (base + 2 + j) 0)) (simp (length-take, length-drop) (omega arith)) (λ i l. ap word_names (get_or-take n (drop (base + 2) code) i 0 l ∙ get_or-drop (base + 2) code i 0)) ∙
    rw e refl)
