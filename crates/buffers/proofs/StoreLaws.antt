-- Runs of stores: none past the end, one run after another, one store for each element of a list or for each index, a part written over.
-- Assumes nothing.
use Prim.Native.Nat.{ℕ, suc, ◌+◌, ◌≤◌, ◌<◌}
use mathlib.Core.Path.{◌≡◌, refl, sym, ap, ◌∙◌}
use mathlib.Core.List.{List, [], ◌∷◌, ◌++◌, append-nil}
use native.Mathlib.Omega.{arith}
use native.Mathlib.Nat.{add-zero, zero-add}
use native.Mathlib.Numerals.{add-one}
use lib.ListN.{length, get_or, take, drop, set, replicate, length-replicate, drop_of_length-le}
use borrow.Rule.Slice.PartMut.{put_mid}
use Rattle.std.proofs.lemmas.Slice.{put_mid-paste}
use lib.Seq.{sets, take-length, sets-eq, set_out, take-suc, length-take-le}
use Rattle.base.specs.Index.{tabulate}
use Rattle.base.proofs.IndexLaws.{tabulate-length, tabulate-more}

module _ {A : Type 0} where
  pub sets-past : (l : List A) (i : ℕ) (xs : List A) → length l ≤ i → sets l i xs ≡ l
  sets-past l i [] h = refl
  sets-past l i (x ∷ xs) h = rw (set_out l i x h) (sets-past l (suc i) xs (omega arith))

  pub sets-append : (xs ys l : List A) (i : ℕ) → sets (sets l i xs) (i + length xs) ys ≡ sets l i (xs ++ ys)
  sets-append [] ys l i = rw (add-zero i) refl
  sets-append (x ∷ xs) ys l i =
      let e : i + suc (length xs) ≡ suc i + length xs = omega arith in
      rw e (sets-append xs ys (set l i x) (suc i))

  -- a run of stores after those of xs
  pub sets_more : (xs ys l out : List A) (i n : ℕ) → out ≡ sets l i xs → i + length xs ≡ n → sets out n ys ≡ sets l i (xs ++ ys)
  sets_more xs ys l out i n e h = rw (e, ← h) (sets-append xs ys l i)

  -- one store for each element of a list
  pub take-stored :
      (xs l out : List A) (s i : ℕ) (d : A) → i < length xs → out ≡ sets l s (take i xs) → set out (s + i) (get_or xs i d) ≡ sets l s (take (i + 1) xs)
  take-stored xs l out s i d h e =
      let n : s + length (take i xs) ≡ s + i = omega (arith, length-take-le i xs (omega arith)) in
      rw (add-one, take-suc xs i d h) (sets_more (take i xs) (get_or xs i d ∷ []) l out s (s + i) e n)

  -- one store for each index: f i goes to place i
  pub tabulate-none : (l : List A) (f : ℕ → A) → l ≡ sets l 0 (tabulate 0 0 f)
  unfolding tabulate
  tabulate-none l f = refl

  pub tabulate-stored : (l at : List A) (i : ℕ) (f : ℕ → A) (x : A) → at ≡ sets l 0 (tabulate i 0 f) → x ≡ f i → set at i x ≡ sets l 0 (tabulate (i + 1) 0 f)
  tabulate-stored l at i f x e h =
      let t : tabulate (suc i) 0 f ≡ tabulate i 0 f ++ (f i ∷ []) = tabulate-more i 0 f ∙ rw (zero-add i) refl in
      let n : 0 + length (tabulate i 0 f) ≡ i = omega (arith, tabulate-length i 0 f) in
      rw (add-one, t, h) (sets_more (tabulate i 0 f) (f i ∷ []) l at 0 i e n)

  -- as many stores as there are places
  pub tabulate-whole : (d : A) (at : List A) (n i : ℕ) (f : ℕ → A) → i ≡ n → at ≡ sets (replicate n d) 0 (tabulate i 0 f) → at ≡ tabulate n 0 f
  tabulate-whole d at n i f p e =
      let l : List A = replicate n d in
      let t : List A = tabulate n 0 f in
      let h : length t ≡ n = tabulate-length n 0 f in
      let k : length l ≡ n = length-replicate n d in
      let z : drop (0 + length t) l ≡ [] = drop_of_length-le l {i = 0 + length t} (omega arith) in
      (rw p at e) ∙ sets-eq t l 0 (omega arith) ∙ ap (λ (r : List A). t ++ r) z ∙ append-nil t

  -- a part of a list written over is a run of stores
  pub put_mid-sets : (at k : ℕ) (out ys xs : List A) → ys ≡ xs → length xs ≡ k → at + length xs ≤ length out → put_mid at k out ys ≡ sets out at xs
  put_mid-sets at k out ys xs e n h =
      put_mid-paste at k out ys xs (length xs) e n refl ∙ ap (λ (l : List A). take at out ++ l ++ drop (at + length xs) out) (take-length xs) ∙ sym (sets-eq xs out at h)
