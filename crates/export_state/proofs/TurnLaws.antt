-- Words in turn: how many there are, stored one after the other, and read by their index; lists that are filled by an index.
use Prim.Native.Nat.{ℕ, zero, suc, ◌+◌, ◌*◌, ◌<◌}
use mathlib.Core.Path.{◌≡◌, refl, sym, ap, ◌∙◌}
use mathlib.Core.List.{List, [], ◌∷◌, ◌++◌, append-nil, append_assoc}
use native.Mathlib.Omega.{arith}
use native.Mathlib.Nat.{zero-add}
use native.Mathlib.Numerals.{add-one}
use lib.ListN.{length, get_or, take, length-append, get_or-append}
use lib.Seq.{sets, ext_get_or, get_or-append-add, take-suc, length-take-le}
use Rattle.base.specs.Index.{tabulate}
use Rattle.base.proofs.IndexLaws.{tabulate-length, tabulate-at}
use Rattle.buffers.proofs.StoreLaws.{sets_more}
use Rattle.export_state.specs.Numbers.{in_turn}

module _ {A : Type 0} where
  -- a run of w stores for each element of a list
  pub in_turn-append : (f : A → List ℕ) (xs ys : List A) → in_turn f (xs ++ ys) ≡ in_turn f xs ++ in_turn f ys
  unfolding in_turn
  in_turn-append f [] ys = refl
  in_turn-append f (x ∷ xs) ys = rw (in_turn-append f xs ys) (sym (append_assoc (f x) (in_turn f xs) (in_turn f ys)))

  pub in_turn-more : (f : A → List ℕ) (xs : List A) (i : ℕ) (d : A) → i < length xs → in_turn f (take (i + 1) xs) ≡ in_turn f (take i xs) ++ f (get_or xs i d)
  unfolding in_turn
  in_turn-more f xs i d h = rw (add-one, take-suc xs i d h, in_turn-append f (take i xs) (get_or xs i d ∷ []), append-nil) refl

  pub in_turn-length : (f : A → List ℕ) (w : ℕ) → ((x : A) → length (f x) ≡ w) → (xs : List A) → length (in_turn f xs) ≡ w * length xs
  unfolding in_turn
  in_turn-length f w h [] = omega arith
  in_turn-length f w h (x ∷ xs) = rw (length-append (f x) (in_turn f xs), h x, in_turn-length f w h xs) (omega arith)

  pub in_turn-none : (f : A → List ℕ) (xs : List A) (l : List ℕ) (s : ℕ) → l ≡ sets l s (in_turn f (take 0 xs))
  unfolding in_turn
  in_turn-none f xs l s = refl

  pub in_turn-stored :
      (f : A → List ℕ) (w : ℕ) → ((x : A) → length (f x) ≡ w) → (xs : List A) (l out : List ℕ) (s i n : ℕ) (d : A) → i < length xs →
      out ≡ sets l s (in_turn f (take i xs)) → n ≡ s + w * i → sets out n (f (get_or xs i d)) ≡ sets l s (in_turn f (take (i + 1) xs))
  in_turn-stored f w size xs l out s i n d h e p =
      let k : length (take i xs) ≡ i = length-take-le i xs (omega arith) in
      let q : length (in_turn f (take i xs)) ≡ w * i = in_turn-length f w size (take i xs) ∙ ap (λ (j : ℕ). w * j) k in
      rw (in_turn-more f xs i d h) (sets_more (in_turn f (take i xs)) (f (get_or xs i d)) l out s n e (omega arith))

  -- a list by its elements
  pub tabulate-same : (d : A) (xs : List A) (n : ℕ) (f : ℕ → A) → length xs ≡ n → ((i : ℕ) → i < n → f i ≡ get_or xs i d) → tabulate n 0 f ≡ xs
  tabulate-same d xs n f size h =
      let l : length (tabulate n 0 f) ≡ n = tabulate-length n 0 f in
      ext_get_or d (tabulate n 0 f) xs (l ∙ sym size)
      (λ i k. tabulate-at n 0 i f d (omega arith) ∙ (let z : 0 + i ≡ i = zero-add i in rw z (h i (omega arith))))

  -- the words of the element numbered i
  pub in_turn-at :
      (f : A → List ℕ) (w : ℕ) → ((x : A) → length (f x) ≡ w) → (xs : List A) (rest : List ℕ) (d : A) (i j : ℕ) → i < length xs → j < w →
      get_or (in_turn f xs ++ rest) (w * i + j) 0 ≡ get_or (f (get_or xs i d)) j 0
  unfolding in_turn
  in_turn-at f w size [] rest d i j h k = absurd (omega arith)
  in_turn-at f w size (x ∷ xs) rest d zero j h k =
      let e : w * 0 + j ≡ j = omega arith in
      rw (e, append_assoc) (get_or-append (f x) (in_turn f xs ++ rest) 0 j (omega (arith, size x)))
  in_turn-at f w size (x ∷ xs) rest d (suc i) j h k =
      let e : w * suc i + j ≡ length (f x) + (w * i + j) = omega (arith, size x) in
      rw (e, append_assoc) (get_or-append-add (f x) (in_turn f xs ++ rest) (w * i + j) 0 ∙ in_turn-at f w size xs rest d i j (omega arith) k)
