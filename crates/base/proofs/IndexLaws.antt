-- What a search over an index finds, and what a list filled by an index holds.
--     any_below-start, -more, -same, -found, -some, -none; for a loop's exits -here, -empty
--     first_below-none, -more, -found, -zero, -all; for a loop's exit -here
--     tabulate-length, -at, -same, -is, -more     a list told by its elements
--     store_to-none, -more, -left, -length, -other, -at     a loop that stores
use Prim.Native.Nat.{ℕ, zero, suc, ◌+◌, ◌<◌, ◌≤◌}
use mathlib.Core.Path.{◌≡◌, refl, ap, ap₂, sym, ◌∙◌}
use mathlib.Core.Logic.{◌⊎◌, inl, inr}
use mathlib.Core.Bool.{Bool, true, false, not, ◌||◌}
use mathlib.Core.List.{List, [], ◌∷◌, ◌++◌}
use native.Mathlib.Omega.{arith}
use native.Mathlib.Nat.{zero-add}
use native.Mathlib.Numerals.{add-one}
use native.Mathlib.Decide.{ℕ_discrete}
use lib.Dec.{T, T_not}
use lib.ListN.{length, get_or, set, length-set}
use lib.Seq.{get_or-set_same, get_or-set_other, set-get_or, ext_get_or}
use Rattle.base.specs.Index.{any_below, or_else, first_below, tabulate, store_to}
use Rattle.base.proofs.BoolLaws.{T-case, T→true, T→false, true→T, false→T, or→either, either→or, not-or→both}

pub any_below-start : (f : ℕ → Bool) → any_below 0 f ≡ false
unfolding any_below
any_below-start f = refl

pub any_below-more : (n : ℕ) (f : ℕ → Bool) → any_below (n + 1) f ≡ (any_below n f || f n)
unfolding any_below
any_below-more n f = rw add-one refl

pub any_below-found : (n : ℕ) (f : ℕ → Bool) (i : ℕ) → i < n → T (f i) → T (any_below n f)
unfolding any_below
any_below-found zero f i h t = absurd (omega arith)
any_below-found (suc n) f i h t = go (λ k. any_below-found n f i k t) (ℕ_discrete i n)
  where
    go : (i < n → T (any_below n f)) → Dec (i ≡ n) → T (any_below n f || f n)
    go ih (yes e) = either→or (any_below n f) (f n) (inr (rw e at t))
    go ih (no e) = either→or (any_below n f) (f n) (inl (ih (omega arith)))

pub any_below-some : (n : ℕ) (f : ℕ → Bool) → T (any_below n f) → (i : ℕ) × (i < n) × T (f i)
unfolding any_below
any_below-some zero f t = absurd t
any_below-some (suc n) f t = go (λ k. any_below-some n f k) (or→either (any_below n f) (f n) t)
  where
    go : (T (any_below n f) → (i : ℕ) × (i < n) × T (f i)) → T (any_below n f) ⊎ T (f n) → (i : ℕ) × (i < suc n) × T (f i)
    go ih (inl s) = let (i, h, u) = ih s in (i, omega arith, u)
    go ih (inr s) = (n, omega arith, s)

pub any_below-none : (n : ℕ) (f : ℕ → Bool) → T (not (any_below n f)) → (i : ℕ) → i < n → T (not (f i))
unfolding any_below
any_below-none zero f t i h = absurd (omega arith)
any_below-none (suc n) f t i h = go (λ k l. any_below-none n f k i l) (not-or→both (any_below n f) (f n) t) (ℕ_discrete i n)
  where
    go : (T (not (any_below n f)) → i < n → T (not (f i))) → T (not (any_below n f)) × T (not (f n)) → Dec (i ≡ n) → T (not (f i))
    go ih (s, u) (yes e) = rw e u
    go ih (s, u) (no e) = ih s (omega arith)

pub any_below-same : (n : ℕ) (f g : ℕ → Bool) → ((i : ℕ) → i < n → f i ≡ g i) → any_below n f ≡ any_below n g
unfolding any_below
any_below-same zero f g h = refl
any_below-same (suc n) f g h = ap₂ ◌||◌ (any_below-same n f g (λ i k. h i (omega arith))) (h n (omega arith))

-- at this index; at none
pub any_below-here : (n : ℕ) (f : ℕ → Bool) (i : ℕ) → i < n → f i ≡ true → any_below n f ≡ true
any_below-here n f i l e = T→true (any_below n f) (any_below-found n f i l (true→T (f i) e))

pub any_below-empty : (n : ℕ) (f : ℕ → Bool) → ((i : ℕ) → i < n → f i ≡ false) → any_below n f ≡ false
any_below-empty n f h = go (T-case (any_below n f))
  where
    go : T (any_below n f) ⊎ T (not (any_below n f)) → any_below n f ≡ false
    go (inl t) = let (i, l, u) = any_below-some n f t in absurd (T_not (f i) (false→T (f i) (h i l)) u)
    go (inr t) = T→false (any_below n f) t

pub or_else-none : (a b : ℕ) → a ≡ 0 → or_else a b ≡ b
unfolding or_else
or_else-none zero b e = refl
or_else-none (suc a) b e = absurd (omega arith)

pub or_else-some : (a b : ℕ) → (a ≡ 0 → ⊥) → or_else a b ≡ a
unfolding or_else
or_else-some zero b n = absurd (n refl)
or_else-some (suc a) b n = refl

-- the parts are 0 where the whole is
pub or_else-zero : (a b : ℕ) → or_else a b ≡ 0 → (a ≡ 0) × (b ≡ 0)
unfolding or_else
or_else-zero zero b e = (refl, e)
or_else-zero (suc a) b e = absurd (omega arith)

pub or_else-last : (a : ℕ) → or_else a 0 ≡ a
unfolding or_else
or_else-last zero = refl
or_else-last (suc a) = refl

pub first_below-none : (f : ℕ → ℕ) → first_below 0 f ≡ 0
unfolding first_below
first_below-none f = refl

pub first_below-more : (n : ℕ) (f : ℕ → ℕ) → first_below n f ≡ 0 → first_below (suc n) f ≡ f n
unfolding first_below
first_below-more n f e = or_else-none (first_below n f) (f n) e

-- once there is a first, what comes later does not count
pub first_below-found : (j n : ℕ) (f : ℕ → ℕ) → j ≤ n → (first_below j f ≡ 0 → ⊥) → first_below n f ≡ first_below j f
unfolding first_below
first_below-found j zero f h found = let e : j ≡ 0 = omega arith in rw e
first_below-found j (suc n) f h found = go (λ l. first_below-found j n f l found) (ℕ_discrete j (suc n))
  where
    go : (j ≤ n → first_below n f ≡ first_below j f) → Dec (j ≡ suc n) → or_else (first_below n f) (f n) ≡ first_below j f
    go ih (yes e) = rw e
    go ih (no e) = let same = ih (omega arith) in or_else-some (first_below n f) (f n) (λ z. found (sym same ∙ z)) ∙ same

pub first_below-here : (j n : ℕ) (f : ℕ → ℕ) → j < n → first_below j f ≡ 0 → (f j ≡ 0 → ⊥) → first_below n f ≡ f j
first_below-here j n f l none here =
    let e : first_below (suc j) f ≡ f j = first_below-more j f none in
    first_below-found (suc j) n f (omega arith) (λ z. here (sym e ∙ z)) ∙ e

pub first_below-zero : (n : ℕ) (f : ℕ → ℕ) → first_below n f ≡ 0 → (i : ℕ) → i < n → f i ≡ 0
unfolding first_below
first_below-zero zero f e i h = absurd (omega arith)
first_below-zero (suc n) f e i h = go (λ k l. first_below-zero n f k i l) (or_else-zero (first_below n f) (f n) e) (ℕ_discrete i n)
  where
    go : (first_below n f ≡ 0 → i < n → f i ≡ 0) → (first_below n f ≡ 0) × (f n ≡ 0) → Dec (i ≡ n) → f i ≡ 0
    go ih (p, q) (yes g) = rw g q
    go ih (p, q) (no g) = ih p (omega arith)

pub first_below-same : (n : ℕ) (f g : ℕ → ℕ) → ((i : ℕ) → i < n → f i ≡ g i) → first_below n f ≡ first_below n g
unfolding first_below
first_below-same zero f g h = refl
first_below-same (suc n) f g h = ap₂ or_else (first_below-same n f g (λ i l. h i (omega arith))) (h n (omega arith))

pub first_below-all : (n : ℕ) (f : ℕ → ℕ) → ((i : ℕ) → i < n → f i ≡ 0) → first_below n f ≡ 0
unfolding first_below
first_below-all zero f h = refl
first_below-all (suc n) f h = or_else-none (first_below n f) (f n) (first_below-all n f (λ i l. h i (omega arith))) ∙ h n (omega arith)

module _ {A : Type 0} where
  pub tabulate-length : (n i : ℕ) (f : ℕ → A) → length (tabulate n i f) ≡ n
  unfolding tabulate
  tabulate-length zero i f = refl
  tabulate-length (suc n) i f = ap suc (tabulate-length n (i + 1) f)

  pub tabulate-at : (n i j : ℕ) (f : ℕ → A) (d : A) → j < n → get_or (tabulate n i f) j d ≡ f (i + j)
  unfolding tabulate
  tabulate-at zero i j f d h = absurd (omega arith)
  tabulate-at (suc n) i zero f d h = ap f (omega arith)
  tabulate-at (suc n) i (suc j) f d h = tabulate-at n (i + 1) j f d (omega arith) ∙ ap f (omega arith)

  pub tabulate-same : (n i : ℕ) (f g : ℕ → A) → ((j : ℕ) → j < i + n → f j ≡ g j) → tabulate n i f ≡ tabulate n i g
  unfolding tabulate
  tabulate-same zero i f g h = refl
  tabulate-same (suc n) i f g h = ap₂ ◌∷◌ (h i (omega arith)) (tabulate-same n (i + 1) f g (λ j l. h j (omega arith)))

  pub tabulate-is : (d : A) (xs : List A) (n : ℕ) (f : ℕ → A) → length xs ≡ n → ((i : ℕ) → i < n → get_or xs i d ≡ f i) → xs ≡ tabulate n 0 f
  tabulate-is d xs n f e h =
      ext_get_or d xs (tabulate n 0 f) (e ∙ sym (tabulate-length n 0 f))
      (λ i l. let l' : i < n = omega arith in h i l' ∙ sym (tabulate-at n 0 i f d l' ∙ ap f (zero-add i)))

  pub tabulate-more : (n i : ℕ) (f : ℕ → A) → tabulate (suc n) i f ≡ tabulate n i f ++ (f (i + n) ∷ [])
  unfolding tabulate
  tabulate-more zero i f = ap (λ (k : ℕ). f k ∷ []) (omega arith)
  tabulate-more (suc n) i f =
      ap (λ (l : List A). f i ∷ l) (tabulate-more n (i + 1) f ∙ ap (λ (k : ℕ). tabulate n (i + 1) f ++ (f k ∷ [])) (omega arith))

-- a loop that stores one element after the other
module _ {A : Type 0} (f : ℕ → List A → A) (p : ℕ) (xs : List A) where
  pub store_to-none : xs ≡ store_to f p xs 0
  unfolding store_to
  store_to-none = refl

  pub store_to-more : (j i : ℕ) (ys : List A) (y : A) → ys ≡ store_to f p xs j → i ≡ p + j → y ≡ f j ys → set ys i y ≡ store_to f p xs (j + 1)
  unfolding store_to
  store_to-more j i ys y e h g = rw (add-one, ← e, h, g) refl

  -- a step that stores what stands there
  pub store_to-left : (d : A) (j i : ℕ) (ys : List A) → ys ≡ store_to f p xs j → i ≡ p + j → get_or ys i d ≡ f j ys → ys ≡ store_to f p xs (j + 1)
  unfolding store_to
  store_to-left d j i ys e h g = sym (set-get_or ys i d) ∙ rw (add-one, ← e, ← h, g) refl

  pub store_to-length : (n : ℕ) → length (store_to f p xs n) ≡ length xs
  unfolding store_to
  store_to-length zero = refl
  store_to-length (suc n) = length-set (store_to f p xs n) (p + n) _ ∙ store_to-length n

  -- a place before those, or past them
  pub store_to-other : (d : A) (n i : ℕ) → (i < p) ⊎ (p + n ≤ i) → get_or (store_to f p xs n) i d ≡ get_or xs i d
  unfolding store_to
  store_to-other d zero i h = refl
  store_to-other d (suc n) i h = get_or-set_other (store_to f p xs n) (p + n) i _ d (apart h) ∙ store_to-other d n i (before h)
    where
      apart : (i < p) ⊎ (p + suc n ≤ i) → i ≡ p + n → ⊥
      apart (inl l) e = omega arith
      apart (inr l) e = omega arith

      before : (i < p) ⊎ (p + suc n ≤ i) → (i < p) ⊎ (p + n ≤ i)
      before (inl l) = inl l
      before (inr l) = inr (omega arith)

  -- where what is stored at step j is g j
  module _ (d : A) (g : ℕ → A) where
    store_to-step : (n t : ℕ) → ((j : ℕ) → j < n → f j (store_to f p xs j) ≡ g j) → t < n → p + n ≤ length xs → get_or (store_to f p xs n) (p + t) d ≡ g t
    unfolding store_to
    store_to-step zero t is h l = absurd (omega arith)
    store_to-step (suc n) t is h l = go (λ h. store_to-step n t (λ j k. is j (omega arith)) h (omega arith)) (ℕ_discrete t n)
      where
        ys : List A
        ys = store_to f p xs n

        go : (t < n → get_or ys (p + t) d ≡ g t) → Dec (t ≡ n) → get_or (set ys (p + n) (f n ys)) (p + t) d ≡ g t
        go ih (yes e) = rw e (get_or-set_same ys (p + n) (f n ys) d (omega (arith, store_to-length n)) ∙ is n (omega arith))
        go ih (no e) = get_or-set_other ys (p + n) (p + t) (f n ys) d (λ q. e (omega arith)) ∙ ih (omega arith)

    pub store_to-at : (n t i : ℕ) → i ≡ p + t → ((j : ℕ) → j < n → f j (store_to f p xs j) ≡ g j) → t < n → p + n ≤ length xs → get_or (store_to f p xs n) i d ≡ g t
    store_to-at n t i e is h l = rw e (store_to-step n t is h l)

-- a search with a witness, or a proof that there is none
pub find-below : (n : ℕ) (P : ℕ → Type 0) → ((i : ℕ) → Dec (P i)) → ((i : ℕ) × (i < n) × P i) ⊎ ((i : ℕ) → i < n → P i → ⊥)
find-below zero P d = inr (λ i h p. omega arith)
find-below (suc n) P d = go (d n) (find-below n P d)
  where
    go : Dec (P n) → ((i : ℕ) × (i < n) × P i) ⊎ ((i : ℕ) → i < n → P i → ⊥) → ((i : ℕ) × (i < suc n) × P i) ⊎ ((i : ℕ) → i < suc n → P i → ⊥)
    go (yes p) r = inl (n, omega arith, p)
    go (no p) (inl (i, h, q)) = inl (i, omega arith, q)
    go (no p) (inr f) = inr (λ i h q. last i h q (ℕ_discrete i n))
      where
        last : (i : ℕ) → i < suc n → P i → Dec (i ≡ n) → ⊥
        last i h q (yes e) = p (rw e at q)
        last i h q (no e) = f i (omega arith) q

-- the first index below n at which P holds
pub record FirstOf (n : ℕ) (P : ℕ → Type 0) : Type 0 where
  pub index : ℕ
  pub below : index < n
  pub holds : P index
  pub first : (j : ℕ) → j < index → P j → ⊥

pub find_first : (n : ℕ) (P : ℕ → Type 0) → ((i : ℕ) → Dec (P i)) → FirstOf n P ⊎ ((i : ℕ) → i < n → P i → ⊥)
find_first zero P d = inr (λ i h p. omega arith)
find_first (suc n) P d = go (find_first n P d) (d n)
  where
    go : FirstOf n P ⊎ ((i : ℕ) → i < n → P i → ⊥) → Dec (P n) → FirstOf (suc n) P ⊎ ((i : ℕ) → i < suc n → P i → ⊥)
    go (inl f) _ = inl (record { index = f.index; below = omega (arith, f.below); holds = f.holds; first = f.first })
    go (inr none) (yes p) = inl (record { index = n; below = omega arith; holds = p; first = λ j h. none j h })
    go (inr none) (no p) = inr (λ i h q. last i h q (ℕ_discrete i n))
      where
        last : (i : ℕ) → i < suc n → P i → Dec (i ≡ n) → ⊥
        last i h q (yes e) = p (rw e at q)
        last i h q (no e) = none i (omega arith) q
