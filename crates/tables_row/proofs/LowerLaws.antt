-- What lowering a row does, and where it ends.
--     sum_word-mono, sum_word-grows, sum_word-near     the sum of a word and a step
--     Falls-refl, Falls-trans, Lowers-none, Lowers-join, Lowers-more, Lowers-still     one lowering after the other
--     is_lower-past, -none, -some, lowered_at-left, -set     the exits of `lower`
--     RestsAt-far, RestsAt-never, follow-lowers, follow-rests     the exits of `follow`
--     RestsTo-none, pass-more     the loop of `pass`
--     relax-less, relax-rests     the loop of `relax`
--     settled     a row at rest above a floor that steps attain is that floor
use Prim.Native.Nat.{ℕ, zero, suc, ◌+◌, ◌≤◌, ◌<◌}
use mathlib.Core.Path.{◌≡◌, refl, sym, ◌∙◌, subst}
use mathlib.Core.Logic.{◌⊎◌, inl, inr}
use mathlib.Core.Bool.{Bool, true, false, cond, ◌&&◌, ◌||◌}
use mathlib.Core.List.{List}
use native.Mathlib.Omega.{arith}
use native.Mathlib.Decide.{dec_lt, ℕ_discrete}
use lib.Dec.{ltb, ltb→lt}
use lib.ListN.{length, get_or, set, length-set}
use lib.Seq.{get_or-set_same, get_or-set_other}
use borrow.Author.Tests.{lt-ltb, le-ltb}
use Rattle.base.proofs.BoolLaws.{true→T, false→T, and→both}
use Rattle.tables_distance.specs.Store.{far, sum_word}
use Rattle.tables_distance.proofs.StoreLaws.{sum_word-far, sum_word-none, sum_word-more}
use Rattle.tables_distance.proofs.HeldLaws.{sum_word-late}
use Rattle.tables_row.specs.Lower.{word_in, first_in, second_in, Leads, is_lower, lowered_at, total, IsFloor, IsAbove, Falls, Lowers, RestsAt, RestsTo}

-- sums with a step

pub sum_word-mono : (a b w : ℕ) → a ≤ b → sum_word a w ≤ sum_word b w
sum_word-mono a b w h = go (dec_lt w 1024) (dec_lt w far)
  where
    go : Dec (w < 1024) → Dec (w < far) → sum_word a w ≤ sum_word b w
    go (yes p) _ = omega (arith, sum_word-none a w p, sum_word-none b w p)
    go (no p) (yes q) = let p' : 1024 ≤ w = omega arith in omega (arith, sum_word-more a w q p', sum_word-more b w q p')
    go (no p) (no q) = let q' : far ≤ w = omega arith in omega (arith, sum_word-far a w q', sum_word-far b w q')

pub sum_word-grows : (a w : ℕ) → a < far → 1 ≤ w → a < sum_word a w
sum_word-grows a w h l = go (dec_lt w 1024) (dec_lt w far)
  where
    go : Dec (w < 1024) → Dec (w < far) → a < sum_word a w
    go (yes p) _ = omega (arith, sum_word-none a w p)
    go (no p) (yes q) = let p' : 1024 ≤ w = omega arith in omega (arith, sum_word-more a w q p')
    go (no p) (no q) = let q' : far ≤ w = omega arith in omega (arith, sum_word-far a w q')

-- a sum below far has both parts below it
pub sum_word-near : (a w : ℕ) → sum_word a w < far → (a < far) × (w < far)
sum_word-near a w h = go (dec_lt a far) (dec_lt w far)
  where
    go : Dec (a < far) → Dec (w < far) → (a < far) × (w < far)
    go (yes p) (yes q) = (p, q)
    go (no p) _ = let p' : far ≤ a = omega arith in absurd (omega (arith, sum_word-late a w p'))
    go (yes p) (no q) = let q' : far ≤ w = omega arith in absurd (omega (arith, sum_word-far a w q'))

-- the sum of the first words falls with them

pub total_mono : (k : ℕ) (xs ys : List ℕ) → ((s : ℕ) → s < k → get_or ys s 0 ≤ get_or xs s 0) → total k ys ≤ total k xs
unfolding total
total_mono zero xs ys h = omega arith
total_mono (suc k) xs ys h = omega (arith, total_mono k xs ys (λ s l. h s (omega arith)), h k (omega arith))

pub total-less : (k t : ℕ) (xs ys : List ℕ) → ((s : ℕ) → s < k → get_or ys s 0 ≤ get_or xs s 0) → t < k → get_or ys t 0 < get_or xs t 0 → total k ys < total k xs
unfolding total
total-less zero t xs ys h l b = absurd (omega arith)
total-less (suc k) t xs ys h l b = go (λ l. total-less k t xs ys (λ s l. h s (omega arith)) l b) (ℕ_discrete t k)
  where
    go : (t < k → total k ys < total k xs) → Dec (t ≡ k) → total k ys + get_or ys k 0 < total k xs + get_or xs k 0
    go ih (yes e) = let b' : get_or ys k 0 < get_or xs k 0 = rw e at b in omega (arith, total_mono k xs ys (λ s l. h s (omega arith)))
    go ih (no e) = omega (arith, ih (omega arith), h k (omega arith))

-- one lowering after the other

module _ {steps : List ℕ} {k : ℕ} where
  pub Falls-refl : (row : List ℕ) → Falls steps k row row
  Falls-refl row = record { length_kept = refl; falls = λ s h. omega arith; above = λ floor f a. a }

  pub Falls-trans : {x y z : List ℕ} → Falls steps k x y → Falls steps k y z → Falls steps k x z
  Falls-trans p q =
      record {
        length_kept = q.length_kept ∙ p.length_kept;
        falls = λ s h. omega (arith, p.falls s h, q.falls s h);
        above = λ floor f a. q.above floor f (p.above floor f a);
      }

  pub Lowers-none : (row : List ℕ) → Lowers steps k false row row
  Lowers-none row = record { fall = Falls-refl row; same = λ e. refl; less = λ e. absurd (true→T false e) }

  pub Lowers-more : {c : Bool} {x y z : List ℕ} → Lowers steps k c x y → Lowers steps k true y z → Lowers steps k true x z
  Lowers-more {c} {x} {y} {z} p q =
      record {
        fall = Falls-trans p.fall q.fall;
        same = λ e. absurd (false→T true e);
        less = λ e. omega (arith, q.less refl, total_mono k x y p.fall.falls);
      }

  pub Lowers-still : {c : Bool} {x y z : List ℕ} → Lowers steps k c x y → Lowers steps k false y z → Lowers steps k c x z
  Lowers-still {c} {x} p q = subst (λ (us : List ℕ). Lowers steps k c x us) (sym (q.same refl)) p

  pub Lowers-join : (c d : Bool) {x y z : List ℕ} → Lowers steps k c x y → Lowers steps k d y z → Lowers steps k (c || d) x z
  Lowers-join false d {x} {y} {z} p q = subst (λ (us : List ℕ). Lowers steps k d us z) (p.same refl) q
  Lowers-join true false p q = Lowers-still p q
  Lowers-join true true p q = Lowers-more p q

-- one word made less

module _ (k t c : ℕ) (row : List ℕ) where
  pub is_lower-past : k ≤ t → false ≡ is_lower k t c row
  unfolding is_lower
  is_lower-past h = rw (le-ltb t k h) refl

  pub is_lower-none : t < k → get_or row t 0 ≤ c → false ≡ is_lower k t c row
  unfolding is_lower
  is_lower-none h l = rw (lt-ltb t k h, le-ltb c (get_or row t 0) l) refl

  pub is_lower-some : t < k → c < get_or row t 0 → true ≡ is_lower k t c row
  unfolding is_lower
  is_lower-some h l = rw (lt-ltb t k h, lt-ltb c (get_or row t 0) l) refl

  pub lowered_at-left : false ≡ is_lower k t c row → row ≡ lowered_at k t c row
  unfolding lowered_at
  lowered_at-left e = rw (← e) refl

  pub lowered_at-set : true ≡ is_lower k t c row → set row t c ≡ lowered_at k t c row
  unfolding lowered_at
  lowered_at-set e = rw (← e) refl

  is_lower→ : is_lower k t c row ≡ true → (t < k) × (c < get_or row t 0)
  unfolding is_lower
  is_lower→ e =
      let (p, q) = and→both (ltb t k) (ltb c (get_or row t 0)) (true→T (ltb t k && ltb c (get_or row t 0)) e) in
      (ltb→lt t k p, ltb→lt c (get_or row t 0) q)

  -- what is not lowered is not above c
  pub not_lower : is_lower k t c row ≡ false → t < k → get_or row t 0 ≤ c
  unfolding is_lower
  not_lower e h = go (dec_lt c (get_or row t 0))
    where
      go : Dec (c < get_or row t 0) → get_or row t 0 ≤ c
      go (yes l) = absurd (true→T false (sym e ∙ sym (is_lower-some h l)))
      go (no l) = omega arith

-- the step of place s, whose word is read as d

module _ (steps : List ℕ) (k s d : ℕ) (sk : s < k) where
  abbrev c : ℕ
  c = sum_word d (word_in (get_or steps s 0))

  -- a floor of the row is not above c at a next segment
  floor-below : (t : ℕ) → t < k → Leads (get_or steps s 0) t → (row : List ℕ) → get_or row s 0 ≤ d → (floor : ℕ → ℕ) → IsFloor steps k floor → IsAbove k floor row → floor t ≤ c
  floor-below t tk leads row h floor f a =
      omega (arith, f s t sk tk leads, sum_word-mono (floor s) d (word_in (get_or steps s 0)) (let b = a s sk in omega arith))

  pub lowered-lowers :
      (t : ℕ) → Leads (get_or steps s 0) t → (row after : List ℕ) (x : Bool) → k ≤ length row → get_or row s 0 ≤ d →
      x ≡ is_lower k t c row → after ≡ lowered_at k t c row → Lowers steps k x row after
  lowered-lowers t leads row after false room h e f =
      subst (λ (us : List ℕ). Lowers steps k false row us) (lowered_at-left k t c row e ∙ sym f) (Lowers-none row)
  lowered-lowers t leads row after true room h e f =
      subst (λ (us : List ℕ). Lowers steps k true row us) (lowered_at-set k t c row e ∙ sym f)
      (record {
        fall = record {
          length_kept = length-set row t c;
          falls = λ u l. falls u l;
          above = λ floor g a u l. above floor g a u l (ℕ_discrete u t);
        };
        same = λ e. absurd (false→T true e);
        less = λ _. total-less k t row (set row t c) (λ u l. falls u l) tk (rw here lower);
      })
    where
      tk : t < k
      tk = (is_lower→ k t c row (sym e)).0

      lower : c < get_or row t 0
      lower = (is_lower→ k t c row (sym e)).1

      here : get_or (set row t c) t 0 ≡ c
      here = get_or-set_same row t c 0 (omega (arith, tk))

      falls_at : (u : ℕ) → Dec (u ≡ t) → get_or (set row t c) u 0 ≤ get_or row u 0
      falls_at u (yes g) = rw (g, here) (omega (arith, lower))
      falls_at u (no g) = rw (get_or-set_other row t u c 0 g) (omega arith)

      falls : (u : ℕ) → u < k → get_or (set row t c) u 0 ≤ get_or row u 0
      falls u l = falls_at u (ℕ_discrete u t)

      above : (floor : ℕ → ℕ) → IsFloor steps k floor → IsAbove k floor row → (u : ℕ) → u < k → Dec (u ≡ t) → floor u ≤ get_or (set row t c) u 0
      above floor g a u l (yes e) = rw (e, here) (floor-below t tk leads row h floor g a)
      above floor g a u l (no e) = rw (get_or-set_other row t u c 0 e) (a u l)

-- both next segments of place s, one after the other

module _ (steps : List ℕ) (k s : ℕ) (sk : s < k) (row : List ℕ) where
  pub RestsAt-far : far ≤ get_or row s 0 → RestsAt steps k row s
  RestsAt-far h l = absurd (omega arith)

  pub RestsAt-never : far ≤ word_in (get_or steps s 0) → RestsAt steps k row s
  RestsAt-never h _ l = absurd (omega arith)

  module _
      (c : ℕ) (x y : Bool) (mid after : List ℕ) (room : k ≤ length row) (sum : c ≡ sum_word (get_or row s 0) (word_in (get_or steps s 0)))
      (ex : x ≡ is_lower k (first_in (get_or steps s 0)) c row) (em : mid ≡ lowered_at k (first_in (get_or steps s 0)) c row)
      (ey : y ≡ is_lower k (second_in (get_or steps s 0)) c mid) (ea : after ≡ lowered_at k (second_in (get_or steps s 0)) c mid) where
    first-lowers : Lowers steps k x row mid
    first-lowers = lowered-lowers steps k s (get_or row s 0) sk (first_in (get_or steps s 0)) (inl refl) row mid x room (omega arith) (rw sum at ex) (rw sum at em)

    second-lowers : Lowers steps k y mid after
    second-lowers =
        lowered-lowers steps k s (get_or row s 0) sk (second_in (get_or steps s 0)) (inr refl) mid after y (omega (arith, first-lowers.fall.length_kept))
        (first-lowers.fall.falls s sk) (rw sum at ey) (rw sum at ea)

    pub follow-lowers : Lowers steps k (x || y) row after
    follow-lowers = Lowers-join x y first-lowers second-lowers

    pub follow-rests : x ≡ false → y ≡ false → RestsAt steps k row s
    follow-rests ox oy _ _ t tk (inl e) =
        rw (← sum) (rw e at (not_lower k (first_in (get_or steps s 0)) c row (sym ex ∙ ox)) tk)
    follow-rests ox oy _ _ t tk (inr e) =
        let still : mid ≡ row = first-lowers.same ox in
        rw (← sum) (rw e at (not_lower k (second_in (get_or steps s 0)) c row (rw still at (sym ey ∙ oy))) tk)

-- the places so far

module _ (steps : List ℕ) (k : ℕ) (row : List ℕ) where
  pub RestsTo-none : RestsTo steps k row 0
  RestsTo-none s h = absurd (omega arith)

  RestsTo-more : (j : ℕ) → RestsTo steps k row j → RestsAt steps k row j → RestsTo steps k row (j + 1)
  RestsTo-more j p q s h = go (ℕ_discrete s j)
    where
      go : Dec (s ≡ j) → RestsAt steps k row s
      go (yes e) = rw e q
      go (no e) = p s (omega arith)

-- the loop of `pass`: the step of place s, and whether a word has changed by then
pub pass-more :
    (steps : List ℕ) (k s : ℕ) (x y z : List ℕ) (c d e : Bool) → Lowers steps k c x y → (c ≡ false → RestsTo steps k x s) →
    Lowers steps k d y z → (d ≡ false → RestsAt steps k y s) → ((d ≡ true) × (e ≡ true)) ⊎ ((d ≡ false) × (e ≡ c)) →
    Lowers steps k e x z × (e ≡ false → RestsTo steps k x (s + 1))
pass-more steps k s x y z c d e p rests q rest (inl (f, g)) = (
  subst (λ (b : Bool). Lowers steps k b x z) (sym g) (Lowers-more p (subst (λ (b : Bool). Lowers steps k b y z) f q)),
  λ h. absurd (false→T true (sym g ∙ h)),
)
pass-more steps k s x y z c d e p rests q rest (inr (f, g)) = (
  subst (λ (b : Bool). Lowers steps k b x z) (sym g) (Lowers-still p (subst (λ (b : Bool). Lowers steps k b y z) f q)),
  λ h. let still : c ≡ false = sym g ∙ h in
      RestsTo-more steps k x s (rests still) (subst (λ (us : List ℕ). RestsAt steps k us s) (p.same still) (rest f)),
)

-- the loop of `relax`: a pass lowers the sum, or is the last

abbrev pub to_go : ℕ → Bool → List ℕ → ℕ
to_go k c row = cond c (1 + total k row) 0

pub relax-less : {steps : List ℕ} (k : ℕ) (x y : List ℕ) (c d : Bool) → c ≡ true → Lowers steps k d x y → to_go k d y < to_go k c x
relax-less k x y c false e p = rw e (omega arith)
relax-less k x y c true e p = rw e (omega (arith, p.less refl))

pub relax-rests : {steps : List ℕ} {k : ℕ} {x y : List ℕ} (d : Bool) → Lowers steps k d x y → (d ≡ false → RestsTo steps k x k) → d ≡ false → RestsTo steps k y k
relax-rests {steps} {k} d p rests e = subst (λ (us : List ℕ). RestsTo steps k us k) (sym (p.same e)) (rests e)

-- A row at rest, above a floor that is attained by steps from place r. By induction on the floor: where it is not far, a last step attains it, from a
-- place whose floor is less; there the row is at the floor, and the step is at rest.

pub record LastStep (steps : List ℕ) (k : ℕ) (floor : ℕ → ℕ) (t : ℕ) : Type 0 where
  pub from : ℕ
  pub below : from < k
  pub leads : Leads (get_or steps from 0) t
  pub some : 1 ≤ word_in (get_or steps from 0)
  pub sum : floor t ≡ sum_word (floor from) (word_in (get_or steps from 0))

module _
    (steps : List ℕ) (k r : ℕ) (floor : ℕ → ℕ) (attained : (t : ℕ) → t < k → floor t < far → (t ≡ r) ⊎ LastStep steps k floor t)
    (row : List ℕ) (near : (s : ℕ) → s < k → get_or row s 0 ≤ far) (own : get_or row r 0 ≡ 0) (rests : RestsTo steps k row k) where
  settled-below : (b t : ℕ) → floor t < b → t < k → get_or row t 0 ≤ floor t
  settled-below zero t h tk = absurd (omega arith)
  settled-below (suc b) t h tk = go (λ s l sk. settled-below b s l sk) (dec_lt (floor t) far)
    where
      last : ((s : ℕ) → floor s < b → s < k → get_or row s 0 ≤ floor s) → floor t < far → LastStep steps k floor t → get_or row t 0 ≤ floor t
      last ih l p =
          let w = word_in (get_or steps p.from 0) in
          let f = floor p.from in
          let e : floor t ≡ sum_word f w = p.sum in
          let (near-floor, Near-word) = sum_word-near f w (omega arith) in
          let less : f < floor t = (let g = sum_word-grows f w near-floor p.some in omega arith) in
          let at : get_or row p.from 0 ≤ f = ih p.from (omega arith) p.below in
          omega (arith, rests p.from p.below (omega arith) Near-word t tk p.leads, sum_word-mono (get_or row p.from 0) f w at)

      go : ((s : ℕ) → floor s < b → s < k → get_or row s 0 ≤ floor s) → Dec (floor t < far) → get_or row t 0 ≤ floor t
      go ih (no l) = omega (arith, near t tk)
      go ih (yes l) = either (attained t tk l)
        where
          either : (t ≡ r) ⊎ LastStep steps k floor t → get_or row t 0 ≤ floor t
          either (inl e) = rw e (omega (arith, own))
          either (inr p) = last ih l p

  pub settled : IsAbove k floor row → (t : ℕ) → t < k → get_or row t 0 ≡ floor t
  settled above t tk = omega (arith, above t tk, settled-below (suc (floor t)) t (omega arith) tk)
