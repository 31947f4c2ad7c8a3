-- Ranges of threads: what they hold they keep.
--     widened-keeps, widened-new     a range that is widened holds what it held, and what it is widened by
--     reached-append     events one after the other
--     Wider, execute_by-wider     after a segment; an event that it marks: the threads of its range are reached
use Prim.Native.Nat.{ℕ, zero, suc, ◌+◌, ◌*◌, ◌%◌, ◌<◌, ◌≤◌}
use mathlib.Core.Path.{◌≡◌, refl, sym, ◌∙◌}
use mathlib.Core.Logic.{◌⊎◌, inl, inr}
use mathlib.Core.Bool.{Bool, true, false}
use mathlib.Core.List.{List, [], ◌∷◌, ◌++◌}
use native.Mathlib.Omega.{arith}
use native.Mathlib.Decide.{ℕ_discrete, dec_lt}
use lib.ListN.{length, get_or, set, length-set}
use lib.Seq.{get_or-set_same, get_or-set_other}
use borrow.Author.Tests.{lt-ltb, le-ltb}
use Rattle.model.specs.Statement.{notified_by_op}
use Rattle.plain_words.specs.Unpack.{op_of, end_by, size_by}
use Rattle.plain_words.specs.Reach.{lesser_of, greater_of, Inside, widened}
use Rattle.plain_words.specs.Shared.{Shared, marked, reached, execute_to, execute_by, execute_word}

pub lesser_of-≤ : (a b : ℕ) → (lesser_of a b ≤ a) × (lesser_of a b ≤ b)
lesser_of-≤ a b = go (dec_lt a b)
  where
    go : Dec (a < b) → (lesser_of a b ≤ a) × (lesser_of a b ≤ b)
    go (yes h) = rw (lt-ltb a b h) (omega arith, omega arith)
    go (no h) = rw (le-ltb a b (omega arith)) (omega arith, omega arith)

pub lesser_of-< : (a b k : ℕ) → k < a → k < b → k < lesser_of a b
lesser_of-< a b k h l = go (dec_lt a b)
  where
    go : Dec (a < b) → k < lesser_of a b
    go (yes u) = rw (lt-ltb a b u) h
    go (no u) = rw (le-ltb a b (omega arith)) l

pub greater_of-≤ : (a b : ℕ) → (a ≤ greater_of a b) × (b ≤ greater_of a b)
greater_of-≤ a b = go (dec_lt a b)
  where
    go : Dec (a < b) → (a ≤ greater_of a b) × (b ≤ greater_of a b)
    go (yes h) = rw (lt-ltb a b h) (omega arith, omega arith)
    go (no h) = rw (le-ltb a b (omega arith)) (omega arith, omega arith)

-- for the code: two places are stored
pub widened-as : (i a b : ℕ) (rs : List ℕ) (x y : ℕ) → x ≡ lesser_of a (get_or rs i 0) → y ≡ greater_of b (get_or rs (33 + i) 0) → set (set rs i x) (33 + i) y ≡ widened i a b rs
unfolding widened
widened-as i a b rs x y e f = rw (e, f) refl

module _ (i a b : ℕ) (rs : List ℕ) where
  pub widened-length : length (widened i a b rs) ≡ length rs
  unfolding widened
  widened-length = simp length-set

  module _ (h : i < 33) (size : length rs ≡ 66) where
    first-new : get_or (widened i a b rs) i 0 ≡ lesser_of a (get_or rs i 0)
    unfolding widened
    first-new = get_or-set_other (set rs i (lesser_of a (get_or rs i 0))) (33 + i) i (greater_of b (get_or rs (33 + i) 0)) 0 (λ q. omega arith) ∙ get_or-set_same rs i (lesser_of a (get_or rs i 0)) 0 (omega arith)

    past-new : get_or (widened i a b rs) (33 + i) 0 ≡ greater_of b (get_or rs (33 + i) 0)
    unfolding widened
    past-new = get_or-set_same (set rs i (lesser_of a (get_or rs i 0))) (33 + i) (greater_of b (get_or rs (33 + i) 0)) 0 (rw (length-set rs i (lesser_of a (get_or rs i 0))) (omega arith))

    place_other : (j : ℕ) → (j ≡ i → ⊥) → (j ≡ 33 + i → ⊥) → get_or (widened i a b rs) j 0 ≡ get_or rs j 0
    unfolding widened
    place_other j p q = get_or-set_other (set rs i (lesser_of a (get_or rs i 0))) (33 + i) j (greater_of b (get_or rs (33 + i) 0)) 0 q ∙ get_or-set_other rs i j (lesser_of a (get_or rs i 0)) 0 p

    pub widened-new : (k : ℕ) → a ≤ k → k < b → Inside (widened i a b rs) i k
    widened-new k l u =
        let (x, x') = lesser_of-≤ a (get_or rs i 0) in
        let (y, y') = greater_of-≤ b (get_or rs (33 + i) 0) in
        (omega (arith, first-new), omega (arith, past-new))

    pub widened-keeps : (j k : ℕ) → j < 33 → Inside rs j k → Inside (widened i a b rs) j k
    widened-keeps j k l (u, u') = go (ℕ_discrete j i)
      where
        go : Dec (j ≡ i) → Inside (widened i a b rs) j k
        go (yes e) =
            let (x, x') = lesser_of-≤ a (get_or rs i 0) in
            let (y, y') = greater_of-≤ b (get_or rs (33 + i) 0) in
            let v : get_or rs i 0 ≤ k = rw e at u in
            let v' : k < get_or rs (33 + i) 0 = rw e at u' in
            rw e (omega (arith, first-new), omega (arith, past-new))
        go (no e) = (omega (arith, place_other j e (λ q. omega arith)), omega (arith, place_other (33 + j) (λ q. omega arith) (λ q. e (omega arith))))

pub reached-append : (rs es ds : List ℕ) → reached rs (es ++ ds) ≡ reached (reached rs es) ds
unfolding reached
reached-append rs [] ds = refl
reached-append rs (e ∷ es) ds = reached-append (widened 32 (get_or rs e 0) (get_or rs (33 + e) 0) rs) es ds

-- the marks gs and ranges qs, with more in them than fs and rs: a range holds what it held, and where an event is marked the threads of its range are reached
pub record Wider (fs gs : List Bool) (rs qs : List ℕ) : Type 0 where
  pub size : length qs ≡ 66
  pub keeps : (j k : ℕ) → j < 33 → Inside rs j k → Inside qs j k
  pub told : (e k : ℕ) → e < 32 → Inside rs e k → get_or gs e false ≡ true → (get_or fs e false ≡ true) ⊎ Inside qs 32 k

wider-none : (fs : List Bool) (rs : List ℕ) → length rs ≡ 66 → Wider fs fs rs rs
wider-none fs rs size = record { size = size; keeps = λ j k l h. h; told = λ e k l h t. inl t }

module _ (fs gs : List Bool) (rs qs : List ℕ) (w : Wider fs gs rs qs) where
  wider-event : (i : ℕ) → Wider fs (set gs i true) rs (widened 32 (get_or qs i 0) (get_or qs (33 + i) 0) qs)
  wider-event i =
      record {
        size = widened-length 32 a b qs ∙ w.size;
        keeps = λ j k l h. more j k l (w.keeps j k l h);
        told = λ e k l h t. go e k l h t (ℕ_discrete e i);
      }
    where
      a : ℕ
      a = get_or qs i 0

      b : ℕ
      b = get_or qs (33 + i) 0

      more : (j k : ℕ) → j < 33 → Inside qs j k → Inside (widened 32 a b qs) j k
      more = widened-keeps 32 a b qs (omega arith) w.size

      old : (e k : ℕ) → (get_or fs e false ≡ true) ⊎ Inside qs 32 k → (get_or fs e false ≡ true) ⊎ Inside (widened 32 a b qs) 32 k
      old e k (inl q) = inl q
      old e k (inr q) = inr (more 32 k (omega arith) q)

      go : (e k : ℕ) → e < 32 → Inside rs e k → get_or (set gs i true) e false ≡ true → Dec (e ≡ i) → (get_or fs e false ≡ true) ⊎ Inside (widened 32 a b qs) 32 k
      go e k l h t (yes q) = let (u, u') = w.keeps e k (omega arith) h in inr (widened-new 32 a b qs (omega arith) w.size k (rw (← q) u) (rw (← q) u'))
      go e k l h t (no q) = old e k (w.told e k l h (sym (get_or-set_other gs i e true false q) ∙ t))

wider-events : (fs gs : List Bool) (rs qs es : List ℕ) → Wider fs gs rs qs → Wider fs (marked gs es) rs (reached qs es)
unfolding marked reached
wider-events fs gs rs qs [] w = w
wider-events fs gs rs qs (e ∷ es) w = wider-events fs (set gs e true) rs (widened 32 (get_or qs e 0) (get_or qs (33 + e) 0) qs) es (wider-event fs gs rs qs w e)

-- the statements of a segment
module _ (code : List ℕ) (x : Shared) (size : length x.ranges ≡ 66) where
  wider-to : (base j : ℕ) → Wider x.told (execute_to code base j x).told x.ranges (execute_to code base j x).ranges
  unfolding execute_to execute_word
  wider-to base zero = wider-none x.told x.ranges size
  wider-to base (suc j) =
      let y = execute_to code base j x in
      wider-events x.told y.told x.ranges y.ranges (notified_by_op (op_of (get_or code (base + j) 0)) []) (wider-to base j)

  pub execute_by-wider : (s : ℕ) → Wider x.told (execute_by code s x).told x.ranges (execute_by code s x).ranges
  unfolding execute_by
  execute_by-wider s = wider-to (34 * (s % 128) + 2) (size_by (end_by code s))
