-- The definitions of `Pack`, `Unpack` and `Shared`, one law for each way out of the code that computes them.
use Prim.Native.Nat.{ℕ, ◌+◌, ◌*◌, ◌/◌, ◌%◌, ◌<◌, ◌≤◌}
use mathlib.Core.Path.{◌≡◌, refl, ◌∙◌}
use mathlib.Core.Bool.{Bool, true}
use mathlib.Core.List.{List, [], ◌∷◌}
use types.Run.{OneOf, miss}
use denote.Enum.Declared.{tag_of}
use native.Mathlib.Numerals.{add-one}
use native.Mathlib.Omega.{arith}
use native.Mathlib.Decide.{dec_lt}
use lib.ListN.{get_or, set}
use borrow.Author.Tests.{lt-ltb, le-ltb, eq-eqb, ne_eqb}
use Rattle.model.specs.declared.Op.{Op}
use Rattle.model.specs.declared.Op.TheVariants.{Set, Add, Copy, AddVariable, SubVariable, Notify}
use Rattle.model.specs.declared.Closer.{Closer}
use Rattle.model.specs.declared.Closer.TheVariants.{End, Time, Event}
use Rattle.model.specs.contracts.Closer as closer
use Rattle.model.specs.Statement.{execute_op, notified_by_op}
use Rattle.plain_words.specs.Pack.{few, pack_end}
use Rattle.plain_words.specs.Unpack.{op_of, size_by, next_by, follow_by}
use Rattle.plain_words.specs.Reach.{widened}
use Rattle.plain_words.specs.Shared.{Shared, shared, marked, reached, execute_word, execute_to, execute_by}

module _ (w : ℕ) (v : List ℕ) where
  pub next_by-untested : w / 65536 % 256 ≡ 255 → w % 64 ≡ next_by w v
  unfolding next_by
  next_by-untested h = rw (eq-eqb (w / 65536 % 256) 255 h) refl

  pub next_by-below : (w / 65536 % 256 ≡ 255 → ⊥) → (x : ℕ) → x ≡ get_or v (w / 65536 % 256 % 64) 0 → x < w / 16777216 → w % 64 ≡ next_by w v
  unfolding next_by
  next_by-below n x e h = rw (ne_eqb (w / 65536 % 256) 255 n, ← e, lt-ltb x (w / 16777216) h) refl

  pub next_by-above : (w / 65536 % 256 ≡ 255 → ⊥) → (x : ℕ) → x ≡ get_or v (w / 65536 % 256 % 64) 0 → w / 16777216 ≤ x → w / 256 % 64 ≡ next_by w v
  unfolding next_by
  next_by-above n x e h = rw (ne_eqb (w / 65536 % 256) 255 n, ← e, le-ltb x (w / 16777216) h) refl

module _ (code : List ℕ) (s : ℕ) (v : List ℕ) where
  pub follow_by-over : get_or code (34 * (s % 128)) 0 % 4 ≡ 0 → s ≡ follow_by code s v
  unfolding follow_by
  follow_by-over h = rw (eq-eqb (get_or code (34 * (s % 128)) 0 % 4) 0 h) refl

  pub follow_by-on : (get_or code (34 * (s % 128)) 0 % 4 ≡ 0 → ⊥) → next_by (get_or code (34 * (s % 128) + 1) 0) v ≡ follow_by code s v
  unfolding follow_by
  follow_by-on n = rw (ne_eqb (get_or code (34 * (s % 128)) 0 % 4) 0 n) refl

pub size_by-< : (e : ℕ) → size_by e < 64
unfolding size_by
size_by-< e = omega arith

-- a number of statements is at most 32
pub few-some : (n : ℕ) → n < 32 → n ≡ few n
unfolding few
few-some n h = rw (lt-ltb n 32 h) refl

pub few-full : (n : ℕ) → 32 ≤ n → 32 ≡ few n
unfolding few
few-full n h = rw (le-ltb n 32 h) refl

pub few-≤ : (n : ℕ) → few n ≤ 32
few-≤ n = go (dec_lt n 32)
  where
    go : Dec (n < 32) → few n ≤ 32
    go (yes h) = omega (arith, few-some n h)
    go (no h) = omega (arith, few-full n (omega arith))

module _ (w : ℕ) where
  pub op_of-set : w % 8 ≡ 0 → op_of w ≡ Set (w / 8 % 64) (w / 2048 % 4294967296)
  unfolding op_of
  op_of-set h = rw (eq-eqb (w % 8) 0 h) refl

  module _ (n0 : w % 8 ≡ 0 → ⊥) where
    pub op_of-add : w % 8 ≡ 1 → op_of w ≡ Add (w / 8 % 64) (w / 2048 % 4294967296)
    unfolding op_of
    op_of-add h = rw (ne_eqb (w % 8) 0 n0, eq-eqb (w % 8) 1 h) refl

    module _ (n1 : w % 8 ≡ 1 → ⊥) where
      pub op_of-copy : w % 8 ≡ 2 → op_of w ≡ Copy (w / 8 % 64) (w / 2048 % 64)
      unfolding op_of
      op_of-copy h = rw (ne_eqb (w % 8) 0 n0, ne_eqb (w % 8) 1 n1, eq-eqb (w % 8) 2 h) refl

      module _ (n2 : w % 8 ≡ 2 → ⊥) where
        pub op_of-add-variable : w % 8 ≡ 3 → op_of w ≡ AddVariable (w / 8 % 64) (w / 2048 % 64)
        unfolding op_of
        op_of-add-variable h = rw (ne_eqb (w % 8) 0 n0, ne_eqb (w % 8) 1 n1, ne_eqb (w % 8) 2 n2, eq-eqb (w % 8) 3 h) refl

        module _ (n3 : w % 8 ≡ 3 → ⊥) where
          pub op_of-sub-variable : w % 8 ≡ 4 → op_of w ≡ SubVariable (w / 8 % 64) (w / 2048 % 64)
          unfolding op_of
          op_of-sub-variable h = rw (ne_eqb (w % 8) 0 n0, ne_eqb (w % 8) 1 n1, ne_eqb (w % 8) 2 n2, ne_eqb (w % 8) 3 n3, eq-eqb (w % 8) 4 h) refl

          pub op_of-notify : (w % 8 ≡ 4 → ⊥) → op_of w ≡ Notify (w / 8 % 32)
          unfolding op_of
          op_of-notify n4 = rw (ne_eqb (w % 8) 0 n0, ne_eqb (w % 8) 1 n1, ne_eqb (w % 8) 2 n2, ne_eqb (w % 8) 3 n3, ne_eqb (w % 8) 4 n4) refl

-- one statement
module _ (w : ℕ) (v : List ℕ) (fs : List Bool) (rs : List ℕ) where
  pub execute_word-sets : (o : Op) → op_of w ≡ o → notified_by_op o [] ≡ [] → (x : List ℕ) → x ≡ execute_op o v → shared x fs rs ≡ execute_word w (shared v fs rs)
  unfolding execute_word marked reached
  execute_word-sets o h n x e = rw (h, n, e) refl

  pub execute_word-notifies : (e : ℕ) → op_of w ≡ Notify e → (gs : List Bool) (x : List ℕ) → gs ≡ set fs e true → x ≡ widened 32 (get_or rs e 0) (get_or rs (33 + e) 0) rs → shared v gs x ≡ execute_word w (shared v fs rs)
  unfolding execute_word marked reached
  execute_word-notifies e h gs x p q = rw (h, p, q) refl

-- one statement more of a segment, and all of them
module _ (code : List ℕ) (x : Shared) where
  pub execute_to-none : (base : ℕ) → x ≡ execute_to code base 0 x
  unfolding execute_to
  execute_to-none base = refl

  pub execute_to-next : (base j : ℕ) (y z : Shared) → y ≡ execute_to code base j x → z ≡ execute_word (get_or code (base + j) 0) y → z ≡ execute_to code base (j + 1) x
  unfolding execute_to
  execute_to-next base j y z e f = rw (add-one, ← e) f

  pub execute_by-as : (s i j : ℕ) (y : Shared) → i ≡ s → j ≡ size_by (get_or code (34 * (i % 128)) 0) → y ≡ execute_to code (34 * (i % 128) + 2) j x → y ≡ execute_by code s x
  unfolding execute_by
  execute_by-as s i j y e f g = g ∙ rw (f, e) refl

-- the `End` arm
pub pack_end-over : (n : ℕ) (z : Closer) → OneOf (0 ∷ []) (tag_of closer.the_type z) → 4 * few n ≡ pack_end n z
pack_end-over n End h = refl
pack_end-over n (Time k x) h = absurd (miss (0 ∷ []) 1 tt h)
pack_end-over n (Event e x) h = absurd (miss (0 ∷ []) 2 tt h)
