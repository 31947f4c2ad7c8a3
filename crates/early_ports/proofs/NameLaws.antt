-- What the words of the segments hold, bit by bit: what a segment writes or uses, from a first number on. First the functions' exits and loops.
--     names_of-writes, names_of-uses     a segment
--     stretches-length, stretches-at     a place of the buffer
--     names_for-none, names_for-word     a buffer of zeros, as `fill_names` leaves it
use Prim.Native.Nat.{ℕ, zero, suc, ◌+◌, ◌*◌, ◌-◌, ◌≤◌, ◌<◌, ◌^◌, min}
use mathlib.Core.Path.{◌≡◌, refl, ap, ap₂, sym, ◌∙◌}
use mathlib.Core.Logic.{◌⊎◌, inl, inr}
use mathlib.Core.Bool.{Bool, true, false, not, cond, ◌&&◌, ◌||◌, or-false, or_self, or_self_left}
use mathlib.Core.List.{List, [], ◌∷◌, ◌++◌}
use native.Mathlib.Omega.{arith}
use native.Mathlib.Numerals.{add-one}
use native.Mathlib.Decide.{dec_lt, ℕ_discrete}
use lib.Bits.{bit_or, or_lt}
use lib.Dec.{T, eqb}
use lib.ListN.{length, get_or, take, length-take}
use lib.Seq.{take-suc, take_all, get_or-take}
use Rattle.std.specs.List.{list_any}
use Rattle.std.proofs.lemmas.List.Elements.{All-from_get_or}
use Rattle.std.proofs.lemmas.List.Folds.{list_any_at, list_any_none}
use borrow.Author.Tests.{lt-ltb, le-ltb, eq-eqb, ne_eqb}
use Rattle.base.specs.Index.{any_below}
use Rattle.base.proofs.BoolLaws.{T-case, T→true, T→false}
use Rattle.base.proofs.IndexLaws.{any_below-some, any_below-none, store_to-length, store_to-other, store_to-at}
use Rattle.masks.specs.Mask.{bit_at, with_bit}
use Rattle.masks.proofs.MaskLaws.{bit_at-zero, bit_at-or, bit_at-with_bit-below, with_bit-lt}
use Rattle.model.specs.declared.Op.{Op}
use Rattle.model.specs.declared.Op.TheVariants.{Set, Add, Copy, AddVariable, SubVariable, Notify}
use Rattle.model.specs.declared.Statement.{Statement}
use Rattle.model.specs.declared.Closer.{Closer}
use Rattle.model.specs.declared.Closer.TheVariants.{End, Time, Event}
use Rattle.model.specs.declared.Segment.{Segment}
use Rattle.model.specs.declared.Model.{Model}
use Rattle.model.specs.declared.Start.{Start}
use Rattle.model.specs.Port.{uses_ports}
use Rattle.model.specs.Values.{no_start, segment_at, body_of}
use Rattle.model.specs.Footprint.{writes_op, reads_op, writes, reads, tests, tests_next, writes_of, uses_of}
use Rattle.early_ports.specs.Names.{bit_from, read_from, op_names, test_name, names_in, names_of, name_word, stretch, stretches, any_ports, names_for}

-- exits and loops

pub bit_from-none : (from x : ℕ) → x < from → 0 ≡ bit_from from x
unfolding bit_from
bit_from-none from x h = rw (lt-ltb x from h) refl

pub bit_from-some : (from x w : ℕ) → from ≤ x → w ≡ with_bit 0 (x - from) → w ≡ bit_from from x
unfolding bit_from
bit_from-some from x w h e = rw (le-ltb x from h) e

names_in-last : (from : ℕ) (b : Bool) (w : ℕ) (xs : List Statement) (x : Statement) → names_in from b w (xs ++ (x ∷ [])) ≡ bit_or (names_in from b w xs) (op_names from b x.op)
unfolding names_in
names_in-last from b w [] x = refl
names_in-last from b w (y ∷ xs) x = names_in-last from b (bit_or w (op_names from b y.op)) xs x

pub names_in-none : (from : ℕ) (b : Bool) (xs : List Statement) → 0 ≡ names_in from b 0 (take 0 xs)
unfolding names_in
names_in-none from b xs = refl

pub names_in-more :
    (from : ℕ) (b : Bool) (xs : List Statement) (n j : ℕ) (d : Statement) (w o : ℕ) → j < length (take n xs) → w ≡ names_in from b 0 (take j xs) →
    o ≡ op_names from b (get_or (take n xs) j d).op → bit_or w o ≡ names_in from b 0 (take (j + 1) xs)
names_in-more from b xs n j d w o h e f =
    let size = length-take n xs in
    let read = get_or-take n xs j d (omega arith) in
    rw (add-one, take-suc xs j d (omega arith), names_in-last from b 0 (take j xs) (get_or xs j d)) (ap₂ bit_or e (rw read at f))

pub names_of-made :
    (from : ℕ) (b : Bool) (g : Segment) (j w o : ℕ) → length g.statements ≡ 32 → j ≡ min g.n 32 → w ≡ names_in from b 0 (take j g.statements) →
    o ≡ test_name from b g.closer → bit_or w o ≡ names_of from b g
unfolding names_of body_of
names_of-made from b g j w o size h e f = ap₂ bit_or (e ∙ ap (names_in from b 0) (go (dec_lt g.n 32))) f
  where
    go : Dec (g.n < 32) → take j g.statements ≡ take g.n g.statements
    go (yes l) = let i : j ≡ g.n = omega arith in rw i
    go (no l) = take_all j g.statements (omega arith) ∙ sym (take_all g.n g.statements (omega arith))

-- a list searched by a test, and an index searched by one
list_any-below :
    {A : Type 0} (p : A → Bool) (xs : List A) (d : A) (n : ℕ) (f : ℕ → Bool) → length xs ≡ n → ((i : ℕ) → i < n → p (get_or xs i d) ≡ f i) → list_any p xs ≡ any_below n f
list_any-below p xs d n f e h = go (T-case (any_below n f))
  where
    go : T (any_below n f) ⊎ T (not (any_below n f)) → list_any p xs ≡ any_below n f
    go (inl t) = let (i, l, u) = any_below-some n f t in list_any_at p xs i d (omega arith) (h i l ∙ T→true (f i) u) ∙ sym (T→true (any_below n f) t)
    go (inr t) =
        list_any_none p xs (All-from_get_or (λ x. p x ≡ false) xs d (λ i l. h i (omega arith) ∙ T→false (f i) (any_below-none n f t i (omega arith))))
        ∙ sym (T→false (any_below n f) t)

-- the threads
pub any_ports-list : (starts : List Start) (t n : ℕ) → length starts ≡ 32 → n ≡ min t 32 → list_any (λ (x : Start). uses_ports x.ports) (take n starts) ≡ any_ports starts t
unfolding any_ports
any_ports-list starts t n size e =
    let front = length-take n starts in
    list_any-below (λ (x : Start). uses_ports x.ports) (take n starts) no_start (min t 32) (λ k. uses_ports (get_or starts k no_start).ports) (omega arith)
    (λ i l. ap (λ (x : Start). uses_ports x.ports) (get_or-take n starts i no_start (omega arith)))

-- a number x is bit v where it is from + v

module _ (from v : ℕ) (h : v < 64) (low : from ≤ 128) where
  bit_from-at : (x : ℕ) → bit_at (bit_from from x) v ≡ eqb x (from + v)
  bit_from-at x = go (dec_lt x from) (ℕ_discrete (x - from) v)
    where
      go : Dec (x < from) → Dec (x - from ≡ v) → bit_at (bit_from from x) v ≡ eqb x (from + v)
      go (yes l) _ = rw (← bit_from-none from x l, ne_eqb x (from + v) (λ e. omega arith)) (bit_at-zero v)
      go (no l) (yes e) =
          rw (← bit_from-some from x _ (omega arith) refl, eq-eqb x (from + v) (omega arith))
          (bit_at-with_bit-below 0 (x - from) v h ∙ rw (bit_at-zero v) (eq-eqb (x - from) v e))
      go (no l) (no e) =
          rw (← bit_from-some from x _ (omega arith) refl, ne_eqb x (from + v) (λ f. e (omega arith)))
          (bit_at-with_bit-below 0 (x - from) v h ∙ rw (bit_at-zero v) (ne_eqb (x - from) v e))

  read_from-at : (b : Bool) (x : ℕ) → bit_at (read_from from b x) v ≡ cond b false (eqb x (from + v))
  unfolding read_from
  read_from-at true x = bit_at-zero v
  read_from-at false x = bit_from-at x

  two_at : (b : Bool) (x y : ℕ) → bit_at (bit_or (bit_from from x) (read_from from b y)) v ≡ (eqb x (from + v) || cond b false (eqb y (from + v)))
  two_at b x y = bit_at-or (bit_from from x) (read_from from b y) v ∙ ap₂ ◌||◌ (bit_from-at x) (read_from-at b y)

  -- what is written, and what is used besides
  op_names-at : (b : Bool) (o : Op) → bit_at (op_names from b o) v ≡ (writes_op o (from + v) || cond b false (reads_op o (from + v)))
  unfolding op_names
  op_names-at true (Set x y) = bit_from-at x ∙ sym (or-false (eqb x (from + v)))
  op_names-at false (Set x y) = bit_from-at x ∙ sym (or-false (eqb x (from + v)))
  op_names-at true (Add x y) = bit_from-at x ∙ sym (or-false (eqb x (from + v)))
  op_names-at false (Add x y) = bit_from-at x ∙ sym (or_self (eqb x (from + v)))
  op_names-at true (Copy x y) = two_at true x y
  op_names-at false (Copy x y) = two_at false x y
  op_names-at true (AddVariable x y) = two_at true x y
  op_names-at false (AddVariable x y) = two_at false x y ∙ sym (or_self_left (eqb x (from + v)) (eqb y (from + v)))
  op_names-at true (SubVariable x y) = two_at true x y
  op_names-at false (SubVariable x y) = two_at false x y ∙ sym (or_self_left (eqb x (from + v)) (eqb y (from + v)))
  op_names-at true (Notify w) = bit_at-zero v
  op_names-at false (Notify w) = bit_at-zero v

  or_swap : (b p w r ws rs : Bool) → ((p || (w || cond b false r)) || (ws || cond b false rs)) ≡ (p || ((w || ws) || cond b false (r || rs)))
  or_swap b true w r ws rs = refl
  or_swap b false true r ws rs = refl
  or_swap true false false r ws rs = refl
  or_swap false false false true true rs = refl
  or_swap false false false true false rs = refl
  or_swap false false false false ws rs = refl

  names_in-at : (b : Bool) (w : ℕ) (xs : List Statement) → bit_at (names_in from b w xs) v ≡ (bit_at w v || (writes xs (from + v) || cond b false (reads xs (from + v))))
  unfolding names_in writes reads
  names_in-at true w [] = sym (or-false (bit_at w v))
  names_in-at false w [] = sym (or-false (bit_at w v))
  names_in-at b w (x ∷ xs) =
      names_in-at b (bit_or w (op_names from b x.op)) xs
      ∙ rw (bit_at-or w (op_names from b x.op) v, op_names-at b x.op)
      (or_swap b (bit_at w v) (writes_op x.op (from + v)) (reads_op x.op (from + v)) (writes xs (from + v)) (reads xs (from + v)))

  -- 255 is no such number
  tests_next-at : (b : Bool) (x : ℕ) → bit_at (read_from from b x) v ≡ cond b false (not (eqb x 255) && eqb x (from + v))
  tests_next-at b x = read_from-at b x ∙ ap (cond b false) (go (ℕ_discrete x 255))
    where
      go : Dec (x ≡ 255) → eqb x (from + v) ≡ (not (eqb x 255) && eqb x (from + v))
      go (yes e) = rw (ne_eqb x (from + v) (λ f. omega arith), eq-eqb x 255 e) refl
      go (no e) = rw (ne_eqb x 255 e) refl

  test_name-at : (b : Bool) (c : Closer) → bit_at (test_name from b c) v ≡ cond b false (tests c (from + v))
  unfolding test_name tests tests_next
  test_name-at true End = bit_at-zero v
  test_name-at false End = bit_at-zero v
  test_name-at b (Time k x) = tests_next-at b x.test
  test_name-at b (Event w x) = tests_next-at b x.test

  names_of-at : (b : Bool) (g : Segment) → bit_at (names_of from b g) v ≡ ((writes_of g (from + v) || cond b false (reads (body_of g) (from + v))) || cond b false (tests g.closer (from + v)))
  unfolding names_of writes_of
  names_of-at b g =
      bit_at-or (names_in from b 0 (body_of g)) (test_name from b g.closer) v
      ∙ ap₂ ◌||◌
      (names_in-at b 0 (body_of g) ∙ ap (λ (p : Bool). p || (writes (body_of g) (from + v) || cond b false (reads (body_of g) (from + v)))) (bit_at-zero v))
      (test_name-at b g.closer)

  pub names_of-writes : (g : Segment) → bit_at (names_of from true g) v ≡ writes_of g (from + v)
  names_of-writes g = names_of-at true g ∙ (or-false (writes_of g (from + v) || false) ∙ or-false (writes_of g (from + v)))

  pub names_of-uses : (g : Segment) → bit_at (names_of from false g) v ≡ uses_of g (from + v)
  unfolding uses_of
  names_of-uses g = names_of-at false g

-- words are below 2 ^ 64

bit_from-lt : (from x : ℕ) → bit_from from x < 2 ^ 64
bit_from-lt from x = go (dec_lt x from)
  where
    go : Dec (x < from) → bit_from from x < 2 ^ 64
    go (yes l) = rw (← bit_from-none from x l) (omega arith)
    go (no l) = rw (← bit_from-some from x _ (omega arith) refl) (with_bit-lt 0 (x - from) (omega arith))

read_from-lt : (from : ℕ) (b : Bool) (x : ℕ) → read_from from b x < 2 ^ 64
unfolding read_from
read_from-lt from true x = omega arith
read_from-lt from false x = bit_from-lt from x

op_names-lt : (from : ℕ) (b : Bool) (o : Op) → op_names from b o < 2 ^ 64
unfolding op_names
op_names-lt from b (Set x y) = bit_from-lt from x
op_names-lt from b (Add x y) = bit_from-lt from x
op_names-lt from b (Copy x y) = or_lt 64 (bit_from from x) (read_from from b y) (bit_from-lt from x) (read_from-lt from b y)
op_names-lt from b (AddVariable x y) = or_lt 64 (bit_from from x) (read_from from b y) (bit_from-lt from x) (read_from-lt from b y)
op_names-lt from b (SubVariable x y) = or_lt 64 (bit_from from x) (read_from from b y) (bit_from-lt from x) (read_from-lt from b y)
op_names-lt from b (Notify w) = omega arith

test_name-lt : (from : ℕ) (b : Bool) (c : Closer) → test_name from b c < 2 ^ 64
unfolding test_name
test_name-lt from b End = omega arith
test_name-lt from b (Time k x) = read_from-lt from b x.test
test_name-lt from b (Event w x) = read_from-lt from b x.test

names_in-lt : (from : ℕ) (b : Bool) (w : ℕ) (xs : List Statement) → w < 2 ^ 64 → names_in from b w xs < 2 ^ 64
unfolding names_in
names_in-lt from b w [] h = h
names_in-lt from b w (x ∷ xs) h = names_in-lt from b (bit_or w (op_names from b x.op)) xs (or_lt 64 w (op_names from b x.op) h (op_names-lt from b x.op))

pub names_of-lt : (from : ℕ) (b : Bool) (g : Segment) → names_of from b g < 2 ^ 64
unfolding names_of
names_of-lt from b g = or_lt 64 (names_in from b 0 (body_of g)) (test_name from b g.closer) (names_in-lt from b 0 (body_of g) (omega arith)) (test_name-lt from b g.closer)

-- the places of the buffer

pub stretch-length : (m : Model) (n : ℕ) (ws : List ℕ) (q : ℕ) → length (stretch m n ws q) ≡ length ws
unfolding stretch
stretch-length m n ws q = store_to-length _ (64 * q) ws n

pub stretches-length : (m : Model) (n : ℕ) (ws : List ℕ) (q : ℕ) → length (stretches m n ws q) ≡ length ws
unfolding stretches
stretches-length m n ws zero = refl
stretches-length m n ws (suc q) = stretch-length m n (stretches m n ws q) q ∙ stretches-length m n ws q

pub stretches-none : (m : Model) (n : ℕ) (ws : List ℕ) → ws ≡ stretches m n ws 0
unfolding stretches
stretches-none m n ws = refl

pub stretches-more : (m : Model) (n : ℕ) (ws : List ℕ) (q : ℕ) (vs us : List ℕ) → vs ≡ stretches m n ws q → us ≡ stretch m n vs q → us ≡ stretches m n ws (q + 1)
unfolding stretches
stretches-more m n ws q vs us e f = rw (add-one, ← e) f

pub stretches-at :
    (m : Model) (n : ℕ) (ws : List ℕ) (k q s : ℕ) → n ≤ 64 → k ≤ 4 → 256 ≤ length ws → q < k → s < n →
    get_or (stretches m n ws k) (64 * q + s) 0 ≡ name_word q (segment_at m s)
unfolding stretches stretch
stretches-at m n ws zero q s few le size l i = absurd (omega arith)
stretches-at m n ws (suc k) q s few le size l i = go (λ j. stretches-at m n ws k q s few (omega arith) size j i) (ℕ_discrete q k)
  where
    go : (q < k → get_or (stretches m n ws k) (64 * q + s) 0 ≡ name_word q (segment_at m s)) → Dec (q ≡ k) → get_or (stretches m n ws (suc k)) (64 * q + s) 0 ≡ name_word q (segment_at m s)
    go ih (yes e) =
        rw e
        (store_to-at (λ s vs. name_word k (segment_at m s)) (64 * k) (stretches m n ws k) 0 (λ s. name_word k (segment_at m s)) n s (64 * k + s) refl (λ j z. refl) i
        (omega (arith, stretches-length m n ws k)))
    go ih (no e) = store_to-other (λ s vs. name_word k (segment_at m s)) (64 * k) (stretches m n ws k) 0 n (64 * q + s) (inl (omega arith)) ∙ ih (omega arith)

-- as `fill_names` leaves a buffer

pub names_for-short : (m : Model) (ws : List ℕ) → length ws < 256 → ws ≡ names_for m ws
unfolding names_for
names_for-short m ws h = rw (lt-ltb (length ws) 256 h) refl

pub names_for-none : (m : Model) (ws : List ℕ) → 256 ≤ length ws → any_ports m.starts m.t ≡ false → ws ≡ names_for m ws
unfolding names_for
names_for-none m ws h e = rw (le-ltb (length ws) 256 h, e) refl

pub names_for-some : (m : Model) (ws vs : List ℕ) (n q : ℕ) → 256 ≤ length ws → any_ports m.starts m.t ≡ true → n ≡ min m.n 64 → q ≡ 4 → vs ≡ stretches m n ws q → vs ≡ names_for m ws
unfolding names_for
names_for-some m ws vs n q h e f g made = rw (le-ltb (length ws) 256 h, e, ← f, ← g) made
