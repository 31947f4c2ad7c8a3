-- What the words hold, bit by bit: the ports that each segment names, the segments that it reaches, and so what each thread lacks.
-- First the functions' exits and loops; then the bits; then `lacks_to-holds` and, where no segment names a port, `no-ports-holds`.
use Prim.Native.Nat.{ℕ, zero, suc, ◌+◌, ◌-◌, ◌≤◌, ◌<◌, ◌^◌, min}
use mathlib.Core.Path.{◌≡◌, refl, ap, ap₂, sym, ◌∙◌}
use mathlib.Core.Logic.{inr}
use mathlib.Core.Bool.{Bool, true, false, not, cond, ◌&&◌, ◌||◌, and-true, and_comm, or_assoc, or-false, or_self, or_self_left}
use mathlib.Core.List.{List, [], ◌∷◌, ◌++◌}
use native.Mathlib.Omega.{arith}
use native.Mathlib.Numerals.{add-one}
use native.Mathlib.Decide.{dec_lt, ℕ_discrete}
use lib.Bits.{bit_and, bit_or, and_le_r}
use lib.Dec.{T, ltb, eqb, eqb→eq, ltb→lt, lt→ltb}
use lib.ListN.{length, get_or, take, replicate, length-take, length-replicate, get_or-replicate}
use lib.Seq.{take-suc, take_all, get_or-take}
use Rattle.std.proofs.lemmas.List.{take_min}
use borrow.Author.Tests.{lt-ltb, le-ltb, eq-eqb, ne_eqb}
use Rattle.base.specs.Index.{any_below, store_to}
use Rattle.base.proofs.BoolLaws.{T-same, T→false, true→T, false→T, and→both, both→and}
use Rattle.base.proofs.IndexLaws.{any_below-same, any_below-empty, any_below-found, any_below-some, any_below-none, store_to-length, store_to-other, store_to-at}
use Rattle.masks.specs.Mask.{bit_at, with_bit, mask_of}
use Rattle.masks.proofs.MaskLaws.{bit_at-zero, bit_at-and, bit_at-or, bit_at-some, bit_at-with_bit-below, bit_at-mask_of, mask_of-lt}
use Rattle.masks.proofs.Computed.{computed}
use Rattle.model.specs.declared.Op.{Op}
use Rattle.model.specs.declared.Op.TheVariants.{Set, Add, Copy, AddVariable, SubVariable, Notify}
use Rattle.model.specs.declared.Statement.{Statement}
use Rattle.model.specs.declared.Closer.{Closer}
use Rattle.model.specs.declared.Closer.TheVariants.{End, Time, Event}
use Rattle.model.specs.declared.Segment.{Segment}
use Rattle.model.specs.declared.Start.{Start}
use Rattle.model.specs.declared.Model.{Model}
use Rattle.model.specs.Port.{unused, port_of}
use Rattle.model.specs.Values.{no_start, segment_at, start_at, ports_at, body_of}
use Rattle.model.specs.Footprint.{writes_op, reads_op, writes, reads, tests, tests_next, writes_of, uses_of, names_port}
use Rattle.model.specs.Reach.{goes_to, steps_to, reaches_below, reaches, lacks_port, lacks_from}
use Rattle.model_reach.specs.Lacks.{HoldsLacks}
use Rattle.model_reach.specs.Store.{port_bit, op_ports, test_port, ports_in, ports_of, ports_to, first_row, first_rows, joined, round_to, rounds_to, reach_rows, meets, unused_of, lack_of, lacks_to, lacks_by}

zeros : (n : ℕ) → length (replicate n zero) ≡ n
zeros n = length-replicate n zero

-- exits and loops

pub port_bit-none : (x : ℕ) → x < 128 → 0 ≡ port_bit x
unfolding port_bit
port_bit-none x h = rw (lt-ltb x 128 h) refl

pub port_bit-some : (x w : ℕ) → 128 ≤ x → w ≡ with_bit 0 (x - 128) → w ≡ port_bit x
unfolding port_bit
port_bit-some x w h e = rw (le-ltb x 128 h) e

ports_in-last : (w : ℕ) (xs : List Statement) (x : Statement) → ports_in w (xs ++ (x ∷ [])) ≡ bit_or (ports_in w xs) (op_ports x.op)
unfolding ports_in
ports_in-last w [] x = refl
ports_in-last w (y ∷ xs) x = ports_in-last (bit_or w (op_ports y.op)) xs x

pub ports_in-none : (xs : List Statement) → 0 ≡ ports_in 0 (take 0 xs)
unfolding ports_in
ports_in-none xs = refl

pub ports_in-more :
    (xs : List Statement) (j : ℕ) (d : Statement) (w o : ℕ) → j < length xs → w ≡ ports_in 0 (take j xs) → o ≡ op_ports (get_or xs j d).op →
    bit_or w o ≡ ports_in 0 (take (j + 1) xs)
ports_in-more xs j d w o h e f = rw (add-one, take-suc xs j d h, ports_in-last 0 (take j xs) (get_or xs j d)) (ap₂ bit_or e f)

pub ports_of-made :
    (g : Segment) (j w o : ℕ) (xs : List Statement) → xs ≡ take (min g.n (length g.statements)) g.statements → length xs ≤ j →
    w ≡ ports_in 0 (take j xs) → o ≡ test_port g.closer → bit_or w o ≡ ports_of g
unfolding ports_of body_of
ports_of-made g j w o xs h l e f = ap₂ bit_or (e ∙ ap (ports_in 0) (take_all j xs l ∙ h ∙ take_min g.n g.statements)) f

pub joined-over : (w over k : ℕ) → bit_at w k ≡ true → bit_or w over ≡ joined w over k
unfolding joined
joined-over w over k e = rw e

pub joined-left : (w over k : ℕ) → bit_at w k ≡ false → w ≡ joined w over k
unfolding joined
joined-left w over k e = rw e

pub round_to-length : (ws : List ℕ) (k n : ℕ) → length (round_to ws k n) ≡ length ws
unfolding round_to
round_to-length ws k n = store_to-length _ 0 ws n

pub rounds_to-length : (ws : List ℕ) (n k : ℕ) → length (rounds_to ws n k) ≡ length ws
unfolding rounds_to
rounds_to-length ws n zero = refl
rounds_to-length ws n (suc k) = round_to-length (rounds_to ws n k) k n ∙ rounds_to-length ws n k

pub rounds_to-none : (ws : List ℕ) (n : ℕ) → ws ≡ rounds_to ws n 0
unfolding rounds_to
rounds_to-none ws n = refl

pub rounds_to-more : (ws : List ℕ) (n k : ℕ) (vs us : List ℕ) → vs ≡ rounds_to ws n k → us ≡ round_to vs k n → us ≡ rounds_to ws n (k + 1)
unfolding rounds_to
rounds_to-more ws n k vs us e f = rw (add-one, ← e) f

-- ports

-- below 64 a number is bit p where it is 128 + p
pub port_bit-at : (x p : ℕ) → p < 64 → bit_at (port_bit x) p ≡ eqb x (128 + p)
port_bit-at x p h = go (dec_lt x 128) (ℕ_discrete (x - 128) p)
  where
    go : Dec (x < 128) → Dec (x - 128 ≡ p) → bit_at (port_bit x) p ≡ eqb x (128 + p)
    go (yes l) _ = rw (← port_bit-none x l, ne_eqb x (128 + p) (λ e. omega arith)) (bit_at-zero p)
    go (no l) (yes e) =
        rw (← port_bit-some x _ (omega arith) refl, eq-eqb x (128 + p) (omega arith))
        (bit_at-with_bit-below 0 (x - 128) p h ∙ rw (bit_at-zero p) (eq-eqb (x - 128) p e))
    go (no l) (no e) =
        rw (← port_bit-some x _ (omega arith) refl, ne_eqb x (128 + p) (λ f. e (omega arith)))
        (bit_at-with_bit-below 0 (x - 128) p h ∙ rw (bit_at-zero p) (ne_eqb (x - 128) p e))

module _ (p : ℕ) (h : p < 64) where
  two_at : (a b : ℕ) → bit_at (bit_or (port_bit a) (port_bit b)) p ≡ (eqb a (128 + p) || eqb b (128 + p))
  two_at a b = bit_at-or (port_bit a) (port_bit b) p ∙ ap₂ ◌||◌ (port_bit-at a p h) (port_bit-at b p h)

  op_ports-at : (o : Op) → bit_at (op_ports o) p ≡ (writes_op o (128 + p) || reads_op o (128 + p))
  unfolding op_ports
  op_ports-at (Set a b) = port_bit-at a p h ∙ sym (or-false (eqb a (128 + p)))
  op_ports-at (Add a b) = port_bit-at a p h ∙ sym (or_self (eqb a (128 + p)))
  op_ports-at (Copy a b) = two_at a b
  op_ports-at (AddVariable a b) = two_at a b ∙ sym (or_self_left (eqb a (128 + p)) (eqb b (128 + p)))
  op_ports-at (SubVariable a b) = two_at a b ∙ sym (or_self_left (eqb a (128 + p)) (eqb b (128 + p)))
  op_ports-at (Notify w) = bit_at-zero p

  or_swap : (a b c d e : Bool) → ((a || (b || c)) || (d || e)) ≡ (a || ((b || d) || (c || e)))
  or_swap true b c d e = refl
  or_swap false true c d e = refl
  or_swap false false true true e = refl
  or_swap false false true false e = refl
  or_swap false false false d e = refl

  ports_in-at : (w : ℕ) (xs : List Statement) → bit_at (ports_in w xs) p ≡ (bit_at w p || (writes xs (128 + p) || reads xs (128 + p)))
  unfolding ports_in writes reads
  ports_in-at w [] = sym (or-false (bit_at w p))
  ports_in-at w (x ∷ xs) =
      ports_in-at (bit_or w (op_ports x.op)) xs
      ∙ rw (bit_at-or w (op_ports x.op) p, op_ports-at x.op)
      (or_swap (bit_at w p) (writes_op x.op (128 + p)) (reads_op x.op (128 + p)) (writes xs (128 + p)) (reads xs (128 + p)))

  -- 255 is no port
  tests_next-at : (x : ℕ) → bit_at (port_bit x) p ≡ (not (eqb x 255) && eqb x (128 + p))
  tests_next-at x = port_bit-at x p h ∙ go (ℕ_discrete x 255)
    where
      go : Dec (x ≡ 255) → eqb x (128 + p) ≡ (not (eqb x 255) && eqb x (128 + p))
      go (yes e) = rw (ne_eqb x (128 + p) (λ f. omega arith), eq-eqb x 255 e) refl
      go (no e) = rw (ne_eqb x 255 e) refl

  test_port-at : (c : Closer) → bit_at (test_port c) p ≡ tests c (128 + p)
  unfolding test_port tests tests_next
  test_port-at End = bit_at-zero p
  test_port-at (Time k x) = tests_next-at x.test
  test_port-at (Event w x) = tests_next-at x.test

  pub ports_of-at : (g : Segment) → bit_at (ports_of g) p ≡ uses_of g (128 + p)
  unfolding ports_of uses_of writes_of
  ports_of-at g =
      bit_at-or (ports_in 0 (body_of g)) (test_port g.closer) p
      ∙ ap₂ ◌||◌ (ports_in-at 0 (body_of g) ∙ ap (λ (b : Bool). b || (writes (body_of g) (128 + p) || reads (body_of g) (128 + p))) (bit_at-zero p)) (test_port-at g.closer)

pub ports_to-at : (m : Model) (n s p : ℕ) → n ≤ 64 → s < n → p < 64 → bit_at (get_or (ports_to m n) s 0) p ≡ names_port m s p
unfolding ports_to names_port
ports_to-at m n s p h l k =
    ap (λ (w : ℕ). bit_at w p)
    (store_to-at (λ s ws. ports_of (segment_at m s)) 0 (replicate 64 0) 0 (λ s. ports_of (segment_at m s)) n s s (omega arith) (λ j i. refl) l
    (omega (arith, zeros 64)))
    ∙ ports_of-at p k (segment_at m s)

-- rows

first_row-at : (c : Closer) (r s : ℕ) → s < 64 → bit_at (first_row c r) s ≡ (eqb r s || steps_to c s)
unfolding first_row steps_to goes_to
first_row-at c r s h = go c
  where
    own : bit_at (with_bit 0 r) s ≡ eqb r s
    own = bit_at-with_bit-below 0 r s h ∙ rw (bit_at-zero s) refl

    both : (a b : ℕ) → bit_at (with_bit (with_bit (with_bit 0 r) a) b) s ≡ (eqb r s || (eqb a s || eqb b s))
    both a b =
        bit_at-with_bit-below (with_bit (with_bit 0 r) a) b s h
        ∙ rw (bit_at-with_bit-below (with_bit 0 r) a s h, own) (or_assoc (eqb r s) (eqb a s) (eqb b s))

    go : (c : Closer) → bit_at (first_row c r) s ≡ (eqb r s || steps_to c s)
    go End = own ∙ sym (or-false (eqb r s))
    go (Time k x) = both x.a x.b
    go (Event e x) = both x.a x.b

joined_at : (w over k s : ℕ) → bit_at (joined w over k) s ≡ (bit_at w s || (bit_at w k && bit_at over s))
unfolding joined
joined_at w over k s = go (bit_at w k)
  where
    go : (b : Bool) → bit_at (cond b (bit_or w over) w) s ≡ (bit_at w s || (b && bit_at over s))
    go true = bit_at-or w over s
    go false = sym (or-false (bit_at w s))

-- every row is joined as it stood before the round
round_to-at : (ws : List ℕ) (k n r : ℕ) → r < n → n ≤ length ws → get_or (round_to ws k n) r 0 ≡ joined (get_or ws r 0) (get_or ws k 0) k
unfolding round_to
round_to-at ws k n r h l =
    store_to-at (λ r vs. joined (get_or vs r 0) (get_or ws k 0) k) 0 ws 0 (λ r. joined (get_or ws r 0) (get_or ws k 0) k) n r r (omega arith)
    (λ j i. ap (λ (w : ℕ). joined w (get_or ws k 0) k) (store_to-other _ 0 ws 0 j j (inr (omega arith)))) h (omega arith)

-- after k rounds: with only the segments below k between
pub rows_at :
    (m : Model) (n k r s : ℕ) → n ≤ 64 → k ≤ n → r < n → s < 64 →
    bit_at (get_or (rounds_to (first_rows m (replicate 64 0) n) n k) r 0) s ≡ reaches_below m k r s
unfolding rounds_to reaches_below first_rows
rows_at m n zero r s h i l j =
    ap (λ (w : ℕ). bit_at w s)
    (store_to-at (λ r ws. first_row (segment_at m r).closer r) 0 (replicate 64 0) 0 (λ r. first_row (segment_at m r).closer r) n r r (omega arith)
    (λ j i. refl) l (omega (arith, zeros 64)))
    ∙ first_row-at (segment_at m r).closer r s j
rows_at m n (suc k) r s h i l j =
    ap (λ (w : ℕ). bit_at w s) (round_to-at ws k n r l size)
    ∙ (joined_at (get_or ws r 0) (get_or ws k 0) k s
    ∙ ap₂ ◌||◌ (rows_at m n k r s h (omega arith) l j)
    (ap₂ ◌&&◌ (rows_at m n k r k h (omega arith) l (omega arith)) (rows_at m n k k s h (omega arith) (omega arith) j)))
  where
    ws : List ℕ
    ws = rounds_to (first_rows m (replicate 64 0) n) n k

    size : n ≤ length ws
    size = omega (arith, rounds_to-length (first_rows m (replicate 64 0) n) n k, store_to-length (λ r ws. first_row (segment_at m r).closer r) 0 (replicate 64 0) n, zeros 64)

-- words with a bit in common

any_below-cut : (k n : ℕ) (f : ℕ → Bool) → n ≤ k → any_below k (λ i. ltb i n && f i) ≡ any_below n f
any_below-cut k n f h = T-same (any_below k (λ i. ltb i n && f i)) (any_below n f) into back
  where
    into : T (any_below k (λ i. ltb i n && f i)) → T (any_below n f)
    into t =
        let (i, l, u) = any_below-some k (λ i. ltb i n && f i) t in
        let (a, b) = and→both (ltb i n) (f i) u in
        any_below-found n f i (ltb→lt i n a) b

    back : T (any_below n f) → T (any_below k (λ i. ltb i n && f i))
    back t =
        let (i, l, u) = any_below-some n f t in
        any_below-found k (λ i. ltb i n && f i) i (omega arith) (both→and (ltb i n) (f i) (lt→ltb i n l) u)

and-swap : (a b c : Bool) → (a && (b && c)) ≡ (b && (a && c))
and-swap true b c = refl
and-swap false true c = refl
and-swap false false c = refl

pub meets_at :
    (ws : List ℕ) (w n i : ℕ) (f g : ℕ → Bool) → n ≤ 64 → w < 2 ^ 64 → ((j : ℕ) → j < 64 → bit_at (get_or ws i 0) j ≡ f j) →
    ((j : ℕ) → j < 64 → bit_at w j ≡ (ltb j n && g j)) → meets ws w i ≡ any_below n (λ j. f j && g j)
unfolding meets
meets_at ws w n i f g h small a b =
    bit_at-some (bit_and (get_or ws i 0) w) (omega (arith, and_le_r (get_or ws i 0) w))
    ∙ (any_below-same 64 (bit_at (bit_and (get_or ws i 0) w)) (λ j. ltb j n && (f j && g j))
    (λ j l. bit_at-and (get_or ws i 0) w j ∙ (ap₂ ◌&&◌ (a j l) (b j l) ∙ and-swap (f j) (ltb j n) (g j)))
    ∙ any_below-cut 64 n (λ j. f j && g j) h)

-- what a thread lacks

-- a bit for each segment that lacks a port
lacking-at :
    (m : Model) (k s : ℕ) → m.n ≤ 64 → s < m.n → meets (ports_to m m.n) (unused_of (ports_at m k)) s ≡ lacks_port m k s
unfolding unused_of lacks_port
lacking-at m k s h l =
    meets_at (ports_to m m.n) (unused_of (ports_at m k)) 8 s (names_port m s) (λ p. eqb (port_of (ports_at m k) p) unused) (omega arith)
    (mask_of-lt (λ p. eqb (port_of (ports_at m k) p) unused) 8) (λ p i. ports_to-at m m.n s p h l i)
    (λ p i. bit_at-mask_of (λ p. eqb (port_of (ports_at m k) p) unused) 8 p (omega arith))

pub lack_of-at :
    (m : Model) (k r : ℕ) → m.n ≤ 64 → r < m.n → bit_at (lack_of (ports_to m m.n) (reach_rows m m.n) m.n (ports_at m k)) r ≡ lacks_from m k r
unfolding lack_of reach_rows lacks_from reaches
lack_of-at m k r h l =
    bit_at-mask_of (meets rows lacking) m.n r h
    ∙ (rw (lt-ltb r m.n l)
    (meets_at rows lacking m.n r (reaches m r) (lacks_port m k) h (mask_of-lt (meets names (unused_of (ports_at m k))) m.n)
    (λ s j. rows_at m m.n m.n r s h (omega arith) l j) (λ s j. bits s (dec_lt s m.n)))
    ∙ any_below-same m.n (λ s. reaches m r s && lacks_port m k s) (λ s. lacks_port m k s && reaches m r s) (λ s j. and_comm (reaches m r s) (lacks_port m k s)))
  where
    names : List ℕ
    names = ports_to m m.n

    rows : List ℕ
    rows = reach_rows m m.n

    lacking : ℕ
    lacking = mask_of (meets names (unused_of (ports_at m k))) m.n

    bits : (s : ℕ) → Dec (s < m.n) → bit_at lacking s ≡ (ltb s m.n && lacks_port m k s)
    bits s (yes j) = bit_at-mask_of (meets names (unused_of (ports_at m k))) m.n s h ∙ ap (λ (b : Bool). ltb s m.n && b) (lacking-at m k s h j)
    bits s (no j) = bit_at-mask_of (meets names (unused_of (ports_at m k))) m.n s h ∙ rw (le-ltb s m.n (omega arith)) refl

pub lacks_to-holds : (m : Model) (ws : List ℕ) (n : ℕ) → n ≡ min m.n 64 → ws ≡ lacks_to m.starts (ports_to m n) (reach_rows m n) n 32 → HoldsLacks m ws
unfolding lacks_to ports_at start_at
lacks_to-holds m ws n e f = record { places = rw f (store_to-length _ 0 (replicate 32 0) 32 ∙ zeros 32); bits = λ h k r i l. go h k r i l (omega arith) }
  where
    go : m.n ≤ 64 → (k r : ℕ) → k < 32 → r < m.n → n ≡ m.n → bit_at (get_or ws k 0) r ≡ lacks_from m k r
    go h k r i l same =
        rw (f, same)
        (ap (λ (w : ℕ). bit_at w r)
        (store_to-at (λ i ws. lack_of (ports_to m m.n) (reach_rows m m.n) m.n (get_or m.starts i no_start).ports) 0 (replicate 32 0) 0
        (λ i. lack_of (ports_to m m.n) (reach_rows m m.n) m.n (ports_at m i)) 32 k k (omega arith) (λ j i. refl) i
        (omega (arith, zeros 32)))
        ∙ lack_of-at m k r h l)

-- no segment names a port

all-ports : 255 ≡ mask_of (λ p. true) 8
unfolding computed
all-ports = refl

-- a mask of 0 has no number
mask_of-zero : (f : ℕ → Bool) (n i : ℕ) → n ≤ 64 → i < n → mask_of f n ≡ 0 → f i ≡ false
mask_of-zero f n i h l z =
    ap (λ (b : Bool). b && f i) (sym (lt-ltb i n l)) ∙ (sym (bit_at-mask_of f n i h) ∙ (ap (λ (w : ℕ). bit_at w i) z ∙ bit_at-zero i))

no_names : (m : Model) (s p : ℕ) → m.n ≤ 64 → s < m.n → p < 8 → mask_of (meets (ports_to m m.n) 255) m.n ≡ 0 → names_port m s p ≡ false
no_names m s p h l i z =
    T→false (names_port m s p)
    (rw (and-true (names_port m s p)) at (any_below-none 8 (λ p. names_port m s p && true) (false→T (any_below 8 (λ p. names_port m s p && true)) none) p i))
  where
    none : any_below 8 (λ p. names_port m s p && true) ≡ false
    none =
        sym
        (meets_at (ports_to m m.n) 255 8 s (names_port m s) (λ p. true) (omega arith) (omega arith) (λ p j. ports_to-at m m.n s p h l j)
        (λ p j. rw all-ports (bit_at-mask_of (λ p. true) 8 p (omega arith))))
        ∙ mask_of-zero (meets (ports_to m m.n) 255) m.n s h l z

no-lacks : (m : Model) (k r : ℕ) → m.n ≤ 64 → mask_of (meets (ports_to m m.n) 255) m.n ≡ 0 → lacks_from m k r ≡ false
unfolding lacks_from lacks_port
no-lacks m k r h z =
    any_below-empty m.n (λ s. lacks_port m k s && reaches m r s) (λ s l. ap (λ (b : Bool). b && reaches m r s) (none s l))
  where
    none : (s : ℕ) → s < m.n → lacks_port m k s ≡ false
    none s l =
        any_below-empty 8 (λ p. names_port m s p && eqb (port_of (ports_at m k) p) unused)
        (λ p i. ap (λ (b : Bool). b && eqb (port_of (ports_at m k) p) unused) (no_names m s p h l i z))

pub no-ports-holds :
    (m : Model) (ws : List ℕ) (n : ℕ) → n ≡ min m.n 64 → mask_of (meets (ports_to m n) 255) n ≡ 0 → ws ≡ replicate 32 0 → HoldsLacks m ws
no-ports-holds m ws n e z f = record { places = rw f (zeros 32); bits = λ h k r i l. go h k r i (omega arith) }
  where
    go : m.n ≤ 64 → (k r : ℕ) → k < 32 → n ≡ m.n → bit_at (get_or ws k 0) r ≡ lacks_from m k r
    go h k r i same =
        rw (f, get_or-replicate {A = ℕ} 32 k 0 0 i) (bit_at-zero r ∙ sym (no-lacks m k r h (rw same at z)))

-- of all threads
pub lacks_by-holds :
    (m : Model) (ws : List ℕ) (n : ℕ) → n ≡ min m.n 64 → ws ≡ lacks_by m.starts (ports_to m n) (first_rows m (replicate 64 0) n) n → HoldsLacks m ws
unfolding lacks_by reach_rows
lacks_by-holds m ws n e f = go (eqb (mask_of (meets (ports_to m n) 255) n) 0) refl
  where
    go : (b : Bool) → eqb (mask_of (meets (ports_to m n) 255) n) 0 ≡ b → HoldsLacks m ws
    go true q = no-ports-holds m ws n e (eqb→eq (mask_of (meets (ports_to m n) 255) n) 0 (true→T _ q)) (f ∙ rw q refl)
    go false q = lacks_to-holds m ws n e (f ∙ rw q refl)

-- what is made of the first n names and rows hangs on those alone

mask_of-same : (f g : ℕ → Bool) (n : ℕ) → ((i : ℕ) → i < n → f i ≡ g i) → mask_of f n ≡ mask_of g n
unfolding mask_of
mask_of-same f g zero h = refl
mask_of-same f g (suc n) h = ap₂ (λ (b : Bool) (w : ℕ). cond b (with_bit w n) w) (h n (omega arith)) (mask_of-same f g n (λ i l. h i (omega arith)))

meeting-same : (ws vs : List ℕ) (w n : ℕ) → ((i : ℕ) → i < n → get_or ws i 0 ≡ get_or vs i 0) → mask_of (meets ws w) n ≡ mask_of (meets vs w) n
unfolding meets
meeting-same ws vs w n h = mask_of-same (meets ws w) (meets vs w) n (λ i l. ap (λ (x : ℕ). not (eqb (bit_and x w) 0)) (h i l))

rounds_to-take :
    (ws : List ℕ) (n k r : ℕ) → n ≤ length ws → k ≤ n → r < n → get_or (rounds_to (take n ws) n k) r 0 ≡ get_or (rounds_to ws n k) r 0
unfolding rounds_to
rounds_to-take ws n zero r h i l = get_or-take n ws r 0 l
rounds_to-take ws n (suc k) r h i l =
    round_to-at (rounds_to (take n ws) n k) k n r l (omega (arith, rounds_to-length (take n ws) n k, length-take n ws))
    ∙ (ap₂ (λ (a b : ℕ). joined a b k) (rounds_to-take ws n k r h (omega arith) l) (rounds_to-take ws n k k h (omega arith) (omega arith))
    ∙ sym (round_to-at (rounds_to ws n k) k n r l (omega (arith, rounds_to-length ws n k))))

-- so the rest of both arrays does not count
pub lacks_by-take :
    (starts : List Start) (names rows : List ℕ) (n : ℕ) → n ≤ length rows → lacks_by starts (take n names) (take n rows) n ≡ lacks_by starts names rows n
unfolding lacks_by lacks_to lack_of
lacks_by-take starts names rows n h =
    ap₂ (λ (w : ℕ) (f : ℕ → List ℕ → ℕ). cond (eqb w 0) (replicate 32 0) (store_to f 0 (replicate 32 0) 32)) (meeting-same (take n names) names 255 n front) same
  where
    front : (i : ℕ) → i < n → get_or (take n names) i 0 ≡ get_or names i 0
    front i l = get_or-take n names i 0 l

    lack : List ℕ → List ℕ → List ℕ → ℕ
    lack vs ws ps = mask_of (meets ws (mask_of (meets vs (unused_of ps)) n)) n

    alike : (ps : List ℕ) → lack (take n names) (rounds_to (take n rows) n n) ps ≡ lack names (rounds_to rows n n) ps
    alike ps =
        meeting-same (rounds_to (take n rows) n n) (rounds_to rows n n) _ n (λ i l. rounds_to-take rows n n i h (omega arith) l)
        ∙ ap (λ (w : ℕ). mask_of (meets (rounds_to rows n n) w) n) (meeting-same (take n names) names (unused_of ps) n front)

    same : ◌≡◌ {A = ℕ → List ℕ → ℕ} (λ i ws. lack (take n names) (rounds_to (take n rows) n n) (get_or starts i no_start).ports) (λ i ws. lack names (rounds_to rows n n) (get_or starts i no_start).ports)
    same = λ q i ws. alike (get_or starts i no_start).ports q

module _ (starts : List Start) (names rows : List ℕ) (n : ℕ) where
  pub lacks_by-none : mask_of (meets names 255) n ≡ 0 → replicate 32 0 ≡ lacks_by starts names rows n
  unfolding lacks_by
  lacks_by-none e = rw (eq-eqb (mask_of (meets names 255) n) 0 e) refl

  pub lacks_by-some : (mask_of (meets names 255) n ≡ 0 → ⊥) → lacks_to starts names (rounds_to rows n n) n 32 ≡ lacks_by starts names rows n
  unfolding lacks_by
  lacks_by-some h = rw (ne_eqb (mask_of (meets names 255) n) 0 h) refl

pub lacks-holds :
    (m : Model) (ws names rows : List ℕ) (n s : ℕ) → n ≡ min m.n 64 → s ≡ n → names ≡ ports_to m s → rows ≡ first_rows m (replicate 64 0) s →
    ws ≡ lacks_by m.starts (take n names) (take n rows) (length (take n names)) → HoldsLacks m ws
unfolding ports_to first_rows
lacks-holds m ws names rows n s e h p q f =
    let sized : (xs : List ℕ) (g : ℕ → List ℕ → ℕ) → xs ≡ store_to g 0 (replicate 64 0) s → length xs ≡ 64 =
    λ xs g k. ap length k ∙ (store_to-length g 0 (replicate 64 0) s ∙ zeros 64) in
    let l : length (take n names) ≡ n = omega (arith, length-take n names, sized names _ p) in
    lacks_by-holds m ws n e (f ∙ (ap (lacks_by m.starts (take n names) (take n rows)) l ∙ (lacks_by-take m.starts names rows n (omega (arith, sized rows _ q)) ∙ rw (p, q, h) refl)))
