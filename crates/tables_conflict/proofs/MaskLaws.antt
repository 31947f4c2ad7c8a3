-- The bits say what a segment writes and uses, and the marks made of them are those of `marks_of`.
use Prim.Native.Nat.{ℕ, zero, suc, ◌+◌, ◌*◌, ◌%◌, ◌^◌, ◌≤◌, ◌<◌}
use mathlib.Core.Path.{◌≡◌, refl, ap, ap₂, sym, ◌∙◌}
use mathlib.Core.Bool.{Bool, true, false, not, ◌&&◌, ◌||◌, or-false, or_self, or_self_left}
use mathlib.Core.List.{List}
use native.Mathlib.Omega.{arith}
use native.Mathlib.Numerals.{add-one}
use native.Mathlib.Nat.{mod-eq_of_lt, one-mul}
use native.Mathlib.Decide.{ℕ_discrete}
use lib.Bits.{bit_and, bit_or, or_lt, and_le_l}
use lib.Dec.{ltb, eqb}
use lib.Pow.{pow-lt}
use lib.ListN.{length, get_or, take, length-take}
use lib.Seq.{get_or-take}
use borrow.Author.Tests.{lt-ltb, le-ltb, eq-eqb, ne_eqb}
use Rattle.base.specs.Index.{any_below}
use Rattle.base.proofs.IndexLaws.{any_below-same}
use Rattle.base.proofs.ListLaws.{get_d_any}
use Rattle.masks.specs.Mask.{bit_at, bit_of}
use Rattle.masks.proofs.MaskLaws.{bit_at-zero, bit_at-and, bit_at-or, bit_at-some, bit_at-bit_of, bit_of-lt}
use Rattle.model.specs.declared.Op.{Op}
use Rattle.model.specs.declared.Op.TheVariants.{Set, Add, Copy, AddVariable, SubVariable, Notify}
use Rattle.model.specs.declared.Statement.{Statement}
use Rattle.model.specs.declared.Closer.{Closer}
use Rattle.model.specs.declared.Closer.TheVariants.{End, Time, Event}
use Rattle.model.specs.declared.Segment.{Segment}
use Rattle.model.specs.Values.{no_statement, body_of}
use Rattle.model.specs.Footprint.{writes_op, reads_op, writes, reads, tests, tests_next, writes_of, uses_of}
use Rattle.model_effect.proofs.FootprintLaws.{asks-more, writes-asks, reads-asks}
use Rattle.tables_conflict.specs.declared.Masks.{Masks}
use Rattle.tables_conflict.specs.Mask.{masks, op_masks, test_mask, join_masks, masks_to, masks_of, clash}

-- exits

pub bit_of-none : (x : ℕ) → 64 ≤ x → 0 ≡ bit_of x
unfolding bit_of
bit_of-none x h = rw (le-ltb x 64 h) refl

pub bit_of-some : (x : ℕ) → x < 64 → 1 * 2 ^ x % 2 ^ 64 ≡ bit_of x
unfolding bit_of
bit_of-some x h = rw (lt-ltb x 64 h, one-mul) (mod-eq_of_lt (pow-lt h))

-- a variable below 64 has its own bit alone
bit-own : (x v : ℕ) → v < 64 → bit_at (bit_of x) v ≡ eqb x v
bit-own x v h = bit_at-bit_of x v ∙ go (ℕ_discrete x v)
  where
    go : Dec (x ≡ v) → (eqb x v && ltb x 64) ≡ eqb x v
    go (yes e) = rw (eq-eqb x v e, lt-ltb x 64 (omega arith)) refl
    go (no e) = rw (ne_eqb x v e) refl

-- two words, bit by bit: `writes` says f, `uses` says g, below 64
pub record Bits (a : Masks) (f g : ℕ → Bool) : Type 0 where
  pub writes_bits : (v : ℕ) → v < 64 → bit_at a.writes v ≡ f v
  pub uses_bits : (v : ℕ) → v < 64 → bit_at a.uses v ≡ g v

no_bits : Bits (masks 0 0) (λ v. false) (λ v. false)
no_bits = record { writes_bits = λ v h. bit_at-zero v; uses_bits = λ v h. bit_at-zero v }

own-bit : (a : ℕ) → Bits (masks (bit_of a) (bit_of a)) (λ v. eqb a v) (λ v. eqb a v)
own-bit a = record { writes_bits = λ v h. bit-own a v h; uses_bits = λ v h. bit-own a v h }

two-bits : (a b : ℕ) → Bits (masks (bit_of a) (bit_or (bit_of a) (bit_of b))) (λ v. eqb a v) (λ v. eqb a v || eqb b v)
two-bits a b =
    record {
      writes_bits = λ v h. bit-own a v h;
      uses_bits = λ v h. bit_at-or (bit_of a) (bit_of b) v ∙ ap₂ (λ (x y : Bool). x || y) (bit-own a v h) (bit-own b v h);
    }

-- said otherwise
Bits-same : {a : Masks} {f g i j : ℕ → Bool} → ((v : ℕ) → f v ≡ i v) → ((v : ℕ) → g v ≡ j v) → Bits a f g → Bits a i j
Bits-same p q b = record { writes_bits = λ v h. b.writes_bits v h ∙ p v; uses_bits = λ v h. b.uses_bits v h ∙ q v }

or_swap : (a b c d : Bool) → ((a || b) || (c || d)) ≡ ((a || c) || (b || d))
or_swap true b c d = refl
or_swap false true true d = refl
or_swap false true false d = refl
or_swap false false c d = refl

pub op_masks-bits : (o : Op) → Bits (op_masks o) (writes_op o) (λ v. writes_op o v || reads_op o v)
unfolding op_masks
op_masks-bits (Set a b) = Bits-same (λ v. refl) (λ v. sym (or-false (eqb a v))) (own-bit a)
op_masks-bits (Add a b) = Bits-same (λ v. refl) (λ v. sym (or_self (eqb a v))) (own-bit a)
op_masks-bits (Copy a b) = two-bits a b
op_masks-bits (AddVariable a b) = Bits-same (λ v. refl) (λ v. sym (or_self_left (eqb a v) (eqb b v))) (two-bits a b)
op_masks-bits (SubVariable a b) = Bits-same (λ v. refl) (λ v. sym (or_self_left (eqb a v) (eqb b v))) (two-bits a b)
op_masks-bits (Notify w) = no_bits

pub join_masks-bits : {a b : Masks} {f g i j : ℕ → Bool} → Bits a f g → Bits b i j → Bits (join_masks a b) (λ v. f v || i v) (λ v. g v || j v)
unfolding join_masks
join_masks-bits {a} {b} p q =
    record {
      writes_bits = λ v h. bit_at-or a.writes b.writes v ∙ ap₂ (λ (x y : Bool). x || y) (p.writes_bits v h) (q.writes_bits v h);
      uses_bits = λ v h. bit_at-or a.uses b.uses v ∙ ap₂ (λ (x y : Bool). x || y) (p.uses_bits v h) (q.uses_bits v h);
    }

-- the statements

pub masks_to-bits : (xs : List Statement) (j : ℕ) → j ≤ length xs → Bits (masks_to xs j) (writes (take j xs)) (λ v. writes (take j xs) v || reads (take j xs) v)
unfolding masks_to writes reads
masks_to-bits xs zero h = no_bits
masks_to-bits xs (suc j) h =
    Bits-same (λ v. asks-more (writes-asks v) xs j h)
    (λ v. or_swap (writes (take j xs) v) (reads (take j xs) v) (writes_op (get_or xs j no_statement).op v) (reads_op (get_or xs j no_statement).op v)
    ∙ ap₂ (λ (x y : Bool). x || y) (asks-more (writes-asks v) xs j h) (asks-more (reads-asks v) xs j h))
    (join_masks-bits (masks_to-bits xs j (omega arith)) (op_masks-bits (get_or xs j no_statement).op))

-- "The test variable counts as read."
tests_next-bit : (x v : ℕ) → v < 64 → bit_at (bit_of x) v ≡ (not (eqb x 255) && eqb x v)
tests_next-bit x v h = bit-own x v h ∙ go (ℕ_discrete x 255)
  where
    go : Dec (x ≡ 255) → eqb x v ≡ (not (eqb x 255) && eqb x v)
    go (yes e) = rw (ne_eqb x v (λ f. omega arith), eq-eqb x 255 e) refl
    go (no e) = rw (ne_eqb x 255 e) refl

pub test_mask-bit : (c : Closer) (v : ℕ) → v < 64 → bit_at (test_mask c) v ≡ tests c v
unfolding test_mask tests tests_next
test_mask-bit End v h = bit_at-zero v
test_mask-bit (Time k x) v h = tests_next-bit x.test v h
test_mask-bit (Event w x) v h = tests_next-bit x.test v h

pub masks_of-bits : (g : Segment) → g.n ≤ length g.statements → Bits (masks_of g) (writes_of g) (uses_of g)
unfolding masks_of writes_of uses_of body_of
masks_of-bits g h =
    let b = masks_to-bits g.statements g.n h in
    record {
      writes_bits = b.writes_bits;
      uses_bits = λ v l. bit_at-or (masks_to g.statements g.n).uses (test_mask g.closer) v ∙ ap₂ (λ (x y : Bool). x || y) (b.uses_bits v l) (test_mask-bit g.closer v l);
    }

-- all words are below 2 ^ 64

op_masks-lt : (o : Op) → (op_masks o).uses < 2 ^ 64
unfolding op_masks
op_masks-lt (Set a b) = bit_of-lt a
op_masks-lt (Add a b) = bit_of-lt a
op_masks-lt (Copy a b) = or_lt 64 (bit_of a) (bit_of b) (bit_of-lt a) (bit_of-lt b)
op_masks-lt (AddVariable a b) = or_lt 64 (bit_of a) (bit_of b) (bit_of-lt a) (bit_of-lt b)
op_masks-lt (SubVariable a b) = or_lt 64 (bit_of a) (bit_of b) (bit_of-lt a) (bit_of-lt b)
op_masks-lt (Notify w) = omega arith

test_mask-lt : (c : Closer) → test_mask c < 2 ^ 64
unfolding test_mask
test_mask-lt End = omega arith
test_mask-lt (Time k x) = bit_of-lt x.test
test_mask-lt (Event w x) = bit_of-lt x.test

masks_to-lt : (xs : List Statement) (j : ℕ) → (masks_to xs j).uses < 2 ^ 64
unfolding masks_to join_masks
masks_to-lt xs zero = omega arith
masks_to-lt xs (suc j) = or_lt 64 (masks_to xs j).uses (op_masks (get_or xs j no_statement).op).uses (masks_to-lt xs j) (op_masks-lt (get_or xs j no_statement).op)

pub masks_of-lt : (g : Segment) → (masks_of g).uses < 2 ^ 64
unfolding masks_of
masks_of-lt g = or_lt 64 (masks_to g.statements g.n).uses (test_mask g.closer) (masks_to-lt g.statements g.n) (test_mask-lt g.closer)

-- two segments clash where some bit below 64 says so

pub clash-bits :
    (a b : Masks) (f g i j : ℕ → Bool) → a.uses < 2 ^ 64 → Bits a f g → Bits b i j →
    clash a b ≡ any_below 64 (λ v. (g v && j v) && (f v || i v))
unfolding clash
clash-bits a b f g i j small p q = bit_at-some w w-lt ∙ any_below-same 64 (bit_at w) (λ v. (g v && j v) && (f v || i v)) w-bit
  where
    w : ℕ
    w = bit_and (bit_and a.uses b.uses) (bit_or a.writes b.writes)

    w-bit : (v : ℕ) → v < 64 → bit_at w v ≡ ((g v && j v) && (f v || i v))
    w-bit v l =
        bit_at-and (bit_and a.uses b.uses) (bit_or a.writes b.writes) v
        ∙ ap₂ (λ (x y : Bool). x && y)
        (bit_at-and a.uses b.uses v ∙ ap₂ (λ (x y : Bool). x && y) (p.uses_bits v l) (q.uses_bits v l))
        (bit_at-or a.writes b.writes v ∙ ap₂ (λ (x y : Bool). x || y) (p.writes_bits v l) (q.writes_bits v l))

    w-lt : w < 2 ^ 64
    w-lt = omega (arith, small, and_le_l a.uses b.uses, and_le_l (bit_and a.uses b.uses) (bit_or a.writes b.writes))

pub masks_to-none : (xs : List Statement) → masks 0 0 ≡ masks_to xs 0
unfolding masks_to
masks_to-none xs = refl

-- an item of the first n
pub front-read : {A : Type 0} (n : ℕ) (xs : List A) (i : ℕ) (d e : A) → i < length (take n xs) → get_or (take n xs) i d ≡ get_or xs i e
front-read n xs i d e h = let size = length-take n xs in get_or-take n xs i d (omega arith) ∙ get_d_any xs i d e (omega arith)

pub masks_to-more :
    (xs : List Statement) (n j : ℕ) (d : Statement) (a o b : Masks) → j < length (take n xs) → a ≡ masks_to xs j → o ≡ op_masks (get_or (take n xs) j d).op →
    b ≡ join_masks a o → b ≡ masks_to xs (j + 1)
unfolding masks_to
masks_to-more xs n j d a o b h e f g = rw add-one (g ∙ ap₂ join_masks e (f ∙ ap (λ (x : Statement). op_masks x.op) (front-read n xs j d no_statement h)))

pub masks_of-made : (g : Segment) (j t : ℕ) (a : Masks) → j ≡ g.n → a ≡ masks_to g.statements j → t ≡ test_mask g.closer → masks a.writes (bit_or a.uses t) ≡ masks_of g
unfolding masks_of
masks_of-made g j t a e f h = rw (f, h, e) refl
