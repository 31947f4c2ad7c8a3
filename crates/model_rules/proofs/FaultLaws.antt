-- The exits of the functions that look for a first fault, and of those that look for a target that leaves the model.
--     unless-kept, unless-broken, unless-zero, unless-both, unless-either     a rule's number; that of two rules together
--     fault-here, fault-later     the first of two faults
--     segment_at-read, start_at-read     what the code reads is what the definitions name; segment_at-past, start_at-past
--     segment_at-taken, start_at-taken, statement_fault-taken, closer-taken     the same in the part of a list that the code goes over
--     statements_fault-here, statements_fault-none     the loop over statements
--     placed_fault-here, placed_fault-end     a loop over those that there are places for
--     segment_leaves-here, segment_leaves-end, any_start_leaves-here, any_start_leaves-end     whether one leaves the model
--     ports_fault-here, ports_fault-none, lack_fault-here, lack_fault-end     the loops over ports, and over what threads lack
use Prim.Native.Nat.{ℕ, ◌<◌, ◌≤◌, min}
use mathlib.Core.Path.{◌≡◌, refl, ap, sym, ◌∙◌}
use mathlib.Core.Bool.{Bool, true, false, not, ◌&&◌, ◌||◌}
use native.Mathlib.Omega.{arith}
use native.Mathlib.Decide.{dec_lt, dec_le}
use mathlib.Core.List.{List}
use lib.Dec.{ltb, leb, eqb}
use lib.ListN.{length, get_or, take, get_or-eq_default, length-take}
use lib.Seq.{get_or-take}
use borrow.Author.Tests.{lt-ltb, le-ltb, le-leb, lt-leb}
use Rattle.base.specs.Index.{or_else, first_below}
use Rattle.base.proofs.IndexLaws.{any_below-empty, any_below-here, or_else-none, or_else-some, first_below-here, first_below-same}
use Rattle.base.proofs.ListLaws.{get_d_any}
use Rattle.model.specs.declared.Segment.{Segment}
use Rattle.model.specs.declared.Statement.{Statement}
use Rattle.model.specs.declared.Start.{Start}
use Rattle.model.specs.declared.Model.{Model}
use Rattle.model.specs.Port.{unused, port_of}
use Rattle.model.specs.Values.{no_statement, no_segment, no_start, segment_at, start_at}
use Rattle.model.specs.Rules.{unless, op_fault, statements_fault, leaves_model, any_segment_leaves, any_start_leaves, ports_fault, lack_fault}
use Rattle.model.specs.Reach.{lacks_from}
use Rattle.masks.specs.Mask.{bit_at}
use Rattle.model_reach.specs.Lacks.{HoldsLacks}

pub unless-kept : (t : Bool) (x : ℕ) → t ≡ true → unless t x ≡ 0
unless-kept t x e = rw e refl

pub unless-broken : (t : Bool) (x : ℕ) → t ≡ false → x ≡ unless t x
unless-broken t x e = rw e refl

-- a rule that gives no number is kept
pub unless-zero : (t : Bool) (x : ℕ) → (x ≡ 0 → ⊥) → unless t x ≡ 0 → t ≡ true
unless-zero true x n e = refl
unless-zero false x n e = absurd (n e)

-- two rules of one number
pub unless-both : (a b : Bool) (x : ℕ) → (x ≡ 0 → ⊥) → or_else (unless a x) (unless b x) ≡ unless (a && b) x
unless-both true b x n = or_else-none 0 (unless b x) refl
unless-both false b x n = or_else-some x (unless b x) n

pub unless-either : (a b : Bool) (x : ℕ) → (x ≡ 0 → ⊥) → or_else (unless (not a) x) (unless (not b) x) ≡ unless (not (a || b)) x
unless-either true b x n = or_else-some x (unless (not b) x) n
unless-either false b x n = or_else-none 0 (unless (not b) x) refl

pub fault-here : (a b x : ℕ) → x ≡ a → (x ≡ 0 → ⊥) → x ≡ or_else a b
fault-here a b x e n = e ∙ sym (or_else-some a b (λ z. n (e ∙ z)))

pub fault-later : (a b x : ℕ) → a ≡ 0 → x ≡ b → x ≡ or_else a b
fault-later a b x z e = e ∙ sym (or_else-none a b z)

-- the element that the code reads
pub segment_at-read : (m : Model) (i : ℕ) (d : Segment) → i < length m.segments → get_or m.segments i d ≡ segment_at m i
unfolding segment_at
segment_at-read m i d h = get_d_any m.segments i d no_segment h

pub segment_at-past : (m : Model) (i : ℕ) → length m.segments ≤ i → segment_at m i ≡ no_segment
unfolding segment_at
segment_at-past m i h = get_or-eq_default m.segments no_segment h

pub start_at-read : (m : Model) (k : ℕ) (d : Start) → k < length m.starts → get_or m.starts k d ≡ start_at m k
unfolding start_at
start_at-read m k d h = get_d_any m.starts k d no_start h

pub start_at-past : (m : Model) (k : ℕ) → length m.starts ≤ k → start_at m k ≡ no_start
unfolding start_at
start_at-past m k h = get_or-eq_default m.starts no_start h

-- the same in the part of the list that the code goes over
pub segment_at-taken : (m : Model) (n i : ℕ) (d : Segment) → i < length (take n m.segments) → get_or (take n m.segments) i d ≡ segment_at m i
segment_at-taken m n i d h =
    let l : length (take n m.segments) ≡ min n (length m.segments) = length-take n m.segments in
    get_or-take n m.segments i d (omega arith) ∙ segment_at-read m i d (omega arith)

pub start_at-taken : (m : Model) (n k : ℕ) (d : Start) → k < length (take n m.starts) → get_or (take n m.starts) k d ≡ start_at m k
start_at-taken m n k d h =
    let l : length (take n m.starts) ≡ min n (length m.starts) = length-take n m.starts in
    get_or-take n m.starts k d (omega arith) ∙ start_at-read m k d (omega arith)

-- the fault of statement j of g
unfoldable pub statement_fault : ℕ → ℕ → Segment → ℕ → ℕ
statement_fault v e g j = op_fault v e (get_or g.statements j no_statement).op

module _ (v e : ℕ) (g : Segment) where
  -- of the statement that the code reads
  pub statement_fault-taken : (n j x : ℕ) (d : Statement) → j < length (take n g.statements) → x ≡ op_fault v e (get_or (take n g.statements) j d).op → x ≡ statement_fault v e g j
  unfolding statement_fault
  statement_fault-taken n j x d h is =
      let l : length (take n g.statements) ≡ min n (length g.statements) = length-take n g.statements in
      is ∙ ap (λ (s : Statement). op_fault v e s.op) (get_or-take n g.statements j d (omega arith) ∙ get_d_any g.statements j d no_statement (omega arith))

  pub statements_fault-here : (j x : ℕ) → j < g.n → first_below j (statement_fault v e g) ≡ 0 → x ≡ statement_fault v e g j → (x ≡ 0 → ⊥) → x ≡ statements_fault v e g
  unfolding statements_fault statement_fault
  statements_fault-here j x l none here n = here ∙ sym (first_below-here j g.n (statement_fault v e g) l none (λ z. n (here ∙ z)))

  pub statements_fault-none : (j : ℕ) → j ≡ g.n → first_below j (statement_fault v e g) ≡ 0 → 0 ≡ statements_fault v e g
  unfolding statements_fault statement_fault
  statements_fault-none j h none = rw h at (sym none)

-- those that there are places for, and 4 for the first that there is none for
module _ (n most : ℕ) (f : ℕ → ℕ) where
  abbrev pub placed_fault : ℕ → ℕ
  placed_fault i = or_else (unless (ltb i most) 4) (f i)

  placed_fault-below : (i : ℕ) → i < most → placed_fault i ≡ f i
  placed_fault-below i l = or_else-none (unless (ltb i most) 4) (f i) (unless-kept (ltb i most) 4 (lt-ltb i most l))

  placed_fault-none : (k : ℕ) → k ≤ most → first_below k f ≡ 0 → first_below k placed_fault ≡ 0
  placed_fault-none k l none = first_below-same k placed_fault f (λ i h. placed_fault-below i (omega arith)) ∙ none

  pub placed_fault-here : (k x : ℕ) → k < n → k < most → first_below k f ≡ 0 → x ≡ f k → (x ≡ 0 → ⊥) → x ≡ first_below n placed_fault
  placed_fault-here k x l h none e not_0 =
      let here : x ≡ placed_fault k = e ∙ sym (placed_fault-below k h) in
      here ∙ sym (first_below-here k n placed_fault l (placed_fault-none k (omega arith) none) (λ z. not_0 (here ∙ z)))

  pub placed_fault-end : (k : ℕ) → k ≡ min n most → first_below k f ≡ 0 → unless (leb n most) 4 ≡ first_below n placed_fault
  placed_fault-end k e none = go (dec_le n most)
    where
      go : Dec (n ≤ most) → unless (leb n most) 4 ≡ first_below n placed_fault
      go (yes l) =
          let same : k ≡ n = omega arith in
          rw (le-leb n most l) (sym (rw same at (placed_fault-none k (omega arith) none)))
      go (no l) =
          let same : k ≡ most = omega arith in
          let full : placed_fault most ≡ 4 = or_else-some (unless (ltb most most) 4) (f most) (λ z. let b : unless (ltb most most) 4 ≡ 4 = rw (le-ltb most most (omega arith)) refl in omega arith) ∙ rw (le-ltb most most (omega arith)) refl in
          let before : first_below most placed_fault ≡ 0 = rw same at (placed_fault-none k (omega arith) none) in
          rw (lt-leb n most (omega arith)) (sym full ∙ sym (first_below-here most n placed_fault (omega arith) before (λ z. let q = sym full ∙ z in omega arith)))

-- the closer of the segment that the code reads
pub closer-taken : (n : ℕ) (gs : List Segment) (i : ℕ) (d : Segment) → i < length (take n gs) → (get_or gs i no_segment).closer ≡ (get_or (take n gs) i d).closer
closer-taken n gs i d h =
    let l : length (take n gs) ≡ min n (length gs) = length-take n gs in
    ap (λ (g : Segment). g.closer) (sym (get_or-take n gs i d (omega arith) ∙ get_d_any gs i d no_segment (omega arith)))

-- of a model with these segments
module _ (m : Model) (gs : List Segment) (same : m.segments ≡ gs) where
  leaves_at : ℕ → Bool
  leaves_at i = leaves_model m.n (segment_at m i).closer

  leaves_at-is : (i : ℕ) → leaves_at i ≡ leaves_model m.n (get_or gs i no_segment).closer
  unfolding leaves_at segment_at
  leaves_at-is i = ap (λ (l : List Segment). leaves_model m.n (get_or l i no_segment).closer) same

  pub segment_leaves-here : (i : ℕ) → i < m.n → leaves_model m.n (get_or gs i no_segment).closer ≡ true → true ≡ any_segment_leaves m
  unfolding any_segment_leaves leaves_at
  segment_leaves-here i l e = sym (any_below-here m.n leaves_at i l (leaves_at-is i ∙ e))

  -- past its places a model has segments that end
  segment_leaves-past : (i : ℕ) → length gs ≤ i → leaves_at i ≡ false
  unfolding leaves_model
  segment_leaves-past i h = leaves_at-is i ∙ rw (get_or-eq_default gs no_segment h) refl

  pub segment_leaves-end : (k : ℕ) → min m.n (length gs) ≤ k → ((i : ℕ) → i < k → leaves_model m.n (get_or gs i no_segment).closer ≡ false) → false ≡ any_segment_leaves m
  unfolding any_segment_leaves leaves_at
  segment_leaves-end k e below = sym (any_below-empty m.n leaves_at (λ i l. go i l (dec_lt i k)))
    where
      go : (i : ℕ) → i < m.n → Dec (i < k) → leaves_at i ≡ false
      go i l (yes j) = leaves_at-is i ∙ below i j
      go i l (no j) = segment_leaves-past i (omega arith)

-- whether thread k of m starts at a segment not below N
unfoldable pub start_leaves : Model → ℕ → Bool
start_leaves m k = not (ltb (start_at m k).first m.n)

module _ (m : Model) where
  pub start_leaves-above : (k : ℕ) → m.n ≤ (start_at m k).first → start_leaves m k ≡ true
  unfolding start_leaves
  start_leaves-above k h = rw (le-ltb _ _ h) refl

  pub start_leaves-below : (k : ℕ) → (start_at m k).first < m.n → start_leaves m k ≡ false
  unfolding start_leaves
  start_leaves-below k h = rw (lt-ltb _ _ h) refl

  pub any_start_leaves-here : (k : ℕ) → k < m.t → start_leaves m k ≡ true → true ≡ any_start_leaves m
  unfolding any_start_leaves start_leaves
  any_start_leaves-here k l e = sym (any_below-here m.t (start_leaves m) k l e)

  any_start_leaves-none : ((k : ℕ) → k < m.t → start_leaves m k ≡ false) → false ≡ any_start_leaves m
  unfolding any_start_leaves start_leaves
  any_start_leaves-none h = sym (any_below-empty m.t (start_leaves m) h)

  -- a thread that starts below N has an N above 0
  positive : start_leaves m 0 ≡ false → 0 < m.n
  unfolding start_leaves
  positive h = go (dec_lt (start_at m 0).first m.n)
    where
      go : Dec ((start_at m 0).first < m.n) → 0 < m.n
      go (yes l) = omega arith
      go (no l) = let e : not false ≡ false = rw (le-ltb (start_at m 0).first m.n (omega arith)) at h in let z : ◌≡◌ {A = ℕ} 0 1 = cc in absurd (omega arith)

  -- past its places a model has threads that start at 0
  start_leaves-past : (k : ℕ) → length m.starts ≤ k → start_leaves m 0 ≡ false → start_leaves m k ≡ false
  unfolding start_leaves
  start_leaves-past k h first = rw (start_at-past m k h, lt-ltb 0 m.n (positive first)) refl

  -- none of the first k leaves, and there are no more, or no more places
  pub any_start_leaves-end : (k : ℕ) → length m.starts ≡ 32 → (k < m.t → 32 ≤ k) → ((i : ℕ) → i < k → start_leaves m i ≡ false) → false ≡ any_start_leaves m
  any_start_leaves-end k size h below = any_start_leaves-none (λ i l. go i l (dec_lt i k))
    where
      go : (i : ℕ) → i < m.t → Dec (i < k) → start_leaves m i ≡ false
      go i l (yes j) = below i j
      go i l (no j) = let e : 32 ≤ k = h (omega arith) in start_leaves-past i (omega arith) (below 0 (omega arith))

-- whether port p is neither unused nor a variable of the model
unfoldable pub port_wrong : ℕ → List ℕ → ℕ → Bool
port_wrong v ps p = not (eqb (port_of ps p) unused || ltb (port_of ps p) v)

module _ (v : ℕ) (ps : List ℕ) where
  pub port_wrong-at : (p : ℕ) → (port_of ps p ≡ 255 → ⊥) → v ≤ port_of ps p → port_wrong v ps p ≡ true
  unfolding port_wrong
  port_wrong-at p n l = grind arith

  pub port_wrong-unused : (p : ℕ) → port_of ps p ≡ 255 → port_wrong v ps p ≡ false
  unfolding port_wrong
  port_wrong-unused p e = grind arith

  pub port_wrong-below : (p : ℕ) → port_of ps p < v → port_wrong v ps p ≡ false
  unfolding port_wrong
  port_wrong-below p l = grind arith

  pub ports_fault-here : (p : ℕ) → p < 8 → port_wrong v ps p ≡ true → 17 ≡ ports_fault v ps
  unfolding ports_fault port_wrong
  ports_fault-here p l e = rw (any_below-here 8 (port_wrong v ps) p l e) refl

  pub ports_fault-none : (p : ℕ) → 8 ≤ p → ((i : ℕ) → i < p → port_wrong v ps i ≡ false) → 0 ≡ ports_fault v ps
  unfolding ports_fault port_wrong
  ports_fault-none p h all = rw (any_below-empty 8 (port_wrong v ps) (λ i l. all i (omega arith))) refl

-- whether thread k can reach a port that it leaves unused
unfoldable pub start_lacks : Model → ℕ → Bool
start_lacks m k = lacks_from m k (start_at m k).first

module _ (m : Model) where
  pub start_lacks-read : (k : ℕ) (d : Start) (ws : List ℕ) (t : Bool) → HoldsLacks m ws → m.n ≤ 64 → k < 32 → length m.starts ≡ 32 → (start_at m k).first < m.n
      → bit_at (get_or ws k 0) (get_or m.starts k d).first ≡ t → start_lacks m k ≡ t
  unfolding start_lacks
  start_lacks-read k d ws t holds few l size below e =
      sym (holds.bits few k (start_at m k).first l below)
      ∙ (ap (λ (s : Start). bit_at (get_or ws k 0) s.first) (sym (start_at-read m k d (omega arith))) ∙ e)

  pub lack_fault-here : (k : ℕ) → k < m.t → start_lacks m k ≡ true → 18 ≡ lack_fault m
  unfolding lack_fault start_lacks
  lack_fault-here k l e = rw (any_below-here m.t (start_lacks m) k l e) refl

  pub lack_fault-end : (k : ℕ) → m.t ≤ 32 → (k < m.t → 32 ≤ k) → ((i : ℕ) → i < k → start_lacks m i ≡ false) → 0 ≡ lack_fault m
  unfolding lack_fault start_lacks
  lack_fault-end k few more below = rw (any_below-empty m.t (start_lacks m) (λ i l. below i (go i l (dec_lt i k)))) refl
    where
      go : (i : ℕ) → i < m.t → Dec (i < k) → i < k
      go i l (yes h) = h
      go i l (no h) = let b = more (omega arith) in absurd (omega arith)
