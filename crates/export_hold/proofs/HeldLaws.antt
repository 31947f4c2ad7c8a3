-- What numbers that hold a model are known to have: `numbers_number xs ≡ 0` and `parts_fault xs ≡ 0`, taken apart.
--     held_or-kept, held_or-none     the model, or none
--     closer-next, closer-event, op-name     a closer and a statement without a fault
--     held-length, held-parts, held-lack     the length, the parts and 18
--     held-head, held-segment, held-count, held-targets, held-counts     the parts
--     held-statements, held-closer, held-op, held-leaves     segment i
--     held_next, held-event, held-name, held_first, held_start, held-port     the numbers that are bytes of a model
use Prim.Native.Nat.{ℕ, ◌+◌, ◌<◌, ◌≤◌}
use mathlib.Core.Path.{◌≡◌, refl}
use mathlib.Core.Logic.{◌⊎◌, inl, inr}
use mathlib.Core.Bool.{Bool, true, false, cond, not, ◌||◌}
use mathlib.Core.List.{List}
use native.Mathlib.Decide.{dec_le}
use native.Mathlib.Omega.{arith}
use lib.Dec.{T, eqb, ltb, leb, ltb→lt, leb→le, eqb→eq}
use lib.ListN.{length}
use borrow.Author.Tests.{eq-eqb, ne_eqb}
use Rattle.base.specs.Index.{any_below, tabulate}
use Rattle.base.proofs.BoolLaws.{T→false, true→T, not-not, or→either, not-or→both, eq→eqb}
use Rattle.base.proofs.IndexLaws.{any_below-none, or_else-zero, first_below-zero}
use Rattle.model.specs.declared.Op.{Op}
use Rattle.model.specs.declared.Op.TheVariants.{Set, Add, Copy, AddVariable, SubVariable, Notify}
use Rattle.model.specs.declared.Next.{Next}
use Rattle.model.specs.Port.{port_of}
use Rattle.model.specs.Values.{no_model}
use Rattle.model.specs.Footprint.{writes_op}
use Rattle.model.specs.Rules.{unless, head_fault, closer_fault, op_fault, ports_fault, leaves_model, lack_fault}
use Rattle.model_rules.proofs.FaultLaws.{unless-zero}
use Rattle.model_rules.proofs.RuleLaws.{Name, head_fault-counts, closer_fault-event, closer_fault-time-test, closer_fault-event-test, op_fault-writes, op_fault-notifies, leaves_model-time, leaves_model-event}
use Rattle.reader.specs.Closer.{closer_of}
use Rattle.reader.specs.Statement.{op_of}
use Rattle.export_model.specs.Numbers.{number_at, count_n, count_t, segment_place, statement_place, start_place, port_place, size_of, next_held, closer_held, op_held, statements_held}
use Rattle.export_model.specs.Judged.{closer_numbers_fault, op_numbers_fault, segment_numbers_fault, ports_held, start_numbers_fault, count_numbers_fault, target_numbers_fault, parts_fault, numbers_fault, numbers_number, model_held, held_or}
use Rattle.export_judge.proofs.JudgedLaws.{port_of-filled}

-- whether a closer or a thread leaves the model
module _ (xs : List ℕ) where
  unfoldable segment_leaves : ℕ → Bool
  segment_leaves i = leaves_model (count_n xs) (closer_held xs (segment_place i))

  unfoldable start_leaves : ℕ → ℕ → Bool
  start_leaves n k = not (ltb (number_at xs (start_place n k)) (count_n xs))

-- a rule whose number does not stand is kept
kept : (t : Bool) (x : ℕ) → 0 < x → unless t x ≡ 0 → T t
kept t x p h = true→T t (unless-zero t x (λ e. omega arith) h)

pub record HeldCounts (xs : List ℕ) : Type 0 where
  pub variables : number_at xs 1 ≤ 64
  pub events : number_at xs 2 ≤ 32
  pub segments : count_n xs ≤ 64
  pub threads : count_t xs ≤ 32

-- the model, or none
pub held_or-kept : (xs : List ℕ) → numbers_number xs ≡ 0 → model_held xs ≡ held_or xs
unfolding held_or
held_or-kept xs h = rw (eq-eqb _ 0 h) refl

pub held_or-none : (xs : List ℕ) → (numbers_number xs ≡ 0 → ⊥) → no_model ≡ held_or xs
unfolding held_or
held_or-none xs h = rw (ne_eqb _ 0 h) refl

small-name : (v x : ℕ) → v ≤ 64 → Name v x → x < 256
small-name v x l (inl h) = omega arith
small-name v x l (inr h) = omega (arith, h.1)

abbrev pub SmallNext : Next → Type 0
SmallNext x = (x.a < 256) × (x.b < 256) × (x.test < 256)

-- what a closer without a fault has, by its kind
module _ (v e n kind w k : ℕ) (x : Next) where
  small-test : v ≤ 64 → (x.test ≡ 255) ⊎ Name v x.test → x.test < 256
  small-test l (inl h) = omega arith
  small-test l (inr h) = small-name v x.test l h

  pub closer-next :
      v ≤ 64 → n ≤ 64 → closer_fault v e (closer_of kind w k x) ≡ 0 → leaves_model n (closer_of kind w k x) ≡ false →
      (kind ≡ 1) ⊎ (kind ≡ 2) → SmallNext x
  closer-next l m f g (inl h) =
      let (a, b) = leaves_model-time n (record { 0 = k }) x (rw h at g) in
      (omega arith, omega arith, small-test l (closer_fault-time-test v e (record { 0 = k }) x (rw h at f)))
  closer-next l m f g (inr h) =
      let (a, b) = leaves_model-event n w x (rw h at g) in
      (omega arith, omega arith, small-test l (closer_fault-event-test v e w x (rw h at f)))

pub closer-event : (v e kind w k : ℕ) (x : Next) → e ≤ 32 → closer_fault v e (closer_of kind w k x) ≡ 0 → kind ≡ 2 → w < 256
closer-event v e kind w k x l f h = let b = closer_fault-event v e w x (rw h at f) in omega arith

-- the first name of a statement without a fault, by the tests of its operation
abbrev op_by : ℕ → ℕ → (b1 b2 b3 b4 b5 : Bool) → Op
op_by a b b1 b2 b3 b4 b5 =
    cond b1 (Set a b) (cond b2 (Add a b) (cond b3 (Copy a b) (cond b4 (AddVariable a b) (cond b5 (SubVariable a b) (Notify a)))))

pub op-name : (v e op a b : ℕ) → v ≤ 64 → e ≤ 32 → op_fault v e (op_of op a b) ≡ 0 → a < 256
op-name v e op a b l m f = go (eqb op 1) (eqb op 2) (eqb op 3) (eqb op 4) (eqb op 5) f
  where
    written : (o : Op) → T (writes_op o a) → op_fault v e o ≡ 0 → a < 256
    written o t f = small-name v a l (op_fault-writes v e o a f t)

    same : T (eqb a a)
    same = eq→eqb a a refl

    go : (b1 b2 b3 b4 b5 : Bool) → op_fault v e (op_by a b b1 b2 b3 b4 b5) ≡ 0 → a < 256
    go true b2 b3 b4 b5 f = written (Set a b) same f
    go false true b3 b4 b5 f = written (Add a b) same f
    go false false true b4 b5 f = written (Copy a b) same f
    go false false false true b5 f = written (AddVariable a b) same f
    go false false false false true f = written (SubVariable a b) same f
    go false false false false false f = let h = op_fault-notifies v e a f in omega arith

-- a port without a fault
ports_fault-kept : (v : ℕ) (f : ℕ → ℕ) (p : ℕ) → v ≤ 64 → p < 8 → ports_fault v (tabulate 8 0 f) ≡ 0 → f p < 256
unfolding ports_fault
ports_fault-kept v f p l h e = rw (port_of-filled f p h) at (go (or→either (eqb x 255) (ltb x v) (not-not (named p) (any_below-none 8 (λ p. not (named p)) all p h))))
  where
    x : ℕ
    x = port_of (tabulate 8 0 f) p

    named : ℕ → Bool
    named p = eqb (port_of (tabulate 8 0 f) p) 255 || ltb (port_of (tabulate 8 0 f) p) v

    all : T (not (any_below 8 (λ p. not (named p))))
    all = kept (not (any_below 8 (λ p. not (named p)))) 17 (omega arith) e

    go : T (eqb x 255) ⊎ T (ltb x v) → x < 256
    go (inl t) = let g = eqb→eq x 255 t in omega arith
    go (inr t) = let g = ltb→lt x v t in omega arith

module _ (xs : List ℕ) (fit : numbers_number xs ≡ 0) where
  pub held-length : size_of (count_n xs) (count_t xs) ≤ length xs
  unfolding numbers_number
  held-length =
      leb→le (size_of (count_n xs) (count_t xs)) (length xs)
      (kept (leb (size_of (count_n xs) (count_t xs)) (length xs)) 11 (omega arith) (or_else-zero _ _ fit).0)

  pub held-parts : parts_fault xs ≡ 0
  unfolding numbers_number numbers_fault
  held-parts = (or_else-zero _ _ (or_else-zero _ _ fit).1).0

  pub held-lack : lack_fault (model_held xs) ≡ 0
  unfolding numbers_number numbers_fault
  held-lack = (or_else-zero _ _ (or_else-zero _ _ fit).1).1

module _ (xs : List ℕ) (fit : parts_fault xs ≡ 0) where
  pub held-head : head_fault (number_at xs 0) (number_at xs 1) (number_at xs 2) ≡ 0
  unfolding parts_fault
  held-head = (or_else-zero _ _ fit).0

  pub held-segment : (i : ℕ) → i < count_n xs → segment_numbers_fault xs i ≡ 0
  unfolding parts_fault
  held-segment i l = first_below-zero (count_n xs) _ (or_else-zero _ _ (or_else-zero _ _ fit).1).0 i l

  pub held-count : count_numbers_fault xs ≡ 0
  unfolding parts_fault
  held-count = (or_else-zero _ _ (or_else-zero _ _ (or_else-zero _ _ fit).1).1).0

  pub held-targets : target_numbers_fault xs ≡ 0
  unfolding parts_fault
  held-targets = (or_else-zero _ _ (or_else-zero _ _ (or_else-zero _ _ fit).1).1).1

  -- no target leaves the model
  held_stays : T (not (any_below (count_n xs) (segment_leaves xs))) × T (not (any_below (count_t xs) (start_leaves xs (count_n xs))))
  unfolding target_numbers_fault segment_leaves start_leaves
  held_stays =
      let a = any_below (count_n xs) (segment_leaves xs) in
      let b = any_below (count_t xs) (start_leaves xs (count_n xs)) in
      not-or→both a b (kept (not (a || b)) 8 (omega arith) held-targets)

  few_segments : count_n xs ≤ 64
  unfolding segment_numbers_fault
  few_segments = go (dec_le (count_n xs) 64)
    where
      go : Dec (count_n xs ≤ 64) → count_n xs ≤ 64
      go (yes h) = h
      go (no h) = absurd (kept (ltb 64 64) 4 (omega arith) (or_else-zero _ _ (or_else-zero _ _ (held-segment 64 (omega arith))).1).0)

  pub held-threads : (k : ℕ) → k < count_t xs → start_numbers_fault xs k ≡ 0
  unfolding count_numbers_fault
  held-threads k l = first_below-zero (count_t xs) _ (or_else-zero _ _ (or_else-zero _ _ held-count).1).1 k l

  few_threads : count_t xs ≤ 32
  unfolding start_numbers_fault
  few_threads = go (dec_le (count_t xs) 32)
    where
      go : Dec (count_t xs ≤ 32) → count_t xs ≤ 32
      go (yes h) = h
      go (no h) = absurd (kept (ltb 32 32) 4 (omega arith) (or_else-zero _ _ (held-threads 32 (omega arith))).0)

  pub held-counts : HeldCounts xs
  held-counts =
      let (v, e) = head_fault-counts (number_at xs 0) (number_at xs 1) (number_at xs 2) held-head in
      record {
        variables = v;
        events = e;
        segments = few_segments;
        threads = few_threads;
      }

  -- segment i
  module _ (i : ℕ) (l : i < count_n xs) where
    pub held-statements : statements_held xs i ≤ 32
    unfolding segment_numbers_fault
    held-statements = leb→le (statements_held xs i) 32
        (kept (leb (statements_held xs i) 32) 3 (omega arith) (or_else-zero _ _ (held-segment i l)).0)

    pub held-closer : closer_numbers_fault xs (segment_place i) ≡ 0
    unfolding segment_numbers_fault
    held-closer = (or_else-zero _ _ (or_else-zero _ _ (or_else-zero _ _ (held-segment i l)).1).1).0

    pub held-closer-value : closer_fault (number_at xs 1) (number_at xs 2) (closer_held xs (segment_place i)) ≡ 0
    unfolding closer_numbers_fault
    held-closer-value = (or_else-zero _ _ held-closer).1

    pub held-op : (j : ℕ) → j < statements_held xs i → op_numbers_fault xs (statement_place i j) ≡ 0
    unfolding segment_numbers_fault
    held-op j h = first_below-zero (statements_held xs i) _
        (or_else-zero _ _ (or_else-zero _ _ (or_else-zero _ _ (held-segment i l)).1).1).1 j h

    pub held-op-value : (j : ℕ) → j < statements_held xs i → op_fault (number_at xs 1) (number_at xs 2) (op_held xs (statement_place i j)) ≡ 0
    unfolding op_numbers_fault
    held-op-value j h = (or_else-zero _ _ (held-op j h)).1

    pub held-leaves : leaves_model (count_n xs) (closer_held xs (segment_place i)) ≡ false
    unfolding segment_leaves
    held-leaves = T→false (segment_leaves xs i) (any_below-none (count_n xs) (segment_leaves xs) held_stays.0 i l)

    -- the numbers that are bytes of a closer and of a statement
    pub held_next : (number_at xs (segment_place i) ≡ 1) ⊎ (number_at xs (segment_place i) ≡ 2) → SmallNext (next_held xs (segment_place i))
    held_next h =
        closer-next (number_at xs 1) (number_at xs 2) (count_n xs) (number_at xs (segment_place i)) _ _ (next_held xs (segment_place i))
        held-counts.variables held-counts.segments held-closer-value held-leaves h

    pub held-event : number_at xs (segment_place i) ≡ 2 → number_at xs (segment_place i + 1) < 256
    held-event h =
        closer-event (number_at xs 1) (number_at xs 2) (number_at xs (segment_place i)) (number_at xs (segment_place i + 1)) _
        (next_held xs (segment_place i))
        held-counts.events held-closer-value h

    pub held-name : (j : ℕ) → j < statements_held xs i → number_at xs (statement_place i j + 1) < 256
    held-name j h =
        op-name (number_at xs 1) (number_at xs 2) (number_at xs (statement_place i j)) (number_at xs (statement_place i j + 1))
        (number_at xs (statement_place i j + 2))
        held-counts.variables held-counts.events (held-op-value j h)

  pub held_first : (k : ℕ) → k < count_t xs → number_at xs (start_place (count_n xs) k) < count_n xs
  unfolding start_leaves
  held_first k l =
      ltb→lt (number_at xs (start_place (count_n xs) k)) (count_n xs)
      (not-not (ltb (number_at xs (start_place (count_n xs) k)) (count_n xs))
      (any_below-none (count_t xs) (start_leaves xs (count_n xs)) held_stays.1 k l))

  pub held_start : (n k : ℕ) → n ≡ count_n xs → k < count_t xs → number_at xs (start_place n k) < 256
  held_start n k e l = rw e (omega (arith, held_first k l, held-counts.segments))

  pub held-ports : (k : ℕ) → k < count_t xs → ports_fault (number_at xs 1) (ports_held xs k) ≡ 0
  unfolding start_numbers_fault
  held-ports k l = (or_else-zero _ _ (held-threads k l)).1

  pub held-port : (n k p : ℕ) → n ≡ count_n xs → k < count_t xs → p < 8 → number_at xs (port_place n k p) < 256
  held-port n k p e l h =
      rw e (ports_fault-kept (number_at xs 1) (λ p. number_at xs (port_place (count_n xs) k p)) p held-counts.variables h (held-ports k l))
