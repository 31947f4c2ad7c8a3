-- The numbers of a model: how many there are, and that the loops store them all.
--     told-none, told-some     an answer that may be a refusal
--     stored-length, joined-start, -more, -length, -put     runs of stores
--     closer_numbers-length, op_numbers-length, start_numbers-length, segment_numbers-length
--     front_to-none, front_to-more, front_to-all     a segment with its first statements
--     read-segment, read-start     what the code reads
--     read-statements, segments-each     the same of a model that keeps the rules
--     numbers_of-length, writes-model, writes-few, writes-none     the whole
use Prim.Native.Nat.{ℕ, zero, suc, ◌+◌, ◌-◌, ◌*◌, ◌<◌, ◌≤◌}
use mathlib.Core.Path.{◌≡◌, refl, sym, ap, ◌∙◌}
use mathlib.Core.Bool.{true, false, cond}
use mathlib.Core.List.{List, [], ◌∷◌, ◌++◌, append-nil, append_assoc}
use native.Mathlib.Nat.{zero-add}
use native.Mathlib.Numerals.{add-one}
use native.Mathlib.Omega.{arith}
use lib.Dec.{eqb}
use lib.ListN.{length, get_or, set, take, drop, replicate, length-append, length-replicate, length-take}
use lib.Seq.{sets, sets-eq, length-sets, get_or-take}
use borrow.Author.Tests.{eq-eqb, ne_eqb}
use Rattle.std.specs.Prelude.{Result, Ok, Err}
use Rattle.std.specs.Result.{is_err}
use Rattle.base.specs.Index.{tabulate}
use Rattle.refusal.specs.declared.Refusal.{Refusal}
use Rattle.refusal.specs.Number.{number_told}
use Rattle.refusal.proofs.NumberLaws.{number_of-not_0}
use Rattle.model.specs.declared.Op.{Op}
use Rattle.model.specs.declared.Op.TheVariants.{Set, Add, Copy, AddVariable, SubVariable, Notify}
use Rattle.model.specs.declared.Closer.{Closer}
use Rattle.model.specs.declared.Closer.TheVariants.{End, Time, Event}
use Rattle.model.specs.declared.Segment.{Segment}
use Rattle.model.specs.declared.Start.{Start}
use Rattle.model.specs.declared.Model.{Model}
use Rattle.model.specs.Values.{no_statement, segment_at, start_at}
use Rattle.model.specs.Rules.{model_fault}
use Rattle.buffers.specs.Write.{Writes}
use Rattle.buffers.proofs.StoreLaws.{sets_more}
use Rattle.buffers.proofs.WriteLaws.{placed_in-room, placed_in-stored, length_in-room, writes_short}
use Rattle.model_rules.proofs.FaultLaws.{segment_at-read, start_at-read}
use Rattle.model_rules.proofs.RuleLaws.{model_fault-statements}
use Rattle.writer.specs.Bytes.{joined}
use Rattle.export_model.specs.Numbers.{size_of, segment_place, next_numbers, closer_numbers, op_numbers, segment_numbers, start_numbers, numbers_of}

-- whether an answer is a refusal, by its number
pub told-none : {A : Type 0} (a : Result A Refusal) → is_err a ≡ false → number_told a ≡ 0
told-none (Ok x) e = refl
told-none (Err r) e = cc

pub told-some : {A : Type 0} (a : Result A Refusal) → is_err a ≡ true → number_told a ≡ 0 → ⊥
told-some (Ok x) e z = cc
told-some (Err r) e z = number_of-not_0 r z

-- runs of stores
pub stored-length : (l out xs : List ℕ) (i : ℕ) → out ≡ sets l i xs → length out ≡ length l
stored-length l out xs i e = ap length e ∙ length-sets l i xs

pub joined-start : (l : List ℕ) (p : ℕ) (f : ℕ → List ℕ) → l ≡ sets l p (joined 0 0 f)
unfolding joined
joined-start l p f = refl

pub joined-more : (n i : ℕ) (f : ℕ → List ℕ) → joined (suc n) i f ≡ joined n i f ++ f (i + n)
unfolding joined
joined-more zero i f = let e : i ≡ i + 0 = omega arith in append-nil (f i) ∙ ap f e
joined-more (suc n) i f =
    let e : i + 1 + n ≡ i + suc n = omega arith in
    ap (λ (l : List ℕ). f i ++ l) (joined-more n (i + 1) f ∙ ap (λ (k : ℕ). joined n (i + 1) f ++ f k) e)
    ∙ sym (append_assoc (f i) (joined n (i + 1) f) (f (i + suc n)))

pub joined_length : (w n i : ℕ) (f : ℕ → List ℕ) → ((j : ℕ) → j < i + n → length (f j) ≡ w) → length (joined n i f) ≡ w * n
unfolding joined
joined_length w zero i f h = omega arith
joined_length w (suc n) i f h =
    rw (length-append (f i) (joined n (i + 1) f), h i (omega arith), joined_length w n (i + 1) f (λ j l. h j (omega arith))) (omega arith)

pub joined-put :
    (w : ℕ) (l out : List ℕ) (p i n : ℕ) (f : ℕ → List ℕ) (ys : List ℕ) → ((j : ℕ) → j < i → length (f j) ≡ w) →
    out ≡ sets l p (joined i 0 f) → n ≡ p + w * i → ys ≡ f i → sets out n ys ≡ sets l p (joined (i + 1) 0 f)
joined-put w l out p i n f ys size e h g =
    let t : joined (suc i) 0 f ≡ joined i 0 f ++ f i = joined-more i 0 f ∙ rw (zero-add i) refl in
    let k : length (joined i 0 f) ≡ w * i = joined_length w i 0 f (λ j l. size j (omega arith)) in
    rw (add-one, t, g) (sets_more (joined i 0 f) (f i) l out p n e (omega arith))

pub closer_numbers-length : (x : Closer) → length (closer_numbers x) ≡ 7
unfolding closer_numbers next_numbers
closer_numbers-length End = refl
closer_numbers-length (Time k x) = refl
closer_numbers-length (Event e x) = refl

pub op_numbers-length : (x : Op) → length (op_numbers x) ≡ 3
unfolding op_numbers
op_numbers-length (Set a b) = refl
op_numbers-length (Add a b) = refl
op_numbers-length (Copy a b) = refl
op_numbers-length (AddVariable a b) = refl
op_numbers-length (SubVariable a b) = refl
op_numbers-length (Notify e) = refl

pub start_numbers-length : (s : Start) → length (start_numbers s) ≡ 9
unfolding start_numbers tabulate
start_numbers-length s = refl

drop-zeros : (n k : ℕ) → drop {A = ℕ} k (replicate n 0) ≡ replicate (n - k) 0
drop-zeros n zero = let e : n ≡ n - 0 = omega arith in ap (λ (m : ℕ). replicate m 0) e
drop-zeros zero (suc k) = let e : 0 ≡ 0 - suc k = omega arith in ap (λ (m : ℕ). replicate m 0) e
drop-zeros (suc n) (suc k) = let e : n - k ≡ suc n - suc k = omega arith in drop-zeros n k ∙ ap (λ (m : ℕ). replicate m 0) e

-- a segment's closer, n and its first j statements
module _ (g : Segment) where
  abbrev pub op_at : ℕ → List ℕ
  op_at j = op_numbers (get_or g.statements j no_statement).op

  abbrev pub op_ats : ℕ → List ℕ
  op_ats j = joined j 0 op_at

  unfoldable pub front_to : ℕ → List ℕ
  front_to j = closer_numbers g.closer ++ (g.n ∷ op_ats j)

  op_ats-length : (j : ℕ) → length (op_ats j) ≡ 3 * j
  op_ats-length j = joined_length 3 j 0 op_at (λ k l. op_numbers-length (get_or g.statements k no_statement).op)

  pub front_to-length : (j : ℕ) → length (front_to j) ≡ 8 + 3 * j
  unfolding front_to
  front_to-length j = rw (length-append (closer_numbers g.closer) (g.n ∷ op_ats j), closer_numbers-length g.closer)
      (omega (arith, op_ats-length j))

  pub front_to-none :
      (l out : List ℕ) (n : ℕ) (xs : List ℕ) → xs ≡ closer_numbers g.closer → n ≡ g.n → out ≡ sets l 0 xs →
      set out 7 n ≡ sets l 0 (front_to 0)
  unfolding front_to joined
  front_to-none l out n xs p q e =
      rw q (sets_more (closer_numbers g.closer) (g.n ∷ []) l out 0 7 (rw p at e) (omega (arith, closer_numbers-length g.closer)))

  pub front_to-more :
      (l out : List ℕ) (j n : ℕ) (xs : List ℕ) → xs ≡ op_numbers (get_or g.statements j no_statement).op → n ≡ 8 + 3 * j →
      out ≡ sets l 0 (front_to j) → sets out n xs ≡ sets l 0 (front_to (j + 1))
  unfolding front_to
  front_to-more l out j n xs p h e =
      let t : op_ats (suc j) ≡ op_ats j ++ op_at j = joined-more j 0 op_at ∙ rw (zero-add j) refl in
      rw (add-one, t, p)
      (sets_more (front_to j) (op_at j) l out 0 n e (omega (arith, front_to-length j))
      ∙ ap (sets l 0) (append_assoc (closer_numbers g.closer) (g.n ∷ op_ats j) (op_at j)))

  segment_numbers-front : g.n ≤ 32 → segment_numbers g ≡ front_to g.n ++ replicate (96 - 3 * g.n) 0
  unfolding segment_numbers front_to
  segment_numbers-front few = sym (append_assoc (closer_numbers g.closer) (g.n ∷ op_ats g.n) (replicate (96 - 3 * g.n) 0))

  pub segment_numbers-length : g.n ≤ 32 → length (segment_numbers g) ≡ 104
  segment_numbers-length few =
      rw (
        segment_numbers-front few,
        length-append (front_to g.n) (replicate (96 - 3 * g.n) 0),
        length-replicate {A = ℕ} (96 - 3 * g.n) 0,
      )
      (omega (arith, front_to-length g.n))

  pub front_to-all : (j : ℕ) (out : List ℕ) → g.n ≤ 32 → j ≡ g.n → out ≡ sets (replicate 104 0) 0 (front_to j) → out ≡ segment_numbers g
  front_to-all j out few h e =
      let k : length (front_to g.n) ≡ 8 + 3 * g.n = front_to-length g.n in
      let z : 0 + length (front_to g.n) ≡ 8 + 3 * g.n = omega arith in
      let d : 104 - (8 + 3 * g.n) ≡ 96 - 3 * g.n = omega arith in
      (rw h at e)
      ∙ (rw (z, drop-zeros 104 (8 + 3 * g.n), d) at (sets-eq (front_to g.n) (replicate 104 0) 0
      (omega (arith, length-replicate {A = ℕ} 104 0))))
      ∙ sym (segment_numbers-front few)

-- what the code reads, of those that are counted
pub read-segment : (m : Model) (n i : ℕ) (d : Segment) → n ≡ m.n → length m.segments ≡ 64 → i < length (take n m.segments) → (i < m.n) × (get_or (take n m.segments) i d ≡ segment_at m i)
read-segment m n i d e size h =
    let l : i < n = omega (arith, length-take n m.segments) in
    (omega arith, get_or-take n m.segments i d l ∙ segment_at-read m i d (omega (arith, length-take n m.segments)))

pub read-start : (m : Model) (n k : ℕ) (d : Start) → length m.starts ≡ 32 → k < length (take n m.starts) → get_or (take n m.starts) k d ≡ start_at m k
read-start m n k d size h =
    get_or-take n m.starts k d (omega (arith, length-take n m.starts)) ∙ start_at-read m k d (omega (arith, length-take n m.starts))

-- a model that keeps the rules: the segment that the code reads
module _ (m : Model) (fit : model_fault m ≡ 0) where
  pub read-statements : (i : ℕ) (x : Segment) → i < m.n → x ≡ segment_at m i → x.n ≤ 32
  read-statements i x l e = rw e (model_fault-statements m fit i l)

  pub segments-each : (i : ℕ) → i < m.n → length (segment_numbers (segment_at m i)) ≡ 104
  segments-each i l = segment_numbers-length (segment_at m i) (model_fault-statements m fit i l)

  head_numbers : List ℕ
  head_numbers = m.horizon.0 ∷ m.v ∷ m.e ∷ m.n ∷ m.t ∷ []

  segments_numbers : List ℕ
  segments_numbers = joined m.n 0 (λ i. segment_numbers (segment_at m i))

  starts_numbers : List ℕ
  starts_numbers = joined m.t 0 (λ k. start_numbers (start_at m k))

  starts_numbers-length : length starts_numbers ≡ 9 * m.t
  unfolding starts_numbers
  starts_numbers-length = joined_length 9 m.t 0 (λ k. start_numbers (start_at m k)) (λ k l. start_numbers-length (start_at m k))

  segments_numbers-length : length segments_numbers ≡ 104 * m.n
  unfolding segments_numbers
  segments_numbers-length = joined_length 104 m.n 0 (λ i. segment_numbers (segment_at m i)) (λ i l. segments-each i (omega arith))

  pub numbers_of-length : length (numbers_of m) ≡ size_of m.n m.t
  unfolding numbers_of segments_numbers starts_numbers
  numbers_of-length = rw (
    length-append segments_numbers starts_numbers,
    segments_numbers-length,
    starts_numbers-length,
  ) (omega arith)

  -- head, segments, threads: one run of stores
  model-stored :
      (out a b end : List ℕ) → a ≡ sets out 0 head_numbers → b ≡ sets a 5 segments_numbers →
      end ≡ sets b (segment_place m.n) starts_numbers →
      end ≡ sets out 0 (numbers_of m)
  unfolding numbers_of head_numbers segments_numbers starts_numbers
  model-stored out a b end p q e =
      let f : b ≡ sets out 0 (head_numbers ++ segments_numbers) = q ∙ sets_more head_numbers segments_numbers out a 0 5 p (omega arith) in
      let n : 0 + length (head_numbers ++ segments_numbers) ≡ segment_place m.n = omega (arith, segments_numbers-length) in
      e ∙ sets_more (head_numbers ++ segments_numbers) starts_numbers out b 0 (segment_place m.n) f n

  pub writes-few :
      (out : List ℕ) (n : ℕ) → n ≡ size_of m.n m.t → length out < n → Writes out out 0 (cond (eqb (model_fault m) 0) (numbers_of m) [])
  writes-few out n e h = rw (eq-eqb _ 0 fit) (writes_short (numbers_of m) out (omega (arith, numbers_of-length)))

  pub writes-model :
      (out a b end : List ℕ) (n : ℕ) → n ≡ size_of m.n m.t → n ≤ length out →
      a ≡ sets out 0 (m.horizon.0 ∷ m.v ∷ m.e ∷ m.n ∷ m.t ∷ []) →
      b ≡ sets a 5 (joined m.n 0 (λ i. segment_numbers (segment_at m i))) →
      end ≡ sets b (segment_place m.n) (joined m.t 0 (λ k. start_numbers (start_at m k))) →
      Writes out end n (cond (eqb (model_fault m) 0) (numbers_of m) [])
  unfolding head_numbers segments_numbers starts_numbers
  writes-model out a b end n h room p q e =
      let size = numbers_of-length in
      rw (eq-eqb _ 0 fit)
      (record {
        answer = h ∙ (sym size ∙ sym (length_in-room (numbers_of m) out (omega arith)));
        buffer = model-stored out a b end p q e ∙ placed_in-stored (numbers_of m) out (omega arith);
      })

pub writes-none : (m : Model) (out : List ℕ) → (model_fault m ≡ 0 → ⊥) → Writes out out 0 (cond (eqb (model_fault m) 0) (numbers_of m) [])
writes-none m out h =
    rw (ne_eqb _ 0 h) (record { answer = sym (length_in-room [] out (omega arith)); buffer = sym (placed_in-room [] out (omega arith)) })
