-- A segment's record: its statements one by one, then the segment.
--     fits-length, count_in-.., closer_in-..     what a length that fits says, and one that does not
--     statements_from-..     the places, filled from the front
--     statements_bytes_fault-..     the first fault among the statements
--     segment_record_fault-.., segment_to-.., segment_in-fits     the whole record
--     target_bound-..     the least N that next segments are below
use Prim.Native.Nat.{ℕ, suc, ◌+◌, ◌-◌, ◌*◌, ◌<◌, ◌≤◌}
use mathlib.Core.Path.{◌≡◌, refl, sym, ap, ◌∙◌}
use mathlib.Core.Bool.{Bool, true, false, cond}
use mathlib.Core.List.{List, [], ◌∷◌, ◌++◌}
use native.Mathlib.Numerals.{add-one}
use native.Mathlib.Omega.{arith}
use lib.ListN.{length, set, take, drop, replicate, length-drop}
use lib.Seq.{set_at, append_snoc, take_all}
use Rattle.base.specs.Index.{tabulate}
use Rattle.base.proofs.IndexLaws.{first_below-none, first_below-more, first_below-here, tabulate-length, tabulate-more}
use Rattle.model.specs.declared.Op.{Op}
use Rattle.model.specs.declared.Statement.{Statement}
use Rattle.clock.specs.declared.Delay.{Delay}
use Rattle.model.specs.declared.Next.{Next}
use Rattle.model.specs.declared.Closer.{Closer}
use Rattle.model.specs.declared.Closer.TheVariants.{End, Time, Event}
use Rattle.model.specs.declared.Segment.{Segment}
use Rattle.model.specs.Values.{no_statement, no_segment}
use Rattle.model_rules.proofs.FaultLaws.{unless-kept, unless-broken, fault-here, fault-later}
use Rattle.reader.specs.Closer.{closer_from, closer_bytes_fault}
use Rattle.reader.specs.Statement.{op_from, op_bytes_fault}
use Rattle.reader.specs.Record.{statement_count, statement_bytes, segment_from, segment_bytes_fault}
use Rattle.reader_laws.proofs.FrameLaws.{segment-length}
use Rattle.reader_segment.specs.Parts.{statements_from, statements_bytes_fault, fits, count_in, closer_in, bound_of, target_bound, segment_record_fault, segment_in}

-- the next place filled
module _ {A : Type 0} where
  tabulate-set : (n most : ℕ) (f : ℕ → A) (d : A) → n < most → set (tabulate n 0 f ++ replicate (most - n) d) n (f n) ≡ tabulate (suc n) 0 f ++ replicate (most - suc n) d
  tabulate-set n most f d h =
      let e : most - n ≡ suc (most - suc n) = omega arith in
      rw e (set_at (tabulate n 0 f) d (replicate (most - suc n) d) (f n) n (tabulate-length n 0 f) ∙ sym (ap (λ (l : List A). l ++ replicate (most - suc n) d) (tabulate-more n 0 f ∙ ap (λ (k : ℕ). tabulate n 0 f ++ (f k ∷ [])) (omega arith)) ∙ append_snoc (tabulate n 0 f) (f n) (replicate (most - suc n) d)))

-- a part that goes on to the end
pub part-rest : (r : List ℕ) (at : ℕ) → take (length r - at) (drop at r) ≡ drop at r
part-rest r at = take_all (length r - at) (drop at r) (simp length-drop (omega arith))

-- the closer's bytes, and those of statement j, as the code takes them
abbrev pub closer_part : List ℕ → List ℕ
closer_part r = take (length r - 4) (drop 4 r)

abbrev pub statement_part : List ℕ → ℕ → List ℕ
statement_part r j = take (length r - (17 + 6 * j)) (drop (17 + 6 * j) r)

module _ (r : List ℕ) where
  pub fits-length : fits r ≡ true → (17 ≤ length r) × (length r ≤ 209)
  fits-length f = segment-length (length r) 2 f refl

  pub count_in-fits : fits r ≡ true → statement_count r ≡ count_in r
  unfolding count_in
  count_in-fits f = rw f refl

  pub count_in-misfit : fits r ≡ false → 0 ≡ count_in r
  unfolding count_in
  count_in-misfit f = rw f refl

  pub count_in-most : count_in r ≤ 32
  count_in-most = go (fits r) refl
    where
      go : (t : Bool) → fits r ≡ t → count_in r ≤ 32
      go true f = omega (arith, count_in-fits f, (fits-length f).1)
      go false f = omega (arith, count_in-misfit f)

  -- the bytes of each statement are there
  pub count_in-left : (j : ℕ) → j < count_in r → 23 + 6 * j ≤ length r
  count_in-left j h = go (fits r) refl
    where
      go : (t : Bool) → fits r ≡ t → 23 + 6 * j ≤ length r
      go true f = omega (arith, count_in-fits f, (fits-length f).0)
      go false f = absurd (omega (arith, count_in-misfit f))

  pub closer_in-fits : (x : Closer) → fits r ≡ true → x ≡ closer_from (closer_part r) → x ≡ closer_in r
  unfolding closer_in
  closer_in-fits x f e = rw (f, ← part-rest r 4) e

  pub closer_in-misfit : fits r ≡ false → End ≡ closer_in r
  unfolding closer_in
  closer_in-misfit f = rw f refl

  statements_from-none : replicate 32 no_statement ≡ statements_from 0 r
  unfolding statements_from tabulate
  statements_from-none = refl

  statements_from-more : (j : ℕ) (x : Op) (ss : List Statement) → j < 32 → x ≡ op_from (statement_part r j) → ss ≡ statements_from j r → set ss j (record { op = x }) ≡ statements_from (j + 1) r
  unfolding statements_from
  statements_from-more j x ss h p q = rw (add-one, q, p, part-rest r (17 + 6 * j)) (tabulate-set j 32 (λ i. record { op = op_from (statement_bytes r i) }) no_statement h)

module _ (v e : ℕ) (r : List ℕ) where
  pub statements_bytes_fault-none : statements_bytes_fault 0 v e r ≡ 0
  unfolding statements_bytes_fault
  statements_bytes_fault-none = first_below-none _

  pub statements_bytes_fault-more : (j x : ℕ) → statements_bytes_fault j v e r ≡ 0 → x ≡ op_bytes_fault v e (statement_part r j) → x ≡ 0 → statements_bytes_fault (j + 1) v e r ≡ 0
  unfolding statements_bytes_fault
  statements_bytes_fault-more j x none here z = rw add-one (first_below-more j _ none ∙ (sym (rw (part-rest r (17 + 6 * j)) at here) ∙ z))

  pub statements_bytes_fault-here : (j n x : ℕ) → j < n → statements_bytes_fault j v e r ≡ 0 → x ≡ op_bytes_fault v e (statement_part r j) → (x ≡ 0 → ⊥) → x ≡ statements_bytes_fault n v e r
  unfolding statements_bytes_fault
  statements_bytes_fault-here j n x h none here z = let it = rw (part-rest r (17 + 6 * j)) at here in it ∙ sym (first_below-here j n _ h none (λ y. z (it ∙ y)))

  pub segment_record_fault-length : fits r ≡ false → 3 ≡ segment_record_fault v e r
  unfolding segment_record_fault
  segment_record_fault-length f = fault-here _ _ 3 (unless-broken (fits r) 3 f) (λ z. omega arith)

  pub segment_record_fault-fits : fits r ≡ true → segment_record_fault v e r ≡ segment_bytes_fault v e r
  unfolding segment_record_fault
  segment_record_fault-fits f = sym (fault-later _ _ _ (unless-kept (fits r) 3 f) refl)

  module _ (f : fits r ≡ true) (x : ℕ) (closer : x ≡ closer_bytes_fault v e (closer_part r)) where
    is-closer : x ≡ closer_bytes_fault v e (drop 4 r)
    is-closer = rw (part-rest r 4) at closer

    pub segment_record_fault-closer : (x ≡ 0 → ⊥) → x ≡ segment_record_fault v e r
    unfolding segment_bytes_fault
    segment_record_fault-closer n = fault-here _ _ x is-closer n ∙ sym (segment_record_fault-fits f)

    pub segment_record_fault-statements : (y : ℕ) → x ≡ 0 → y ≡ statements_bytes_fault (statement_count r) v e r → y ≡ segment_record_fault v e r
    unfolding segment_bytes_fault statements_bytes_fault
    segment_record_fault-statements y z s = fault-later _ _ y (sym is-closer ∙ z) s ∙ sym (segment_record_fault-fits f)

-- the segment of r with its first j statements
unfoldable pub segment_to : ℕ → List ℕ → Segment
segment_to j r = record { closer = closer_in r; n = count_in r; statements = statements_from j r }

module _ (r : List ℕ) where
  with-statements : List Statement → Segment
  with-statements ss = record { closer = closer_in r; n = count_in r; statements = ss }

  pub segment_to-none : (c : Closer) (n : ℕ) → c ≡ closer_in r → n ≡ count_in r → record { closer = c; n = n; statements = replicate 32 no_statement } ≡ segment_to 0 r
  unfolding segment_to with-statements
  segment_to-none c n p q = rw (p, q) (ap with-statements (statements_from-none r))

  pub segment_to-more : (j : ℕ) (x : Op) (g : Segment) → j < 32 → x ≡ op_from (statement_part r j) → g ≡ segment_to j r
      → record { closer = g.closer; n = g.n; statements = set g.statements j (record { op = x }) } ≡ segment_to (j + 1) r
  unfolding segment_to with-statements
  segment_to-more j x g h p q = rw q (ap with-statements (statements_from-more r j x _ h p refl))

pub segment_to-all : (r : List ℕ) → segment_to (count_in r) r ≡ segment_in r
unfolding segment_to segment_in closer_in count_in statements_from segment_from tabulate
segment_to-all r = go (fits r)
  where
    go : (t : Bool) → record { closer = cond t (closer_from (drop 4 r)) End; n = cond t (statement_count r) 0; statements = statements_from (cond t (statement_count r) 0) r } ≡ cond t (segment_from r) no_segment
    go true = refl
    go false = refl

pub segment_in-fits : (r : List ℕ) → fits r ≡ true → segment_in r ≡ segment_from r
unfolding segment_in
segment_in-fits r f = rw f refl

module _ (r : List ℕ) (c : Closer) (is : c ≡ closer_in r) where
  pub target_bound-end : c ≡ End → 0 ≡ target_bound (closer_in r)
  unfolding target_bound
  target_bound-end e = rw (← is, e) refl

  pub target_bound-time : (k : Delay) (x : Next) (y : ℕ) → c ≡ Time k x → y ≡ bound_of x → y ≡ target_bound (closer_in r)
  unfolding target_bound
  target_bound-time k x y e f = rw (← is, e) f

  pub target_bound-event : (w : ℕ) (x : Next) (y : ℕ) → c ≡ Event w x → y ≡ bound_of x → y ≡ target_bound (closer_in r)
  unfolding target_bound
  target_bound-event w x y e f = rw (← is, e) f
