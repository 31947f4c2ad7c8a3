-- Lists filled from the front by a loop: the elements so far, then the places that are left.
--     filled_to-none, filled_to-more     none, one more
--     segment_to-none, segment_to-more, segment_to-all     a segment with its first statements
--     start_held, start_held-made     a thread
--     model_held-made     a model by its lists
use Prim.Native.Nat.{ℕ, suc, ◌+◌, ◌-◌, ◌<◌}
use mathlib.Core.Path.{◌≡◌, refl, sym, ap, ◌∙◌}
use mathlib.Core.List.{List, [], ◌∷◌, ◌++◌}
use native.Mathlib.Numerals.{add-one}
use native.Mathlib.Omega.{arith}
use lib.ListN.{set, replicate}
use lib.Seq.{set_at, append_snoc}
use Rattle.base.specs.Index.{tabulate}
use Rattle.base.proofs.IndexLaws.{tabulate-length, tabulate-more}
use Rattle.model.specs.declared.Op.{Op}
use Rattle.model.specs.declared.Statement.{Statement}
use Rattle.model.specs.declared.Closer.{Closer}
use Rattle.model.specs.declared.Segment.{Segment}
use Rattle.model.specs.declared.Start.{Start}
use Rattle.model.specs.Values.{no_statement, no_segment, no_start}
use Rattle.export_model.specs.Numbers.{number_at, count_n, count_t, segment_place, statement_place, start_place, port_place, closer_held, op_held, statements_held}
use Rattle.export_model.specs.Judged.{segment_held, model_held}

-- f 0, f 1, .. f (j - 1), then d, in all so many
abbrev pub filled_to : {A : Type 0} → ℕ → A → (ℕ → A) → ℕ → List A
filled_to most d f j = tabulate j 0 f ++ replicate (most - j) d

module _ {A : Type 0} (most : ℕ) (d : A) (f : ℕ → A) where
  pub filled_to-none : replicate most d ≡ filled_to most d f 0
  unfolding tabulate
  filled_to-none = let e : most ≡ most - 0 = omega arith in ap (λ (n : ℕ). replicate n d) e

  pub filled_to-more : (j : ℕ) (l : List A) (x : A) → j < most → l ≡ filled_to most d f j → x ≡ f j → set l j x ≡ filled_to most d f (j + 1)
  filled_to-more j l x h e p =
      let m : most - j ≡ suc (most - suc j) = omega arith in
      let t : tabulate (suc j) 0 f ≡ tabulate j 0 f ++ (f j ∷ []) = tabulate-more j 0 f
      ∙ ap (λ (k : ℕ). tabulate j 0 f ++ (f k ∷ [])) (omega arith) in
      rw (add-one, e, p, m)
      (set_at (tabulate j 0 f) d (replicate (most - suc j) d) (f j) j (tabulate-length j 0 f)
      ∙ sym (ap (λ (s : List A). s ++ replicate (most - suc j) d) t ∙ append_snoc (tabulate j 0 f) (f j) (replicate (most - suc j) d)))

-- segment i with its first j statements
module _ (xs : List ℕ) (i : ℕ) where
  abbrev statement_at : ℕ → Statement
  statement_at j = record { op = op_held xs (statement_place i j) }

  unfoldable pub segment_to : ℕ → Segment
  segment_to j = record {
    closer = closer_held xs (segment_place i);
    n = statements_held xs i;
    statements = filled_to 32 no_statement statement_at j;
  }

  with-statements : List Statement → Segment
  with-statements s = record { closer = closer_held xs (segment_place i); n = statements_held xs i; statements = s }

  pub segment_to-none :
      (c : Closer) (n : ℕ) → c ≡ closer_held xs (segment_place i) → n ≡ statements_held xs i →
      record { closer = c; n = n; statements = replicate 32 no_statement } ≡ segment_to 0
  unfolding segment_to with-statements
  segment_to-none c n p q = rw (p, q) (ap with-statements (filled_to-none 32 no_statement statement_at))

  pub segment_to-more :
      (j : ℕ) (o : Op) (g : Segment) → j < 32 → g ≡ segment_to j → o ≡ op_held xs (statement_place i j) →
      record { closer = g.closer; n = g.n; statements = set g.statements j (record { op = o }) } ≡ segment_to (j + 1)
  unfolding segment_to with-statements
  segment_to-more j o g h e p =
      rw e
      (ap with-statements (filled_to-more 32 no_statement statement_at j _ (record { op = o }) h refl (ap (λ (x : Op). record { op = x }) p)))

  pub segment_to-all : segment_to (statements_held xs i) ≡ segment_held xs i
  unfolding segment_to segment_held
  segment_to-all = refl

-- thread k of numbers with n segments
abbrev pub start_held : List ℕ → ℕ → ℕ → Start
start_held xs n k = record { first = number_at xs (start_place n k); ports = tabulate 8 0 (λ p. number_at xs (port_place n k p)) }

pub start_held-made :
    (xs : List ℕ) (n k first : ℕ) (ports : List ℕ) → first ≡ number_at xs (start_place n k) →
    ports ≡ tabulate 8 0 (λ p. number_at xs (port_place n k p)) → record { first = first; ports = ports } ≡ start_held xs n k
start_held-made xs n k first ports p q = rw (p, q) refl

-- the whole model, by its horizon and its two lists
pub model_held-made :
    (xs : List ℕ) (h : ℕ) (segments : List Segment) (starts : List Start) → h ≡ number_at xs 0 → segments ≡ filled_to 64 no_segment (λ i. segment_held xs i) (count_n xs) →
    starts ≡ filled_to 32 no_start (start_held xs (count_n xs)) (count_t xs) →
    record {
      horizon = record { 0 = h };
      v = number_at xs 1;
      e = number_at xs 2;
      n = count_n xs;
      t = count_t xs;
      segments = segments;
      starts = starts;
    }
    ≡ model_held xs
unfolding model_held
model_held-made xs h segments starts p c d = rw (p, c, d) refl
