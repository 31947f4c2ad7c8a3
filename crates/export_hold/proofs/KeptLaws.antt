-- The model of numbers without a fault keeps the file rules.
--     filled_to-at     an element of a list filled from the front
--     segment_at-held, start_at-held, statement-held     what the model has at each place
--     lack-held     18 of it, as the code finds it
--     held_kept     so it has no fault
use Prim.Native.Nat.{ℕ, ◌-◌, ◌<◌, ◌≤◌}
use mathlib.Core.Path.{◌≡◌, refl, ap, ◌∙◌}
use mathlib.Core.Bool.{false, not}
use mathlib.Core.List.{List}
use native.Mathlib.Nat.{zero-add}
use native.Mathlib.Omega.{arith}
use lib.Dec.{ltb, leb}
use lib.ListN.{get_or, replicate, get_or-append}
use borrow.Author.Tests.{lt-ltb, le-leb}
use Rattle.base.specs.Index.{tabulate}
use Rattle.base.proofs.IndexLaws.{any_below-empty, or_else-none, or_else-zero, first_below-all, tabulate-length, tabulate-at}
use Rattle.model.specs.declared.Statement.{Statement}
use Rattle.model.specs.declared.Segment.{Segment}
use Rattle.model.specs.declared.Start.{Start}
use Rattle.model.specs.declared.Model.{Model}
use Rattle.model.specs.Values.{no_statement, no_segment, no_start, segment_at, start_at, ports_at}
use Rattle.model.specs.Rules.{unless, head_fault, op_fault, statements_fault, segment_fault, segments_fault, ports_fault, starts_fault, counts_fault, leaves_model, any_segment_leaves, any_start_leaves, targets_fault, lack_fault, links_fault, model_fault}
use Rattle.model_rules.proofs.FaultLaws.{unless-kept}
use Rattle.export_model.specs.Numbers.{number_at, count_n, count_t, statement_place, op_held, statements_held}
use Rattle.export_model.specs.Judged.{count_numbers_fault, parts_fault, numbers_number, segment_held, model_held}
use Rattle.export_hold.proofs.HeldLaws.{held-head, held-count, held-counts, held-statements, held-closer-value, held-op-value, held-leaves, held_first, held-ports, held-parts, held-lack}
use Rattle.export_hold.proofs.FillLaws.{filled_to, start_held}

pub filled_to-at : {A : Type 0} (most : ℕ) (d : A) (f : ℕ → A) (n j : ℕ) → j < n → get_or (filled_to most d f n) j d ≡ f j
filled_to-at most d f n j h =
    get_or-append (tabulate n 0 f) (replicate (most - n) d) d j (omega (arith, tabulate-length n 0 f))
    ∙ (tabulate-at n 0 j f d h ∙ ap f (zero-add j))

module _ (xs : List ℕ) where
  pub segment_at-held : (i : ℕ) → i < count_n xs → segment_at (model_held xs) i ≡ segment_held xs i
  unfolding segment_at model_held
  segment_at-held i l = filled_to-at 64 no_segment (segment_held xs) (count_n xs) i l

  pub start_at-held : (k : ℕ) → k < count_t xs → start_at (model_held xs) k ≡ start_held xs (count_n xs) k
  unfolding start_at model_held
  start_at-held k l = filled_to-at 32 no_start (start_held xs (count_n xs)) (count_t xs) k l

  pub statement-held :
      (i j : ℕ) → j < statements_held xs i → (get_or (segment_held xs i).statements j no_statement).op ≡ op_held xs (statement_place i j)
  unfolding segment_held
  statement-held i j l =
      ap (λ (s : Statement). s.op) (filled_to-at 32 no_statement (λ j. record { op = op_held xs (statement_place i j) })
      (statements_held xs i) j l)

  module _ (fit : parts_fault xs ≡ 0) where
    segment-kept : (i : ℕ) → i < count_n xs → segment_fault (number_at xs 1) (number_at xs 2) (segment_held xs i) ≡ 0
    unfolding segment_fault statements_fault segment_held
    segment-kept i l =
        or_else-none _ _ (unless-kept (leb (statements_held xs i) 32) 3 (le-leb _ 32 (held-statements xs fit i l)))
        ∙ (or_else-none _ _ (held-closer-value xs fit i l)
        ∙ first_below-all (statements_held xs i) _
        (λ j h. ap (op_fault (number_at xs 1) (number_at xs 2)) (statement-held i j h) ∙ held-op-value xs fit i l j h))

    head-kept : head_fault (model_held xs).horizon.0 (model_held xs).v (model_held xs).e ≡ 0
    unfolding model_held
    head-kept = held-head xs fit

    segments-kept : segments_fault (model_held xs) ≡ 0
    unfolding segments_fault model_held
    segments-kept =
        first_below-all (count_n xs) _
        (λ i l. or_else-none _ _ (unless-kept (ltb i 64) 4 (lt-ltb i 64 (omega (arith, (held-counts xs fit).segments))))
        ∙ (ap (segment_fault (number_at xs 1) (number_at xs 2)) (segment_at-held i l) ∙ segment-kept i l))

    start-kept : (k : ℕ) → k < count_t xs → ports_fault (number_at xs 1) (ports_at (model_held xs) k) ≡ 0
    unfolding ports_at
    start-kept k l = ap (λ (s : Start). ports_fault (number_at xs 1) s.ports) (start_at-held k l) ∙ held-ports xs fit k l

    starts-kept : starts_fault (model_held xs) ≡ 0
    unfolding starts_fault model_held
    starts-kept =
        first_below-all (count_t xs) _
        (λ k l. or_else-none _ _ (unless-kept (ltb k 32) 4 (lt-ltb k 32 (omega (arith, (held-counts xs fit).threads)))) ∙ start-kept k l)

    counts-kept : counts_fault (model_held xs) ≡ 0
    unfolding counts_fault model_held count_numbers_fault
    counts-kept =
        let (n, rest) = or_else-zero (unless (leb 1 (count_n xs)) 2) _ (held-count xs fit) in
        or_else-none _ _ n ∙ (or_else-none _ _ (or_else-zero (unless (leb 1 (count_t xs)) 2) _ rest).0 ∙ starts-kept)

    segments-stay : any_segment_leaves (model_held xs) ≡ false
    unfolding any_segment_leaves model_held segment_held
    segments-stay =
        any_below-empty (count_n xs) _ (λ i l. ap (λ (g : Segment). leaves_model (count_n xs) g.closer) (segment_at-held i l)
        ∙ held-leaves xs fit i l)

    starts-stay : any_start_leaves (model_held xs) ≡ false
    unfolding any_start_leaves model_held
    starts-stay =
        any_below-empty (count_t xs) _
        (λ k l. ap (λ (s : Start). not (ltb s.first (count_n xs))) (start_at-held k l) ∙ ap not (lt-ltb _ _ (held_first xs fit k l)))

    targets-kept : targets_fault (model_held xs) ≡ 0
    unfolding targets_fault
    targets-kept = rw (segments-stay, starts-stay) refl

    first-held : (k : ℕ) → k < count_t xs → (start_at (model_held xs) k).first < count_n xs
    first-held k l = rw (start_at-held k l) (held_first xs fit k l)

    -- 18 of the model, as the code finds it
    pub lack-held :
        (m : Model) (x : ℕ) → m ≡ model_held xs →
        (m.n ≤ 64 → m.t ≤ 32 → ((k : ℕ) → k < m.t → (start_at m k).first < m.n) → x ≡ lack_fault m) → x ≡ lack_fault (model_held xs)
    unfolding model_held
    lack-held m x e f = (rw e at f) (held-counts xs fit).segments (held-counts xs fit).threads first-held

  pub held_kept : numbers_number xs ≡ 0 → model_fault (model_held xs) ≡ 0
  unfolding model_fault links_fault
  held_kept fit =
      let parts = held-parts xs fit in
      or_else-none _ _ (head-kept parts)
      ∙ (or_else-none _ _ (segments-kept parts)
      ∙ (or_else-none _ _ (counts-kept parts) ∙ (or_else-none _ _ (targets-kept parts) ∙ held-lack xs fit)))
