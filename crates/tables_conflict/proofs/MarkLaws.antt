-- The marks that the code makes are those of `marks_of`, for a model that keeps the file rules.
use Prim.Native.Nat.{ℕ, ◌≤◌, ◌<◌}
use mathlib.Core.Path.{◌≡◌, refl, ap, sym, ◌∙◌}
use mathlib.Core.Logic.{inl, inr}
use mathlib.Core.Bool.{Bool, false, ◌&&◌, ◌||◌}
use mathlib.Core.List.{List, []}
use native.Mathlib.Omega.{arith}
use native.Mathlib.Nat.{zero-add}
use native.Mathlib.Decide.{dec_lt, ℕ_discrete}
use lib.Dec.{T}
use lib.ListN.{length, get_or, replicate, length-replicate, get_or-replicate}
use lib.Seq.{ext_get_or}
use borrow.Author.Tests.{lt-ltb, le-ltb}
use Rattle.base.specs.Index.{any_below, tabulate}
use Rattle.base.proofs.BoolLaws.{T-same, and→both}
use Rattle.base.proofs.IndexLaws.{any_below-some, any_below-found, tabulate-at, tabulate-length, tabulate-is, store_to-none, store_to-length, store_to-other, store_to-at}
use Rattle.model.specs.declared.Model.{Model}
use Rattle.model.specs.Values.{segment_at}
use Rattle.model.specs.Footprint.{writes_of, uses_of}
use Rattle.model.specs.Rules.{model_fault}
use Rattle.model_rules.proofs.RuleLaws.{Name, model_fault-counts, model_fault-segment, segment_fault-uses}
use Rattle.tables.specs.Conflict.{conflict, mark, marks_of, no_marks}
use Rattle.tables.specs.Outcome.{if_held, conflict_number, conflict_marks}
use Rattle.tables.proofs.OutcomeLaws.{if_held-yes, if_held-no, conflict-unfit, conflict-held}
use Rattle.tables_conflict.specs.declared.Masks.{Masks}
use Rattle.tables_conflict.specs.Mask.{masks, masks_of, clash, masks_for, row_to, rows_to}
use Rattle.tables_conflict.proofs.MaskLaws.{masks_of-bits, masks_of-lt, clash-bits}

-- the statements of each segment have places
abbrev pub Placed : Model → ℕ → Type 0
Placed m n = (i : ℕ) → i < n → (segment_at m i).n ≤ length (segment_at m i).statements

module _ (m : Model) (fit : model_fault m ≡ 0) (placed : Placed m m.n) where
  few : m.n ≤ 64
  few = (model_fault-counts m fit).segments

  module _ (r s : ℕ) (rn : r < m.n) (sn : s < m.n) where
    shared : ℕ → Bool
    shared v = (uses_of (segment_at m r) v && uses_of (segment_at m s) v) && (writes_of (segment_at m r) v || writes_of (segment_at m s) v)

    -- no bit from V on; a port has none
    below : any_below 64 shared ≡ any_below m.v shared
    unfolding shared
    below =
        T-same (any_below 64 shared) (any_below m.v shared)
        (λ t. let (v, l, u) = any_below-some 64 shared t in any_below-found m.v shared v (used v l u) u)
        (λ t. let (v, l, u) = any_below-some m.v shared t in any_below-found 64 shared v (let h = (model_fault-counts m fit).variables in omega arith) u)
      where
        variable : (v : ℕ) → v < 64 → Name m.v v → v < m.v
        variable v l (inl h) = h
        variable v l (inr (a, b)) = absurd (omega arith)

        used : (v : ℕ) → v < 64 → T (shared v) → v < m.v
        used v l u =
            let (a, b) = and→both (uses_of (segment_at m r) v && uses_of (segment_at m s) v) (writes_of (segment_at m r) v || writes_of (segment_at m s) v) u in
            let (x, y) = and→both (uses_of (segment_at m r) v) (uses_of (segment_at m s) v) a in
            variable v l (segment_fault-uses m.v m.e (segment_at m r) (model_fault-segment m fit r rn) v x)

    clash-conflict : clash (masks_of (segment_at m r)) (masks_of (segment_at m s)) ≡ mark m r s
    unfolding mark conflict shared
    clash-conflict =
        clash-bits (masks_of (segment_at m r)) (masks_of (segment_at m s)) (writes_of (segment_at m r)) (uses_of (segment_at m r)) (writes_of (segment_at m s)) (uses_of (segment_at m s))
        (masks_of-lt (segment_at m r)) (masks_of-bits (segment_at m r) (placed r rn)) (masks_of-bits (segment_at m s) (placed s sn))
        ∙ rw (lt-ltb r m.n rn, lt-ltb s m.n sn) below

  mark-past-row : (r s : ℕ) → m.n ≤ r → mark m r s ≡ false
  unfolding mark
  mark-past-row r s h = rw (le-ltb r m.n h) refl

  mark-past-column : (r s : ℕ) → r < m.n → m.n ≤ s → mark m r s ≡ false
  unfolding mark
  mark-past-column r s h l = rw (lt-ltb r m.n h, le-ltb s m.n l) refl

  all : List Masks
  all = masks_for m m.n

  all-at : (r : ℕ) → r < m.n → get_or all r (masks 0 0) ≡ masks_of (segment_at m r)
  unfolding all masks_for
  all-at r h =
      store_to-at _ 0 (replicate 64 (masks 0 0)) (masks 0 0) (λ i. masks_of (segment_at m i)) m.n r r (omega arith) (λ j l. refl) h (omega (arith, few, length-replicate 64 (masks 0 0)))

  row-marks : (r : ℕ) → r < m.n → row_to all r m.n ≡ tabulate 64 0 (λ s. mark m r s)
  unfolding row_to
  row-marks r h = tabulate-is false (row_to all r m.n) 64 (λ s. mark m r s) (store_to-length _ 0 base m.n) (λ s l. go s l (dec_lt s m.n))
    where
      f : ℕ → Bool
      f s = clash (get_or all r (masks 0 0)) (get_or all s (masks 0 0))

      base : List Bool
      base = replicate 64 false

      go : (s : ℕ) → s < 64 → Dec (s < m.n) → get_or (row_to all r m.n) s false ≡ mark m r s
      go s l (yes k) = store_to-at _ 0 base false f m.n s s (omega arith) (λ j l. refl) k (omega (arith, few)) ∙ rw (all-at r h, all-at s k) (clash-conflict r s h k)
      go s l (no k) =
          let k' : m.n ≤ s = omega arith in
          store_to-other _ 0 base false m.n s (inr (omega arith)) ∙ (get_or-replicate 64 s false false l ∙ sym (mark-past-column r s h k'))

  pub rows_to-marks_of : rows_to (masks_for m m.n) m.n m.n ≡ marks_of m
  unfolding rows_to marks_of all
  rows_to-marks_of =
      ext_get_or [] (rows_to all m.n m.n) (marks_of m)
      (store_to-length _ 0 no_marks m.n ∙ sym (tabulate-length 64 0 (λ r. tabulate 64 0 (λ s. mark m r s))))
      (λ r h. go r (omega (arith, store_to-length (λ r xs. f r) 0 no_marks m.n, length-replicate 64 (replicate 64 false))) (dec_lt r m.n))
    where
      f : ℕ → List Bool
      f r = row_to all r m.n

      row : (r : ℕ) → r < 64 → get_or (marks_of m) r [] ≡ tabulate 64 0 (λ s. mark m r s)
      row r h = tabulate-at 64 0 r (λ r. tabulate 64 0 (λ s. mark m r s)) [] h ∙ ap (λ (x : ℕ). tabulate 64 0 (λ s. mark m x s)) (zero-add r)

      go : (r : ℕ) → r < 64 → Dec (r < m.n) → get_or (rows_to all m.n m.n) r [] ≡ get_or (marks_of m) r []
      go r h (yes k) = store_to-at _ 0 no_marks [] f m.n r r (omega arith) (λ j l. refl) k (omega (arith, few)) ∙ (row-marks r k ∙ sym (row r h))
      go r h (no k) =
          let k' : m.n ≤ r = omega arith in
          store_to-other _ 0 no_marks [] m.n r (inr (omega arith))
          ∙ (get_or-replicate 64 r (replicate 64 false) [] h
          ∙ (tabulate-is false (replicate 64 false) 64 (λ s. mark m r s) refl (λ s l. get_or-replicate 64 s false false l ∙ sym (mark-past-row r s k')) ∙ sym (row r h)))

rows_to-none : (ms : List Masks) (n : ℕ) → no_marks ≡ rows_to ms n 0
unfolding rows_to
rows_to-none ms n = store_to-none _ 0 no_marks

-- for the code: n is N where the model keeps the file rules, else 0
module _ (m : Model) (n : ℕ) (count : n ≡ if_held m m.n 0) where
  held_none : (model_fault m ≡ 0 → ⊥) → n ≡ 0
  held_none other = count ∙ if_held-no m m.n 0 other

  held_all : model_fault m ≡ 0 → n ≡ m.n
  held_all fit = count ∙ if_held-yes m m.n 0 fit

  pub conflict_marks-made : (ms : List Masks) (out : List (List Bool)) → ms ≡ masks_for m n → Placed m n → out ≡ rows_to ms n n → out ≡ conflict_marks m
  conflict_marks-made ms out e placed f = go (ℕ_discrete (model_fault m) 0)
    where
      go : Dec (model_fault m ≡ 0) → out ≡ conflict_marks m
      go (yes fit) =
          let d = held_all fit in
          (rw d at (rw e at f)) ∙ (rows_to-marks_of m fit (rw d at placed) ∙ (conflict-held m fit).1)
      go (no other) = (rw (held_none other) at f) ∙ (sym (rows_to-none ms 0) ∙ (conflict-unfit m other).1)

-- a number of 0 is a model that keeps the file rules
pub numbered-held : (m : Model) (r : ℕ) → r ≡ conflict_number m → r ≡ 0 → model_fault m ≡ 0
numbered-held m r number none = go (ℕ_discrete (model_fault m) 0)
  where
    go : Dec (model_fault m ≡ 0) → model_fault m ≡ 0
    go (yes fit) = fit
    go (no other) = absurd (omega (arith, (conflict-unfit m other).0))

pub held_below : (m : Model) (n i : ℕ) → n ≡ if_held m m.n 0 → i < n → (model_fault m ≡ 0) × (n ≡ m.n)
held_below m n i count l = go (ℕ_discrete (model_fault m) 0)
  where
    go : Dec (model_fault m ≡ 0) → (model_fault m ≡ 0) × (n ≡ m.n)
    go (yes fit) = (fit, held_all m n count fit)
    go (no other) = let none = held_none m n count other in absurd (omega arith)

pub held-few : (m : Model) (n : ℕ) → n ≡ if_held m m.n 0 → n ≤ 64
held-few m n count = go (ℕ_discrete (model_fault m) 0)
  where
    go : Dec (model_fault m ≡ 0) → n ≤ 64
    go (yes fit) = let all = held_all m n count fit in omega (arith, (model_fault-counts m fit).segments)
    go (no other) = let none = held_none m n count other in omega arith
