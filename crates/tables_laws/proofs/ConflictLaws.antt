-- The marks: set exactly where two segments of the model both access a variable that at least one of them writes.
--     conflict-sym, mark-sym     whichever is named first
--     mark_at-marks_of, mark_at-no_marks     the table holds the marks
--     conflict→shared, shared→conflict     what a mark says, both ways
--     unmarked→apart     no unmarked pair touches a variable that one of them writes
--     mark-self     a segment that writes conflicts with itself
use Prim.Native.Nat.{ℕ, ◌+◌, ◌<◌}
use mathlib.Core.Path.{◌≡◌, ap₂, sym, ◌∙◌}
use mathlib.Core.Logic.{◌⊎◌, inl, inr}
use mathlib.Core.Bool.{Bool, true, false, ◌&&◌, ◌||◌}
use mathlib.Core.List.{[]}
use native.Mathlib.Omega.{arith}
use native.Mathlib.Nat.{zero-add}
use lib.Dec.{T, ltb, lt→ltb, ltb→lt, T_not}
use lib.ListN.{length, replicate, get_or-replicate}
use Rattle.base.specs.Index.{tabulate}
use Rattle.base.proofs.BoolLaws.{false→T, T-same, and→both, both→and, or→either, either→or}
use Rattle.base.proofs.IndexLaws.{any_below-some, any_below-found, tabulate-at, tabulate-length}
use Rattle.model.specs.declared.Model.{Model}
use Rattle.model.specs.Values.{segment_at}
use Rattle.model.specs.Footprint.{writes_of, uses_of}
use Rattle.model.specs.Rules.{model_fault}
use Rattle.model_rules.proofs.RuleLaws.{model_fault-counts}
use Rattle.model_effect.proofs.FrameLaws.{writes_of→uses_of}
use Rattle.tables.specs.Conflict.{conflict, mark, marks_of, no_marks, mark_at}

-- both access variable v, and at least one writes it
abbrev pub Shared : Model → ℕ → ℕ → ℕ → Type 0
Shared m r s v = (T (writes_of (segment_at m r) v) × T (uses_of (segment_at m s) v)) ⊎ (T (uses_of (segment_at m r) v) × T (writes_of (segment_at m s) v))

module _ (m : Model) (r s : ℕ) where
  -- the test at one variable
  abbrev shared_at : ℕ → Bool
  shared_at v = (uses_of (segment_at m r) v && uses_of (segment_at m s) v) && (writes_of (segment_at m r) v || writes_of (segment_at m s) v)

  shared_at→ : (v : ℕ) → T (shared_at v) → Shared m r s v
  shared_at→ v t =
      let (u, w) = and→both (uses_of (segment_at m r) v && uses_of (segment_at m s) v) (writes_of (segment_at m r) v || writes_of (segment_at m s) v) t in
      let (a, b) = and→both (uses_of (segment_at m r) v) (uses_of (segment_at m s) v) u in
      go a b (or→either (writes_of (segment_at m r) v) (writes_of (segment_at m s) v) w)
    where
      go : T (uses_of (segment_at m r) v) → T (uses_of (segment_at m s) v) → T (writes_of (segment_at m r) v) ⊎ T (writes_of (segment_at m s) v) → Shared m r s v
      go a b (inl w) = inl (w, b)
      go a b (inr w) = inr (a, w)

  →shared_at : (v : ℕ) → Shared m r s v → T (shared_at v)
  →shared_at v (inl (w, b)) =
      both→and (uses_of (segment_at m r) v && uses_of (segment_at m s) v) (writes_of (segment_at m r) v || writes_of (segment_at m s) v)
      (both→and (uses_of (segment_at m r) v) (uses_of (segment_at m s) v) (writes_of→uses_of (segment_at m r) v w) b)
      (either→or (writes_of (segment_at m r) v) (writes_of (segment_at m s) v) (inl w))
  →shared_at v (inr (a, w)) =
      both→and (uses_of (segment_at m r) v && uses_of (segment_at m s) v) (writes_of (segment_at m r) v || writes_of (segment_at m s) v)
      (both→and (uses_of (segment_at m r) v) (uses_of (segment_at m s) v) a (writes_of→uses_of (segment_at m s) v w))
      (either→or (writes_of (segment_at m r) v) (writes_of (segment_at m s) v) (inr w))

  pub conflict→shared : T (conflict m r s) → (v : ℕ) × (v < m.v) × Shared m r s v
  unfolding conflict
  conflict→shared t = let (v, h, u) = any_below-some m.v shared_at t in (v, h, shared_at→ v u)

  pub shared→conflict : (v : ℕ) → v < m.v → Shared m r s v → T (conflict m r s)
  unfolding conflict
  shared→conflict v h x = any_below-found m.v shared_at v h (→shared_at v x)

  pub mark→ : T (mark m r s) → (r < m.n) × (s < m.n) × T (conflict m r s)
  unfolding mark
  mark→ t =
      let (a, b) = and→both (ltb r m.n && ltb s m.n) (conflict m r s) t in
      let (p, q) = and→both (ltb r m.n) (ltb s m.n) a in
      (ltb→lt r m.n p, ltb→lt s m.n q, b)

  pub →mark : r < m.n → s < m.n → T (conflict m r s) → T (mark m r s)
  unfolding mark
  →mark h l t =
      both→and (ltb r m.n && ltb s m.n) (conflict m r s) (both→and (ltb r m.n) (ltb s m.n) (lt→ltb r m.n h) (lt→ltb s m.n l)) t

  pub mark→shared : T (mark m r s) → (v : ℕ) × (v < m.v) × Shared m r s v
  mark→shared t = let (h, l, x) = mark→ t in conflict→shared x

swapped : (m : Model) (r s v : ℕ) → Shared m r s v → Shared m s r v
swapped m r s v (inl (a, b)) = inr (b, a)
swapped m r s v (inr (a, b)) = inl (b, a)

conflict-swap : (m : Model) (r s : ℕ) → T (conflict m r s) → T (conflict m s r)
conflict-swap m r s t = let (v, h, x) = conflict→shared m r s t in shared→conflict m s r v h (swapped m r s v x)

pub conflict-sym : (m : Model) (r s : ℕ) → conflict m r s ≡ conflict m s r
conflict-sym m r s = T-same (conflict m r s) (conflict m s r) (conflict-swap m r s) (conflict-swap m s r)

mark-swap : (m : Model) (r s : ℕ) → T (mark m r s) → T (mark m s r)
mark-swap m r s t = let (h, l, x) = mark→ m r s t in →mark m s r l h (conflict-swap m r s x)

pub mark-sym : (m : Model) (r s : ℕ) → mark m r s ≡ mark m s r
mark-sym m r s = T-same (mark m r s) (mark m s r) (mark-swap m r s) (mark-swap m s r)

-- the table

pub mark_at-marks_of : (m : Model) (r s : ℕ) → r < 64 → s < 64 → mark_at (marks_of m) r s ≡ mark m r s
unfolding mark_at marks_of
mark_at-marks_of m r s h l =
    rw (tabulate-at 64 0 r (λ r. tabulate 64 0 (λ s. mark m r s)) [] h)
    (tabulate-at 64 0 s (λ s. mark m (0 + r) s) false l ∙ ap₂ (λ (x y : ℕ). mark m x y) (zero-add r) (zero-add s))

pub marks_of-length : (m : Model) → length (marks_of m) ≡ 64
unfolding marks_of
marks_of-length m = tabulate-length 64 0 (λ r. tabulate 64 0 (λ s. mark m r s))

pub mark_at-sym : (m : Model) (r s : ℕ) → r < 64 → s < 64 → mark_at (marks_of m) r s ≡ mark_at (marks_of m) s r
mark_at-sym m r s h l = mark_at-marks_of m r s h l ∙ (mark-sym m r s ∙ sym (mark_at-marks_of m s r l h))

module _ (m : Model) (fit : model_fault m ≡ 0) (r s : ℕ) (rn : r < m.n) (sn : s < m.n) where
  few : {i : ℕ} → i < m.n → i < 64
  few h = omega (arith, (model_fault-counts m fit).segments)

  -- a variable that both name directly
  pub shared→marked : (v : ℕ) → v < m.v → Shared m r s v → T (mark_at (marks_of m) r s)
  shared→marked v h x = rw (mark_at-marks_of m r s (few rn) (few sn)) (→mark m r s rn sn (shared→conflict m r s v h x))

  pub unmarked→apart : mark_at (marks_of m) r s ≡ false → (v : ℕ) → v < m.v → Shared m r s v → ⊥
  unmarked→apart e v h x = T_not (mark_at (marks_of m) r s) (false→T (mark_at (marks_of m) r s) e) (shared→marked v h x)

-- "A segment that writes conflicts with itself."
pub mark-self : (m : Model) → model_fault m ≡ 0 → (r v : ℕ) → r < m.n → v < m.v → T (writes_of (segment_at m r) v) → T (mark_at (marks_of m) r r)
mark-self m fit r v h l w = shared→marked m fit r r h h v l (inl (w, writes_of→uses_of (segment_at m r) v w))

pub mark_at-no_marks : (r s : ℕ) → r < 64 → s < 64 → mark_at no_marks r s ≡ false
unfolding mark_at
mark_at-no_marks r s h l = rw (get_or-replicate 64 r (replicate 64 false) [] h) (get_or-replicate 64 s false false l)
