-- The exits of the public functions: a model against the file rules, a short buffer, neither.
use Prim.Native.Nat.{ℕ, ◌*◌, ◌≤◌, ◌<◌}
use mathlib.Core.Path.{◌≡◌, refl, sym, ◌∙◌}
use mathlib.Core.List.{List}
use native.Mathlib.Omega.{arith}
use native.Mathlib.Decide.{ℕ_discrete, dec_le}
use lib.ListN.{length}
use borrow.Author.Tests.{lt-ltb, le-ltb, eq-eqb, ne_eqb}
use Rattle.model.specs.declared.Model.{Model}
use Rattle.model.specs.Rules.{model_fault}
use Rattle.tables.specs.Conflict.{marks_of, no_marks}
use Rattle.tables.specs.Word.{stored}
use Rattle.tables.specs.Outcome.{if_held, conflict_number, conflict_marks, is_short, distances_number, distances_buffer}

pub if_held-yes : {A : Type 0} (m : Model) (x y : A) → model_fault m ≡ 0 → if_held m x y ≡ x
unfolding if_held
if_held-yes m x y e = rw (eq-eqb (model_fault m) 0 e) refl

pub if_held-no : {A : Type 0} (m : Model) (x y : A) → (model_fault m ≡ 0 → ⊥) → if_held m x y ≡ y
unfolding if_held
if_held-no m x y other = rw (ne_eqb (model_fault m) 0 other) refl

module _ (m : Model) where
  pub conflict-unfit : (model_fault m ≡ 0 → ⊥) → (11 ≡ conflict_number m) × (no_marks ≡ conflict_marks m)
  unfolding conflict_number conflict_marks
  conflict-unfit other = (sym (if_held-no m 0 11 other), sym (if_held-no m (marks_of m) no_marks other))

  pub conflict-held : model_fault m ≡ 0 → (0 ≡ conflict_number m) × (marks_of m ≡ conflict_marks m)
  unfolding conflict_number conflict_marks
  conflict-held e = (sym (if_held-yes m 0 11 e), sym (if_held-yes m (marks_of m) no_marks e))

  module _ (ws : List ℕ) where
    pub distances-unfit : (model_fault m ≡ 0 → ⊥) → (11 ≡ distances_number m ws) × (ws ≡ distances_buffer m ws)
    unfolding distances_number distances_buffer
    distances-unfit other = (sym (if_held-no m _ 11 other), sym (if_held-no m _ ws other))

    pub distances-short : model_fault m ≡ 0 → length ws < m.n * m.n → (16 ≡ distances_number m ws) × (ws ≡ distances_buffer m ws)
    unfolding distances_number distances_buffer is_short
    distances-short e h =
        (sym (if_held-yes m _ 11 e ∙ rw (lt-ltb (length ws) (m.n * m.n) h) refl), sym (if_held-yes m _ ws e ∙ rw (lt-ltb (length ws) (m.n * m.n) h) refl))

    pub distances-stored : (us : List ℕ) → model_fault m ≡ 0 → m.n * m.n ≤ length ws → us ≡ stored m ws → (0 ≡ distances_number m ws) × (us ≡ distances_buffer m ws)
    unfolding distances_number distances_buffer is_short
    distances-stored us e h f =
        (sym (if_held-yes m _ 11 e ∙ rw (le-ltb (length ws) (m.n * m.n) h) refl), f ∙ sym (if_held-yes m _ ws e ∙ rw (le-ltb (length ws) (m.n * m.n) h) refl))

    -- and back: where the number is 0, the model keeps the file rules and the words are stored
    pub distances-kept : distances_number m ws ≡ 0 → model_fault m ≡ 0
    distances-kept z = go (ℕ_discrete (model_fault m) 0)
      where
        go : Dec (model_fault m ≡ 0) → model_fault m ≡ 0
        go (yes e) = e
        go (no other) = absurd (omega (arith, (distances-unfit other).0))

    pub distances-made : distances_number m ws ≡ 0 → distances_buffer m ws ≡ stored m ws
    distances-made z = go (dec_le (m.n * m.n) (length ws))
      where
        go : Dec (m.n * m.n ≤ length ws) → distances_buffer m ws ≡ stored m ws
        go (yes h) = sym (distances-stored (stored m ws) (distances-kept z) h refl).1
        go (no h) = absurd (omega (arith, (distances-short (distances-kept z) (omega arith)).0))
