-- What the number beside the words says of the model and the buffer.
--     accepted-held     0: the model keeps the file rules, and the buffer has room
--     refused-buffer     any other: no word is written
use Prim.Native.Nat.{ℕ, ◌*◌, ◌≤◌, ◌<◌}
use mathlib.Core.Path.{◌≡◌, refl, sym, ◌∙◌}
use mathlib.Core.List.{List}
use native.Mathlib.Decide.{dec_lt, ℕ_discrete}
use native.Mathlib.Omega.{arith}
use lib.ListN.{length}
use Rattle.model.specs.declared.Model.{Model}
use Rattle.model.specs.Rules.{model_fault}
use Rattle.tables.specs.Word.{stored}
use Rattle.tables.specs.Outcome.{distances_number, distances_buffer}
use Rattle.tables.proofs.OutcomeLaws.{distances-unfit, distances-short, distances-stored}

module _ (m : Model) (ws : List ℕ) (r : ℕ) (number : r ≡ distances_number m ws) where
  pub accepted-held : r ≡ 0 → (model_fault m ≡ 0) × (m.n * m.n ≤ length ws)
  accepted-held e = go (ℕ_discrete (model_fault m) 0) (dec_lt (length ws) (m.n * m.n))
    where
      go : Dec (model_fault m ≡ 0) → Dec (length ws < m.n * m.n) → (model_fault m ≡ 0) × (m.n * m.n ≤ length ws)
      go (no other) l = absurd (omega (arith, (distances-unfit m ws other).0))
      go (yes fit) (yes short) = absurd (omega (arith, (distances-short m ws fit short).0))
      go (yes fit) (no l) = (fit, omega arith)

  pub refused-buffer : (r ≡ 0 → ⊥) → ws ≡ distances_buffer m ws
  refused-buffer other = go (ℕ_discrete (model_fault m) 0) (dec_lt (length ws) (m.n * m.n))
    where
      go : Dec (model_fault m ≡ 0) → Dec (length ws < m.n * m.n) → ws ≡ distances_buffer m ws
      go (no unfit) l = (distances-unfit m ws unfit).1
      go (yes fit) (yes short) = (distances-short m ws fit short).1
      go (yes fit) (no l) = absurd (other (number ∙ sym (distances-stored m ws (stored m ws) fit (omega arith) refl).0))
