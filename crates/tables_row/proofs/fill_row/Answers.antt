-- `tables_row::fill_row` meets its contract: too short, no such segment, or the start, the passes and the cut.
use Prim.Native.Nat.{ℕ, min}
use mathlib.Core.Path.{refl, ap, ◌∙◌}
use native.Mathlib.Omega.{arith}
use lib.ListN.{length}
use Rattle.model_rules.proofs.RuleLaws.{model_fault-counts}
use Rattle.tables_row.proofs.StepLaws.{step_words-length}
use Rattle.tables_row.proofs.RowLaws.{row_done}
use Rattle.tables_row.proofs.fill_row.Goals as goal

pub returns-then-steps-lt64 : goal.returns-then-steps-lt64
returns-then-steps-lt64 c = record { kept = refl; row = λ m fit e f rn room. absurd (omega (arith, c.then-steps-lt64.either, step_words-length m, ap length f, (model_fault-counts m fit).segments)) }

pub returns-clause-row : goal.returns-clause-row
returns-clause-row c =
    let x = c.args in
    λ m fit e f rn room. row_done m x.r x.n _ x.steps.now x.row.now _ _ _ (c.min-k.ensures ∙ ap (λ (x : ℕ). min x 64) c.from.ensures) room c.start.ensures c.relax.ensures c.cut_words.ensures fit e f rn
