-- `tables_distance::direct_word` meets its contract: itself, a step to either next segment, no step.
use mathlib.Core.Path.{sym, ◌∙◌}
use native.Mathlib.Omega.{arith}
use borrow.Author.Tests.{eqb-true, eqb-false}
use Rattle.tables_distance.proofs.StoreLaws.{direct_word-self, direct_word-first, direct_word-second, direct_word-none}
use Rattle.tables_distance.proofs.direct_word.Goals.{then-from-s, else-from-s}
use Rattle.tables_distance.proofs.direct_word.Goals as goal

pub returns-then-r-s : goal.returns-then-r-s
returns-then-r-s c = direct_word-self _ _ _ (omega arith)

pub returns-then-from-s-2 : goal.returns-then-from-s-2
returns-then-from-s-2 c = elim c.if-from-s.branch [
  | then-from-s w ↦ direct_word-first _ _ _ c.if-r-s.false (omega arith)
  | else-from-s w ↦ let e = eqb-true w.from-else-from-s.result _ (sym w.value-is ∙ c.if-from-s-2.true) in direct_word-second _ _ _ c.if-r-s.false (λ f. omega arith) (omega arith)
]

pub returns-else-from-s-2 : goal.returns-else-from-s-2
returns-else-from-s-2 c = elim c.if-from-s.branch [
  | then-from-s w ↦ let e = eqb-false c.from.result _ (sym w.value-is ∙ c.if-from-s-2.false) in absurd (omega arith)
  | else-from-s w ↦ let e = eqb-false w.from-else-from-s.result _ (sym w.value-is ∙ c.if-from-s-2.false) in direct_word-none _ _ _ c.if-r-s.false (λ f. omega arith) (λ f. omega arith)
]
