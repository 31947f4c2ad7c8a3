-- `model_effect::next_of` meets its contract: no test, below the limit, not below it.
use Rattle.std.proofs.Common.{◌≡◌, ◌∙◌, sym, true, false}
use borrow.Author.Tests.{ltb-true, ltb-false, eq-eqb}
use Rattle.model_effect.proofs.EffectLaws.{next_of-untested, next_of-below, next_of-above}
use Rattle.model_effect.proofs.next_of.Goals as goal
use Rattle.model_effect.proofs.next_of.Goals.{then-x-eq255, else-x-eq255}

pub returns-then-value-x : goal.returns-then-value-x
returns-then-value-x c =
    elim c.if-x-eq255.branch [
      | then-x-eq255 w ↦ next_of-untested _ _ w.if-x-eq255.true
      | else-x-eq255 w ↦ next_of-below _ _ w.if-x-eq255.false (rw (← w.from.ensures) (rw w.value.ensures at (ltb-true _ _ (sym w.value-is ∙ c.if-value-x.true))))
    ]

pub returns-else-value-x : goal.returns-else-value-x
returns-else-value-x c =
    elim c.if-x-eq255.branch [
      | then-x-eq255 w ↦ let e : true ≡ false = sym (w.value-is ∙ eq-eqb _ 255 w.if-x-eq255.true) ∙ c.if-value-x.false in cc
      | else-x-eq255 w ↦ next_of-above _ _ w.if-x-eq255.false (rw (← w.from.ensures) (rw w.value.ensures at (ltb-false _ _ (sym w.value-is ∙ c.if-value-x.false))))
    ]
