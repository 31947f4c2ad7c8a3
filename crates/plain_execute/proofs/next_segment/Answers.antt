-- `plain_execute::next_segment` meets its contract.
use Rattle.std.proofs.Common.{sym, ◌∙◌}
use Rattle.std.proofs.lemmas.Bool.{ltb-true}
use borrow.Author.Tests.{ltb-false, eq-eqb}
use Rattle.plain_words.proofs.ExitLaws.{next_by-untested, next_by-below, next_by-above}
use Rattle.plain_execute.proofs.next_segment.Goals.{then-test-eq255, else-test-eq255}
use Rattle.plain_execute.proofs.next_segment.Goals as goal

pub returns-then-from-next : goal.returns-then-from-next
returns-then-from-next c = let a = c.args in
    elim c.if-test-eq255.branch [
      | then-test-eq255 w ↦ next_by-untested a.next a.v.now w.if-test-eq255.true
      | else-test-eq255 w ↦ next_by-below a.next a.v.now w.if-test-eq255.false _ w.from.ensures (ltb-true _ _ (sym w.value-is ∙ c.if-from-next.true))
    ]

pub returns-else-from-next : goal.returns-else-from-next
returns-else-from-next c = let a = c.args in
    elim c.if-test-eq255.branch [
      | then-test-eq255 w ↦ absurd (cc (w.value-is, c.if-from-next.false, eq-eqb _ 255 w.if-test-eq255.true))
      | else-test-eq255 w ↦ next_by-above a.next a.v.now w.if-test-eq255.false _ w.from.ensures (ltb-false _ _ (sym w.value-is ∙ c.if-from-next.false))
    ]
