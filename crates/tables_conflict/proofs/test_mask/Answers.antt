-- `tables_conflict::test_mask` meets its contract, closer by closer.
use mathlib.Core.Path.{refl, ap, ◌∙◌}
use mathlib.Core.Logic.{⊎_elim}
use borrow.Author.Rules.{rules}
use Rattle.masks.specs.Mask.{bit_of}
use Rattle.tables_conflict.specs.Mask.{test_mask}
use Rattle.tables_conflict.proofs.test_mask.Goals as goal

pub returns-in-End : goal.returns-in-End
unfolding test_mask
returns-in-End c = search rules

pub returns-in-Time : goal.returns-in-Time
unfolding test_mask
returns-in-Time c = c.bit.ensures ∙ ap bit_of c.from.ensures ∙ ⊎_elim (λ w. rw w.1 refl) (λ w. rw w.1 refl) c.in-Time.is
