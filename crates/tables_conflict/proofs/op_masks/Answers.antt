-- `tables_conflict::op_masks` meets its contract, operation by operation.
use mathlib.Core.Path.{refl, ◌∙◌}
use mathlib.Core.Logic.{⊎_elim}
use Rattle.tables_conflict.specs.Mask.{op_masks}
use Rattle.tables_conflict.proofs.op_masks.Goals as goal

pub returns-in-Notify : goal.returns-in-Notify
unfolding op_masks
returns-in-Notify c = rw c.in-Notify.is refl

pub returns-in-Copy : goal.returns-in-Copy
unfolding op_masks
returns-in-Copy c = c.two_masks.ensures ∙ ⊎_elim (λ w. rw w refl)
    (⊎_elim (λ w. rw w refl) (λ w. rw w refl)) c.in-Copy.is

pub returns-in-Set : goal.returns-in-Set
unfolding op_masks
returns-in-Set c = c.one_mask.ensures ∙ ⊎_elim (λ w. rw w.1 refl) (λ w. rw w.1 refl) c.in-Set.is
