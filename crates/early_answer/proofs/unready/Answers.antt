-- `early_answer::unready` meets its contract.
use mathlib.Core.Path.{refl}
use mathlib.Core.Logic.{⊎_elim}
use Rattle.early_answer.proofs.VariantLaws.{is_running-self}
use Rattle.early_answer.proofs.unready.Goals as goal

pub returns-in-Ended : goal.returns-in-Ended
returns-in-Ended c = ⊎_elim (λ w. rw w.1 refl) (⊎_elim (λ w. rw w.1 refl) (⊎_elim (λ w. rw w.1 refl) (λ w. rw w.2 refl))) c.in-Ended.is

pub returns-in-Running : goal.returns-in-Running
returns-in-Running c = rw (is_running-self c.args.s _ c.in-Running.is) refl
