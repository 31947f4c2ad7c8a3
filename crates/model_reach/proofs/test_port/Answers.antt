-- `model_reach::test_port` meets its contract, closer by closer.
use mathlib.Core.Path.{refl, ◌∙◌}
use mathlib.Core.Logic.{⊎_elim}
use borrow.Author.Rules.{rules}
use Rattle.model_reach.specs.Store.{test_port}
use Rattle.model_reach.proofs.test_port.Goals as goal

pub returns-in-End : goal.returns-in-End
unfolding test_port
returns-in-End c = search rules

pub returns-in-Time : goal.returns-in-Time
unfolding test_port
returns-in-Time c = (rw c.from.ensures at c.port_bit.ensures) ∙ ⊎_elim (λ w. rw w.1 refl) (λ w. rw w.1 refl) c.in-Time.is
