-- `model_rules::leaves_model` meets its contract, closer by closer.
use mathlib.Core.Path.{refl}
use mathlib.Core.Logic.{⊎_elim}
use native.Mathlib.Omega.{arith}
use Rattle.model.specs.Rules.{leaves_model}
use Rattle.model_rules.proofs.leaves_model.Goals as goal

pub returns-in-End : goal.returns-in-End
unfolding leaves_model
returns-in-End c = grind arith

pub returns-in-Time : goal.returns-in-Time
unfolding leaves_model
returns-in-Time c = ⊎_elim (λ w. rw w.1 refl) (λ w. rw w.1 refl) c.in-Time.is
