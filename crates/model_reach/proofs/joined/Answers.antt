-- `model_reach::joined` meets its contract, case by case.
use mathlib.Core.Path.{sym, ◌∙◌}
use Rattle.model_reach.proofs.StoreLaws.{joined-over, joined-left}
use Rattle.model_reach.proofs.joined.Goals as goal

pub returns-then-has : goal.returns-then-has
returns-then-has c = joined-over _ _ _ (sym c.has.ensures ∙ c.if-has.true)

pub returns-else-has : goal.returns-else-has
returns-else-has c = joined-left _ _ _ (sym c.has.ensures ∙ c.if-has.false)
