-- `early_answer::is_full` meets its contract: between 96 and 128 by the floor.
use mathlib.Core.Path.{ap, ◌∙◌}
use native.Mathlib.Omega.{arith}
use Rattle.clock.specs.declared.Bound.TheVariants.{At}
use Rattle.clock.specs.Advance.{is_bound_before}
use Rattle.plain.specs.Wake.{floor_below}
use Rattle.early_answer.proofs.AnsweredLaws.{floor-few, full-early}
use Rattle.early_answer.proofs.is_full.Goals as goal

pub returns-then-places-gt96 : goal.returns-then-places-gt96
returns-then-places-gt96 c = let x = c.args in
    full-early (floor_below x.t x.threads.at) x.c x.places _
    (c.is_bound_before.ensures ∙ ap (λ y. is_bound_before y (At x.c)) (floor-few x.t x.threads.at (omega arith) c.floor_of.ensures))
    (omega arith) (omega arith)
