-- `clock::is_bound_before` meets its contract: never is before nothing, a cycle before never, and two cycles as they compare.
use Rattle.std.proofs.Common.{◌∙◌, rules}
use Rattle.clock.specs.Advance.{is_bound_before}
use Rattle.clock.proofs.LeastLaws.{is_bound_before-At}
use Rattle.clock.proofs.is_bound_before.Goals as goal

-- a is never
pub returns-in_default : goal.returns-in_default
unfolding is_bound_before
returns-in_default c = search rules

-- b is never
pub returns-in_default-b : goal.returns-in_default-b
unfolding is_bound_before
returns-in_default-b c = search rules

-- two cycles
pub returns : goal.returns
returns c =
    c.is_before.ensures ∙
    is_bound_before-At c.in-At.is c.in-At-b.is
