-- `clock::least_of` meets its contract: b where it is before a, else a.
use Rattle.std.proofs.Common.{sym, ◌∙◌}
use Rattle.clock.proofs.LeastLaws.{least-before, least_other}
use Rattle.clock.proofs.least_of.Goals as goal

pub returns-then-is_bound_before : goal.returns-then-is_bound_before
returns-then-is_bound_before c = least-before _ _ (sym c.is_bound_before.ensures ∙ c.if-is_bound_before.true)

pub returns-else-is_bound_before : goal.returns-else-is_bound_before
returns-else-is_bound_before c = least_other _ _ (sym c.is_bound_before.ensures ∙ c.if-is_bound_before.false)
