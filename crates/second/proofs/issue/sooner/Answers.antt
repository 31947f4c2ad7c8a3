-- `second::issue::sooner` meets its contract.
use Rattle.std.proofs.Common.{arith, sym, refl, ◌∙◌}
use Rattle.second.specs.Desk.{sooner_of, lesser_of}
use Rattle.second.proofs.issue.sooner.Goals as goal

pub returns-then-is_due : goal.returns-then-is_due
unfolding sooner_of lesser_of
returns-then-is_due c = rw (sym c.is_due.ensures ∙ c.if-is_due.true, ← c.key_of.ensures.0) (grind (arith, c.min.ensures))

pub returns-else-is_due : goal.returns-else-is_due
unfolding sooner_of
returns-else-is_due c = rw (sym c.is_due.ensures ∙ c.if-is_due.false) refl
