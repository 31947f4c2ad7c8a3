-- `export_step::may_ask` meets its contract.
use mathlib.Core.Path.{refl}
use Rattle.export_step.proofs.may_ask.Goals as goal

pub returns-then-are_held : goal.returns-then-are_held
returns-then-are_held c = rw (← c.are_held.ensures, c.if-are_held.true) refl

pub returns-else-are_held : goal.returns-else-are_held
returns-else-are_held c = rw (← c.are_held.ensures, c.if-are_held.false) refl
