-- `plain_cycle::is_out` meets its contract.
use Rattle.std.proofs.Common.{ℕ, ap, ◌∙◌}
use lib.Dec.{leb}
use Rattle.plain_state.proofs.ExitLaws.{is_out-least}
use Rattle.plain_state.proofs.DueLaws.{least-word}
use Rattle.plain_cycle.proofs.is_out.Goals as goal

pub returns-then-budget-n : goal.returns-then-budget-n
returns-then-budget-n c = let a = c.args in ap (λ (l : ℕ). leb l a.key) (least-word a.state.now a.t _ c.floor_of.ensures) ∙ is_out-least a.budget a.n _ a.key c.if-budget-n.true
