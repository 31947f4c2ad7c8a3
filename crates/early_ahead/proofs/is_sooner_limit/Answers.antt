-- `early_ahead::is_sooner_limit` meets its contract: sooner, a tie, later.
use mathlib.Core.Path.{sym, ◌∙◌}
use native.Mathlib.Omega.{arith}
use borrow.Author.Tests.{le-ltb, ne_eqb}
use Rattle.early_ahead.proofs.LimitLaws.{is_sooner_limit-same, is_sooner_limit-other}
use Rattle.early_ahead.proofs.is_sooner_limit.Goals as goal

pub returns-then-b-c : goal.returns-then-b-c
returns-then-b-c c = is_sooner_limit-other _ _ _ _ (λ e. omega arith)

pub returns-then-b-c-2 : goal.returns-then-b-c-2
returns-then-b-c-2 c = is_sooner_limit-same _ _ _ _ (omega arith)

pub returns-else-b-c-2 : goal.returns-else-b-c-2
returns-else-b-c-2 c = let x = c.args in ne_eqb x.b x.c (λ e. omega arith) ∙ sym (le-ltb x.b x.c (omega arith)) ∙ is_sooner_limit-other _ _ _ x.b (λ e. omega arith)
