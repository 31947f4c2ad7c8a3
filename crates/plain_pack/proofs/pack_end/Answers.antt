-- `plain_pack::pack_end` meets its contract.
use Rattle.std.proofs.Common.{ℕ, ◌*◌, refl, ap, ◌∙◌, arith}
use Rattle.plain_words.proofs.PackLaws.{few-packed, end-few}
use Rattle.plain_pack.proofs.pack_end.Goals as goal

pub returns-in-End-clause-statements : goal.returns-in-End-clause-statements
returns-in-End-clause-statements c = let a = c.args in
    few-packed a.n a.closer _ (ap (λ (x : ℕ). 4 * x) c.few-size.ensures.word ∙ rw c.in-End.is refl)

pub returns-in-Time-clause-statements : goal.returns-in-Time-clause-statements
returns-in-Time-clause-statements c = end-few 1 _ _ c.few-size.ensures.range (omega arith)

pub returns-in-Event-clause-statements : goal.returns-in-Event-clause-statements
returns-in-Event-clause-statements c = end-few 2 _ _ c.few-size.ensures.range (omega arith)
