-- `plain_execute::follow` meets its contract.
use Rattle.std.proofs.Common.{ℕ, ◌+◌, ◌*◌, ◌%◌, get_or, ap, ◌∙◌}
use Rattle.plain_words.specs.Unpack.{next_by}
use Rattle.plain_words.proofs.ExitLaws.{follow_by-over, follow_by-on}
use Rattle.plain_execute.proofs.follow.Goals as goal

pub returns-then-code-base-eq0 : goal.returns-then-code-base-eq0
returns-then-code-base-eq0 c = let a = c.args in follow_by-over a.code.now a.s a.v.now (rw c.from.ensures at c.if-code-base-eq0.true)

pub returns-else-code-base-eq0 : goal.returns-else-code-base-eq0
returns-else-code-base-eq0 c = let a = c.args in
    c.next_segment.ensures ∙
    (ap (λ (i : ℕ). next_by (get_or a.code.now (34 * (i % 128) + 1) 0) a.v.now) c.from.ensures ∙
    follow_by-on a.code.now a.s a.v.now (rw c.from.ensures at c.if-code-base-eq0.false))
