-- `plain_close::close_word` meets its contract.
use Rattle.std.proofs.Common.{◌∙◌, arith}
use Rattle.plain_state.proofs.ExitLaws.{close_word-over, close_word-event, close_word-zero-wait, close_word-timed-wait}
use Rattle.plain_close.proofs.close_word.Goals as goal

pub returns-in-0 : goal.returns-in-0
returns-in-0 c = close_word-over c.args.key c.args.end c.in-0.is

pub returns-in-2 : goal.returns-in-2
returns-in-2 c = let a = c.args in
    let kind = c.in-2.is in
    close_word-event a.key a.end (λ e. omega arith) kind

pub returns-in-0-2 : goal.returns-in-0-2
returns-in-0-2 c = let a = c.args in
    let units = c.in-0-2.is in
    c.next_delta.ensures ∙ close_word-zero-wait a.key a.end (λ e. omega arith) (λ e. omega arith) units

pub returns-in_default-2 : goal.returns-in_default-2
returns-in_default-2 c = let a = c.args in
    close_word-timed-wait a.key a.end (λ e. omega arith) (λ e. omega arith) (λ e. omega arith)
