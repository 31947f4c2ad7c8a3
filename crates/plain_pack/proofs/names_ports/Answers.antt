-- `plain_pack::names_ports` meets its contract.
use Rattle.std.proofs.Common.{rules, sym, ◌∙◌, ◌+◌, ◌≤◌, length, arith}
use Rattle.std.proofs.lemmas.Iterator.{YieldsList-from_slice}
use Rattle.std.proofs.lemmas.Iterator.Search.{any_from_yields_List}
use borrow.Author.Tests.{tests}
use Rattle.plain_words.specs.Ports.{word_names}
use Rattle.plain_words.proofs.MapLaws.{names_from-test}
use Rattle.plain_pack.proofs.AnyLaws.{names_from-words}
use Rattle.plain_pack.proofs.names_ports.Goals as goal

pub returns-then-is_port : goal.returns-then-is_port
returns-then-is_port c = let a = c.args in c.if-is_port.true ∙ names_from-test a.code.now a.base a.n (sym c.is_port.ensures ∙ c.if-is_port.true)

pub returns-else-is_port : goal.returns-else-is_port
returns-else-is_port c =
    let a = c.args in
    let room : a.base + 2 + a.n ≤ length a.code.now = omega arith in
    any_from_yields_List word_names _ _ _ c.any.ensures.ran (YieldsList-from_slice _ c.iter.ensures.rest) (λ x b q k. search (rules, tests)) ∙
    names_from-words a.code.now a.base a.n room (sym c.is_port.ensures ∙ c.if-is_port.false)
