-- `plain_pack::names_port` meets its contract.
use Rattle.std.proofs.Common.{sym, ◌∙◌, ◌%◌}
use Rattle.std.proofs.lemmas.Bool.{lt-leb}
use Rattle.plain_words.proofs.MapLaws.{word_names-event, word_names-first, word_names-constant, word_names-second}
use Rattle.plain_pack.proofs.names_port.Goals as goal

pub returns-else-code-le4 : goal.returns-else-code-le4
returns-else-code-le4 c = lt-leb (c.args.w % 8) 4 c.if-code-le4.false ∙ word_names-event c.args.w c.if-code-le4.false

pub returns-then-is_port : goal.returns-then-is_port
returns-then-is_port c = c.if-is_port.true ∙ word_names-first c.args.w c.if-code-le4.true (sym c.is_port.ensures ∙ c.if-is_port.true)

pub returns-else-code-ge2 : goal.returns-else-code-ge2
returns-else-code-ge2 c =
    lt-leb 2 (c.args.w % 8) c.if-code-ge2.false ∙
    word_names-constant c.args.w c.if-code-le4.true (sym c.is_port.ensures ∙ c.if-is_port.false) c.if-code-ge2.false

pub returns-then-code-ge2 : goal.returns-then-code-ge2
returns-then-code-ge2 c =
    c.is_port-then-code-ge2.ensures ∙
    word_names-second c.args.w c.if-code-le4.true (sym c.is_port.ensures ∙ c.if-is_port.false) c.if-code-ge2.true
