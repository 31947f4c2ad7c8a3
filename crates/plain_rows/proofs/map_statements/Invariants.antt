-- `plain_rows::map_statements` meets its contract. The invariant: the first j statements are mapped.
use Rattle.plain_words.specs.Rows.{Mapped}
use Rattle.plain_rows.proofs.map_statements.Given as goal

abbrev pub invariant-loop-j : goal.invariant-loop-j
invariant-loop-j l = Mapped l.initial.code l.code l.turn l.s l.j
