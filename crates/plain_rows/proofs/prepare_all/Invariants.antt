-- `plain_rows::prepare_all` meets its contract. The invariant: the threads before this one are prepared.
use Rattle.plain_words.specs.Rows.{Prepared}
use Rattle.plain_rows.proofs.prepare_all.Given as goal

abbrev pub invariant-loop-turn : goal.invariant-loop-turn
invariant-loop-turn l = Prepared l.initial.code l.initial.held l.initial.rows l.code l.held l.rows l.from l.turn
