-- `plain_rows::map_row` meets its contract.
use Rattle.plain_words.proofs.RowLaws.{mapped-own}
use Rattle.plain_rows.proofs.map_row.Goals as goal

pub returns-clause-own : goal.returns-clause-own
returns-clause-own c = let a = c.args in
    let (turn, s) = c.requires.turn_bound in
    mapped-own a.code.now a.turn a.s turn s c.requires.code_len _ c.mapped_choice-next.ensures _ c.map_statements.ensures
