-- `plain_rows::hold` meets its contract.
use Rattle.plain_words.proofs.RowLaws.{rowed-held}
use Rattle.plain_rows.proofs.hold.Goals as goal

pub returns-clause-rowed : goal.returns-clause-rowed
returns-clause-rowed c = let a = c.args in
    let (turn, s) = c.requires.turn_bound in
    let done = c.map_row.ensures in
    rowed-held a.code.now _ a.held.now a.turn a.s turn c.requires.rowed_2 done.places (rw (← c.from.ensures) done.own) done.kept
