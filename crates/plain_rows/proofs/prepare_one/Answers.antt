-- `plain_rows::prepare_one` meets its contract.
use Rattle.std.proofs.Common.{refl}
use Rattle.plain_words.proofs.RowLaws.{own_same}
use Rattle.plain_rows.proofs.prepare_one.Goals as goal

pub returns-clause-same : goal.returns-clause-same
returns-clause-same c = let a = c.args in
    let pre = c.requires in
    let done = c.hold.ensures in
    own_same a.held.now c.hold.new.held a.rows.now a.turn _ pre.turn_bound pre.in_rows refl c.if-s-ge64.false done.here done.others
