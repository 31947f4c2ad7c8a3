-- `early_lent::request_of_rows` meets its contract: too few records, or the request by rows on them.
use lib.ListN.{length}
use Rattle.early.specs.ByRows.{request_by_rows}
use Rattle.early_laws.proofs.ByRowsLaws.{free-same}
use Rattle.early_lent.proofs.MovedLaws.{lent-short, lent-enough}
use Rattle.early_lent.proofs.request_of_rows.Goals as goal

-- fewer than the threads: no word is touched
pub returns-then-t-lent : goal.returns-then-t-lent
returns-then-t-lent c =
    let a = c.args in
    record { free = free-same a.row.now; left = lent-short a.m a.site a.before a.lent (request_by_rows a.m a.marks (length a.row.now) a.site a.before.at a.k.0) c.if-t-lent.true }

pub shape_of-row : goal.shape_of-row
shape_of-row c = c.request_by_rows-left.ensures.free.as_many

-- the request on the records
pub returns : goal.returns
returns c =
    let a = c.args in
    let left = lent-enough a.m a.site a.before a.lent (request_by_rows a.m a.marks (length a.row.now) a.site a.before.at a.k.0) _ c.if-t-lent.false c.request_by_rows-left.ensures.left in
    record { free = c.request_by_rows-left.ensures.free; left = left }
