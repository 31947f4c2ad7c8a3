-- `early_lent::call_of_rows` meets its contract: too few records, or the call by rows on them.
use mathlib.Core.Path.{ap, ◌∙◌}
use lib.ListN.{length}
use Rattle.early.specs.Call.{Called, call_by_rows}
use Rattle.early_laws.proofs.ByRowsLaws.{free-same}
use Rattle.early_laws.proofs.CallLaws.{call_by_rows-held-length}
use Rattle.early_lent.proofs.MovedLaws.{lent-short, lent-enough, held-short, held-enough}
use Rattle.early_lent.proofs.call_of_rows.Goals as goal

-- fewer than the threads: no word is touched, and what is held stays
pub returns-then-needed-lent : goal.returns-then-needed-lent
returns-then-needed-lent c =
    let a = c.args in
    let r : Called = call_by_rows a.m a.marks (length a.row.now) a.site a.before.at a.held.now a.call in
    record {
      free = free-same a.row.now;
      left = lent-short a.m a.site a.before a.lent r.left c.if-needed-lent.true;
      held = held-short a.m a.site a.before a.lent a.held.now r c.if-needed-lent.true;
    }

pub shape_of-row : goal.shape_of-row
shape_of-row c = c.call_by_rows-left.ensures.free.as_many

pub shape_of-held : goal.shape_of-held
shape_of-held c = ap length c.call_by_rows-left.ensures.held ∙ call_by_rows-held-length _ _ _ _ _ _ _

-- the call on the records
pub returns : goal.returns
returns c =
    let a = c.args in
    let r : Called = call_by_rows a.m a.marks (length a.row.now) a.site a.before.at a.held.now a.call in
    let enough = c.if-needed-lent.false in
    record {
      free = c.call_by_rows-left.ensures.free;
      left = lent-enough a.m a.site a.before a.lent r.left _ enough c.call_by_rows-left.ensures.left;
      held = held-enough a.m a.site a.before a.lent a.held.now r _ enough c.call_by_rows-left.ensures.held;
    }
