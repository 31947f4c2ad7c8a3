-- `early_lent::request_of` meets its contract: too few records, or the request on them.
use Rattle.early.specs.Request.{request_of}
use Rattle.early_lent.proofs.MovedLaws.{lent-short, lent-enough}
use Rattle.early_lent.proofs.request_of.Goals as goal

-- fewer than the threads
pub returns-then-lent-t : goal.returns-then-lent-t
returns-then-lent-t c = let a = c.args in lent-short a.m a.site a.before a.lent (request_of a.m a.marks a.words.now a.site a.before.at a.k.0) c.if-lent-t.true

-- the request on the records
pub returns : goal.returns
returns c = lent-enough _ _ _ _ _ _ c.if-lent-t.false c.request-after.ensures.left
