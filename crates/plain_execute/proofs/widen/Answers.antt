-- `plain_execute::widen` meets its contract.
use Rattle.std.proofs.Common.{◌%◌}
use Rattle.plain_execute.proofs.OrderLaws.{widened-by}
use Rattle.plain_execute.proofs.widen.Goals as goal

pub returns : goal.returns
returns c = let a = c.args in widened-by (a.i % 33) a.first a.past a.ranges.now _ _ c.min.ensures c.max.ensures
