-- `tables_row::relax` meets its contract: each pass but the last lowers the sum of the row.
use mathlib.Core.Path.{◌≡◌}
use native.Mathlib.Omega.{arith}
use lib.ListN.{length}
use Rattle.tables_row.proofs.LowerLaws.{Falls-trans, relax-rests}
use Rattle.tables_row.proofs.relax.Goals as goal

pub loop-changed-preserved : goal.loop-changed-preserved
loop-changed-preserved c =
    let l = c.loop-changed in
    let size : length l.row ≡ length c.args.row.now = omega arith in
    let lowers = rw size at c.pass-changed.ensures.lowers in
    (Falls-trans l.invariant.0 lowers.fall, relax-rests _ lowers (rw size at c.pass-changed.ensures.rests))
