-- `tables_row::pass` meets its contract: the step of each place.
use mathlib.Core.Logic.{inl, inr}
use mathlib.Core.Path.{◌≡◌}
use native.Mathlib.Omega.{arith}
use lib.ListN.{length}
use Rattle.tables_row.proofs.LowerLaws.{pass-more}
use Rattle.tables_row.proofs.pass.Goals.{then-follow, else-follow}
use Rattle.tables_row.proofs.pass.Goals as goal

pub loop-s-preserved : goal.loop-s-preserved
loop-s-preserved c =
    let x = c.args in
    let l = c.loop-s in
    let size : length l.row ≡ length x.row.now = omega arith in
    let p =
    pass-more x.steps.now (length x.row.now) l.s x.row.now l.row _ l.changed _ c.if-follow.changed l.invariant.0 l.invariant.1
    (rw size at c.follow.ensures.lowers) (rw size at c.follow.ensures.rests) (elim c.if-follow.branch [
      | then-follow w ↦ inl (w.if-follow.true, w.changed-is)
      | else-follow w ↦ inr (w.if-follow.false, w.changed-is)
    ]) in
    p
