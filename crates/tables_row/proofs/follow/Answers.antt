-- `tables_row::follow` meets its contract: not reached yet, no step, a word lowered, or not.
use mathlib.Core.Path.{◌≡◌}
use native.Mathlib.Omega.{arith}
use lib.ListN.{length}
use Rattle.tables_row.proofs.LowerLaws.{follow-lowers, follow-rests}
use Rattle.tables_row.proofs.follow.Goals as goal

pub returns-then-x-clause-lowers : goal.returns-then-x-clause-lowers
returns-then-x-clause-lowers c =
    let x = c.args in
    let size : length c.lower-x.new.row ≡ length x.row.now = omega arith in
    let p =
    follow-lowers x.steps.now (length x.row.now) x.s (omega arith) x.row.now _ _ _ _ _ (omega arith) c.sum_word-c.ensures
    c.lower-x.ensures.told c.lower-x.ensures.after (rw size at c.lower-y.ensures.told) (rw size at c.lower-y.ensures.after) in
    rw c.if-x.true (rw c.if-x.true at p)

pub returns-else-x : goal.returns-else-x
returns-else-x c =
    let x = c.args in
    let size : length c.lower-x.new.row ≡ length x.row.now = omega arith in
    let p =
    follow-lowers x.steps.now (length x.row.now) x.s (omega arith) x.row.now _ _ _ _ _ (omega arith) c.sum_word-c.ensures
    c.lower-x.ensures.told c.lower-x.ensures.after (rw size at c.lower-y.ensures.told) (rw size at c.lower-y.ensures.after) in
    let q =
    follow-rests x.steps.now (length x.row.now) x.s (omega arith) x.row.now _ _ _ _ _ (omega arith) c.sum_word-c.ensures
    c.lower-x.ensures.told c.lower-x.ensures.after (rw size at c.lower-y.ensures.told) (rw size at c.lower-y.ensures.after) c.if-x.false in
    record { lowers = rw c.if-x.false at p; rests = q }
