-- `model_rules::any_start_leaves` meets its contract.
use mathlib.Core.Path.{◌≡◌}
use native.Mathlib.Omega.{arith}
use lib.ListN.{length}
use borrow.Author.Count.{below_more}
use Rattle.model_rules.proofs.FaultLaws.{start_at-taken, start_leaves-above, start_leaves-below, any_start_leaves-here, any_start_leaves-end}
use Rattle.model_rules.proofs.any_start_leaves.Goals as goal

pub returns-then-m-x : goal.returns-then-m-x
returns-then-m-x c =
    let m = c.args.m.now in
    let k = c.loop-x.x-index in
    any_start_leaves-here m k (omega arith) (start_leaves-above m k (rw (start_at-taken m _ k _ c.loop-x-test.true) at c.if-m-x.true))

pub loop-x-preserved : goal.loop-x-preserved
loop-x-preserved c =
    let m = c.args.m.now in
    let k = c.loop-x.x-index in
    below_more _ _ c.loop-x.invariant (start_leaves-below m k (rw (start_at-taken m _ k _ c.loop-x-test.true) at c.if-m-x.false))

pub returns : goal.returns
returns c =
    let m = c.args.m.now in
    let s : length m.starts ≡ 32 = omega arith in
    any_start_leaves-end m c.loop-x.x-index s (λ l. omega arith) c.loop-x.invariant
