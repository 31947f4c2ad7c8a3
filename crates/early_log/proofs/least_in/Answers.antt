-- `early_log::least_in` meets its contract. The invariant: the least of the places from i on.
use Rattle.std.proofs.Common.{◌≡◌, ◌∙◌, ◌-◌, not, arith, rules, tests}
use Rattle.clock.specs.Cycle.{is_before}
use Rattle.early_log.specs.Spread.{pair_in, log_in}
use Rattle.early_log.proofs.HeldLaws.{least_heard-none}
use Rattle.early_log.proofs.SpreadLaws.{log_in-length, least_in-heard, least_in-before, least_in-other}
use Rattle.early_log.proofs.least_in.Goals as goal

pub loop-i-init : goal.loop-i-init
loop-i-init c =
    let r = c.args.rows.now in
    let few = log_in-length r.events r.times r.deltas r.n in
    (omega arith, least_heard-none (log_in r.events r.times r.deltas r.n) _ _ c.min-i.result (omega arith))

pub loop-i-preserved-then-ge : goal.loop-i-preserved-then-ge
unfolding is_before
loop-i-preserved-then-ge c =
    let r = c.args.rows.now in
    let l = c.loop-i in
    let test : not (is_before (pair_in r.events r.times r.deltas (l.i - 1)).cycle c.args.since) ≡ c.ge.result = search (rules, tests) in
    (omega arith, least_in-heard r.events r.times r.deltas r.n _ _ l.i _ (omega arith) (omega arith) l.invariant.1 _ (omega arith) (test ∙ c.if-ge.true) c.least_of-best.ensures)

pub loop-i-preserved-else-ge : goal.loop-i-preserved-else-ge
unfolding is_before
loop-i-preserved-else-ge c =
    let r = c.args.rows.now in
    let l = c.loop-i in
    let test : not (is_before (pair_in r.events r.times r.deltas (l.i - 1)).cycle c.args.since) ≡ c.ge.result = search (rules, tests) in
    (omega arith, least_in-before r.events r.times r.deltas r.n _ _ l.i _ (omega arith) (omega arith) l.invariant.1 (omega arith) (test ∙ c.if-ge.false))

pub loop-i-preserved : goal.loop-i-preserved
loop-i-preserved c =
    let r = c.args.rows.now in
    let l = c.loop-i in
    (omega arith, least_in-other r.events r.times r.deltas r.n _ _ l.i _ (omega arith) (omega arith) l.invariant.1 (omega arith))

pub returns : goal.returns
returns c = let e : c.loop-i.i ≡ 0 = omega arith in rw e at c.loop-i.invariant.1
