-- `plain_rows::prepare_all` meets its contract. The invariant: the threads before this one are prepared.
use mathlib.Core.Path.{◌≡◌}
use native.Mathlib.Omega.{arith}
use Rattle.plain_words.proofs.RowLaws.{prepared-start, prepared-more}
use Rattle.plain_rows.proofs.prepare_all.Goals as goal

pub loop-turn-init : goal.loop-turn-init
loop-turn-init c = let pre = c.requires in prepared-start c.args.code.now c.args.held.now c.args.rows.now pre.rowed pre.in_rows c.args.from c.args.to

pub prepare_one-requires : goal.prepare_one-requires
prepare_one-requires c = let at = c in
    let done = at.loop-turn.invariant in record { turn_bound = omega (arith, at.requires.from_le_to.1); rowed_2 = done.rowed; in_rows = done.placed }

pub loop-turn-preserved : goal.loop-turn-preserved
loop-turn-preserved c = let at = c in
    let one = c.prepare_one.ensures in
    prepared-more at.loop-turn.invariant one.rowed one.rows one.same one.plain one.others one.kept

pub returns : goal.returns
returns c = let at = c in
    let e : at.loop-turn.turn ≡ at.args.to = omega arith in
    rw (← e) at.loop-turn.invariant
