-- `plain_rows::map_statements` meets its contract. The invariant: the first j statements are mapped.
use mathlib.Core.Path.{◌≡◌}
use native.Mathlib.Omega.{arith}
use Rattle.plain_words.proofs.RowLaws.{mapped-none, mapped-more}
use Rattle.plain_rows.proofs.map_statements.Goals as goal

pub loop-j-init : goal.loop-j-init
loop-j-init c = mapped-none c.args.code.now c.args.turn c.args.s c.requires.turn_bound.0 c.requires.turn_bound.1 c.requires.code_len

pub loop-j-preserved : goal.loop-j-preserved
loop-j-preserved c = let at = c in
    let here = at.loop-j in
    let a = at.args in
    let pre = at.requires in
    mapped-more a.code.now a.turn a.s pre.turn_bound.0 pre.turn_bound.1 here.code here.j _ (omega arith) here.invariant c.mapped_word.ensures

pub returns : goal.returns
returns c = let here = c.loop-j in
    let e : here.j ≡ 32 = omega arith in
    rw (← e) here.invariant
