-- `early_log::spread` meets its contract. The invariant: the first i places of the rows are those of the log.
use Rattle.std.proofs.Common.{◌<◌, arith, refl, length-take}
use Rattle.early_log.proofs.LengthLaws.{log-length}
use Rattle.early_log.proofs.SpreadLaws.{spread-copied, spread-all}
use Rattle.early_log.proofs.spread.Goals as goal

pub loop-i-init : goal.loop-i-init
loop-i-init c = (c.within.ensures, record { size = (refl, refl, refl); each = λ j h. absurd (omega arith) })

pub loop-i-preserved : goal.loop-i-preserved
loop-i-preserved c =
    let s = c.args.site in
    let l = c.loop-i in
    let below : l.i < c.within.result = omega (arith, length-take c.within.result s.log) in
    (l.invariant.0, spread-copied s l.rows.events l.rows.times l.rows.deltas c.within.result l.i below (omega arith) l.invariant.1)

pub returns : goal.returns
returns c =
    let s = c.args.site in
    let l = c.loop-i in
    let size = log-length s _ c.well_formed.0 in
    spread-all s l.rows.events l.rows.times l.rows.deltas l.i _ size l.invariant.0 (omega (arith, length-take c.within.result s.log)) l.invariant.1
