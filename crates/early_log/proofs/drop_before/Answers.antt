-- `early_log::drop_before` meets its contract. The invariant: what stays of the first places, then nothing.
use Rattle.std.proofs.Common.{◌∙◌, ap, sym, refl, ◌≤◌, length, take, arith, length-take}
use lib.Seq.{take_all}
use Rattle.early.specs.Log.{log_of, drop_before}
use Rattle.early_log.specs.Noted.{no_pair}
use Rattle.early_log.proofs.LengthLaws.{log-length}
use Rattle.early_log.proofs.PlaceLaws.{padded, padded-none, site_of-padded}
use Rattle.early_log.proofs.HeldLaws.{log_of-first, drop_before-start, dropped-stays, dropped-goes}
use Rattle.early_log.proofs.drop_before.Goals as goal
use Rattle.early_log.proofs.drop_before.Goals.{then-not-is_dropped, else-not-is_dropped}

pub loop-x-init : goal.loop-x-init
loop-x-init c =
    let e = drop_before-start c.args.floor c.args.site.log in
    (omega arith, rw e refl, rw (c.nothing-log.ensures, e) padded-none)

pub loop-x-preserved : goal.loop-x-preserved
loop-x-preserved c =
    let x = c.args in
    let l = c.loop-x in
    let log = take c.within-n.result x.site.log in
    let few : length log ≤ 128 = omega (arith, length-take c.within-n.result x.site.log) in
    elim c.if-not-is_dropped.branch [
      | then-not-is_dropped w ↦
          let p = dropped-stays x.floor log l.log no_pair l.x-index l.count c.loop-x-test.true few l.invariant.1 l.invariant.2 _ w.from-p.ensures (sym c.is_dropped.ensures ∙ w.if-not-is_dropped.true) in
          rw (w.count-is, w.log-is) (omega arith, p.0, p.1)
      | else-not-is_dropped w ↦
          let p = dropped-goes x.floor log l.log no_pair l.x-index l.count c.loop-x-test.true few l.invariant.1 l.invariant.2 (sym c.is_dropped.ensures ∙ w.if-not-is_dropped.false) in
          rw (w.count-is, w.log-is) (omega arith, p.0, p.1)
    ]

pub returns : goal.returns
returns c =
    let x = c.args in
    let l = c.loop-x in
    let n = c.within-n.result in
    let size = log-length x.site _ c.well_formed.0 in
    let e = ap (drop_before x.floor) (take_all l.x-index (take n x.site.log) c.loop-x-test.false ∙ log_of-first x.site size n c.within-n.ensures) in
    site_of-padded x.site.variables (drop_before x.floor (log_of x.site)) l.log _ (l.invariant.2 ∙ ap padded e) (l.invariant.1 ∙ ap length e)
