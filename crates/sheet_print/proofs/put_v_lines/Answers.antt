-- `sheet_print::put_v_lines` meets its contract. The invariant: the lines of the first i variables are put.
use Prim.Native.Nat.{min}
use mathlib.Core.Path.{◌≡◌, refl}
use native.Mathlib.Omega.{arith}
use lib.ListN.{length, length-take}
use lib.Seq.{get_or-take}
use Rattle.buffers.specs.Line.{rest_of}
use Rattle.buffers.proofs.PutLaws.{puts_none, puts_then, puts-next}
use Rattle.sheet.specs.Sheet.{v_line, v_lines}
use Rattle.sheet_print.proofs.put_v_lines.Goals as goal

pub loop-i-init : goal.loop-i-init
unfolding v_lines
loop-i-init c = (puts_none _ _ _ (omega arith), omega arith)

pub loop-i-preserved : goal.loop-i-preserved
unfolding v_line v_lines rest_of
loop-i-preserved c =
    let l = c.loop-i in
    let xs = c.args.xs.at in
    let line = puts_then c.put_byte-a.ensures (puts_then c.put_number-b.ensures.0 (rw (c.from-in-loop-i.ensures, get_or-take c.min-n.result xs l.i 0 (omega (arith, length-take c.min-n.result xs))) at c.put_last-to.ensures.0)) in
    (puts-next (λ i. v_lines i xs) l.i l.invariant.0 line refl, omega arith)

pub returns : goal.returns
returns c =
    let e : c.loop-i.i ≡ min c.args.v 64 = let s : length c.args.xs.at ≡ 64 = omega arith in omega (arith, length-take c.min-n.result c.args.xs.at) in
    (rw e at c.loop-i.invariant.0, omega arith)
