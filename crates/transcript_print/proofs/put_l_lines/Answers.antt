-- `transcript_print::put_l_lines` meets its contract. The invariant: the lines of the first pairs, below the index, are put.
use Prim.Native.Nat.{min}
use mathlib.Core.Path.{◌≡◌, refl}
use native.Mathlib.Omega.{arith}
use lib.ListN.{length, length-take}
use lib.Seq.{get_or-take}
use Rattle.clock.specs.Cycle.{cycle_at}
use Rattle.early.specs.Log.{pair_of}
use Rattle.buffers.proofs.PutLaws.{puts_none, puts-next}
use Rattle.transcript.specs.Transcript.{l_lines}
use Rattle.transcript_print.proofs.put_l_lines.Goals as goal

pub loop-x-init : goal.loop-x-init
unfolding l_lines
loop-x-init c = (puts_none _ _ _ (omega arith), omega arith)

pub loop-x-preserved : goal.loop-x-preserved
unfolding l_lines
loop-x-preserved c =
    let l = c.loop-x in
    let n = c.min-n.result in
    let xs = c.args.site.log in
    let here = get_or-take n xs l.x-index (pair_of 0 (cycle_at 0 0)) (omega (arith, length-take n xs)) in
    (puts-next (λ i. l_lines i xs) l.x-index l.invariant.0 c.put_l_line-to.ensures.0 (rw here refl), omega arith)

pub returns : goal.returns
returns c =
    let xs = c.args.site.log in
    let s : length xs ≡ 128 = omega arith in
    let e : c.loop-x.x-index ≡ min c.args.site.count 128 = omega (arith, length-take c.min-n.result xs) in
    (rw e at c.loop-x.invariant.0, omega arith)
