-- `sheet_print::put_t_lines` meets its contract. The invariant: the lines of the first k threads are put.
use Prim.Native.Nat.{min}
use mathlib.Core.Path.{◌≡◌, refl}
use native.Mathlib.Omega.{arith}
use borrow.Author.Rules.{rules}
use lib.ListN.{length, length-take}
use lib.Seq.{get_or-take}
use Rattle.model.specs.Record.{no_thread, thread_at}
use Rattle.buffers.specs.Line.{rest_of}
use Rattle.buffers.proofs.PutLaws.{puts_none, puts_then, puts-next}
use Rattle.sheet.specs.Sheet.{t_line, t_lines}
use Rattle.sheet_print.proofs.put_t_lines.Goals as goal

pub loop-k-init : goal.loop-k-init
unfolding t_lines
loop-k-init c = (puts_none _ _ _ (omega arith), omega arith)

pub loop-k-preserved : goal.loop-k-preserved
unfolding thread_at t_line t_lines rest_of
loop-k-preserved c =
    let l = c.loop-k in
    let xs = c.args.xs.at in
    let numbers = puts_then c.put_number-b.ensures.0 (puts_then (rw c.from-in-loop-k.ensures at c.put_number-c.ensures.0) c.put_state-to.ensures.0) in
    let line = puts_then c.put_byte-a.ensures numbers in
    let here = get_or-take c.min-n.result xs l.k no_thread (omega (arith, length-take c.min-n.result xs)) in
    (puts-next (λ k. t_lines k xs) l.k l.invariant.0 line (rw here refl), omega arith)

pub returns : goal.returns
returns c =
    let e : c.loop-k.k ≡ min c.args.t 32 = let s : length c.args.xs.at ≡ 32 = search rules in omega (arith, length-take c.min-n.result c.args.xs.at) in
    (rw e at c.loop-k.invariant.0, omega arith)
