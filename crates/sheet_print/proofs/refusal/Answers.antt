-- `sheet_print::refusal` meets its contract. The line is shorter than the array that it is made in, so nothing of it was cut.
use mathlib.Core.Path.{sym}
use native.Mathlib.Omega.{arith}
use lib.Seq.{length-take-le}
use Rattle.buffers.specs.Line.{rest_of}
use Rattle.buffers.proofs.PutLaws.{puts_then}
use Rattle.buffers.proofs.WriteLaws.{writes-uncut}
use Rattle.sheet.specs.Sheet.{refused_line}
use Rattle.sheet_print.proofs.refusal.Goals as goal

pub slice_bounds-text-end : goal.slice_bounds-text-end
slice_bounds-text-end c = c.put_last-n.ensures.0.within

pub slice_bounds-copy_in-end : goal.slice_bounds-copy_in-end
slice_bounds-copy_in-end c = sym (length-take-le _ _ c.put_last-n.ensures.0.within)

pub returns : goal.returns
unfolding refused_line rest_of
returns c =
    let k = c in
    let p = puts_then k.put_word-a.ensures (rw k.from.ensures at k.put_last-n.ensures.0) in
    let w = writes-uncut p (omega arith) c.copy_in.ensures in
    record { writes = w.0; number_len_bound = omega (arith, w.1) }
