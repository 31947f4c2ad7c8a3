-- `sheet_print::sheet` meets its contract. The text is shorter than the array that it is made in, so nothing of it was cut.
use mathlib.Core.Path.{sym}
use native.Mathlib.Omega.{arith}
use lib.Seq.{length-take-le}
use borrow.Author.Tests.{eq-eqb, ne_eqb}
use Rattle.buffers.proofs.PutLaws.{puts_then}
use Rattle.buffers.proofs.WriteLaws.{writes-uncut}
use Rattle.sheet.specs.Sheet.{run_sheet, sheet_of}
use Rattle.sheet_print.proofs.sheet.Goals as goal

pub returns-then-run-ne0 : goal.returns-then-run-ne0
unfolding sheet_of
returns-then-run-ne0 c = rw (ne_eqb _ 0 c.if-run-ne0.true) (record { writes = c.refusal.ensures.writes; run_len_bound = c.refusal.ensures.number_len_bound })

pub slice_bounds-text-end : goal.slice_bounds-text-end
slice_bounds-text-end c = c.put_end-n.ensures.0.within

pub slice_bounds-copy_in-end : goal.slice_bounds-copy_in-end
slice_bounds-copy_in-end c = sym (length-take-le _ _ c.put_end-n.ensures.0.within)

pub returns : goal.returns
unfolding run_sheet sheet_of
returns c =
    let k = c in
    let v = k in
    let p = puts_then v.put_v_lines-a.ensures.0 (puts_then k.put_t_lines-b.ensures.0 k.put_end-n.ensures.0) in
    let w = writes-uncut p (omega arith) c.copy_in.ensures in
    rw (eq-eqb _ 0 v.if-run-ne0.false) (record { writes = w.0; run_len_bound = omega (arith, w.1) })
