-- `reader_segment::statements_fault` meets its contract. The invariant: the first j statements have no fault.
use mathlib.Core.Path.{◌≡◌, refl, sym}
use native.Mathlib.Omega.{arith}
use lib.ListN.{length-drop}
use Rattle.std.proofs.lemmas.Result.{err_from_is_err_and}
use Rattle.refusal.proofs.NumberLaws.{number_of-not_0}
use Rattle.reader.specs.Record.{statement_count}
use Rattle.reader_segment.proofs.SegmentLaws.{part-rest, statements_bytes_fault-none, statements_bytes_fault-more, statements_bytes_fault-here}
use Rattle.reader_segment.proofs.statements_fault.Goals as goal

pub loop-j-init : goal.loop-j-init
loop-j-init c = statements_bytes_fault-none _ _ _

pub statement_fault-requires : goal.statement_fault-requires
statement_fault-requires c = rw part-rest (simp length-drop (omega arith))

pub returns-in_err-statement_fault : goal.returns-in_err-statement_fault
returns-in_err-statement_fault c =
    let p = err_from_is_err_and c.from_residual.result c.from_residual.ensures.1 in
    rw (p.1, p.2)
    (statements_bytes_fault-here _ _ _ c.loop-j.j _ _ (omega arith) c.loop-j.invariant c.in_err-statement_fault.ensures (number_of-not_0 c.in_err-statement_fault.field-0.0))

pub loop-j-preserved : goal.loop-j-preserved
loop-j-preserved c = statements_bytes_fault-more _ _ _ c.loop-j.j 0 c.loop-j.invariant c.in_ok-statement_fault.ensures refl

pub returns : goal.returns
returns c = let e : c.loop-j.j ≡ statement_count c.args.r.now = omega arith in rw (← e) (sym c.loop-j.invariant)
