-- `reader_record::fault_after` meets its contract: 1 to 3, then 4, then a segment's 5 to 7 or the 17 of a thread's ports.
use mathlib.Core.Path.{refl, sym}
use native.Mathlib.Omega.{arith}
use Rattle.std.proofs.lemmas.Result.{err_from_is_err_and}
use Rattle.refusal.proofs.NumberLaws.{number_of-not_0}
use Rattle.reader_record.specs.Kinds.{kind_number, last_number}
use Rattle.reader_record.proofs.RecordLaws.{Opened, opened-length, opened-head, opened-fits, opened-ports}
use Rattle.reader_record.proofs.FaultLaws.{record_fault-framing, record_fault-count, record_fault-own}
use Rattle.reader_record.proofs.fault_after.Goals.{In_ok-frame}
use Rattle.reader_record.proofs.fault_after.Goals as goal

opened : (c : In_ok-frame) → let f = c.in_ok-frame.frame in Opened (last_number c.args.last) c.args.b.now f.size (kind_number f.kind)
opened c = let e = c.in_ok-frame.ensures in record { none = sym e.fault; is_size = e.frame.size; is_kind = e.frame.kind }

pub returns-in_err-frame-clause-fault : goal.returns-in_err-frame-clause-fault
returns-in_err-frame-clause-fault c =
    let p = err_from_is_err_and c.from_residual.result c.from_residual.ensures.1 in
    rw (p.1, p.2) (record_fault-framing _ _ _ _ c.in_err-frame.ensures.fault (number_of-not_0 c.in_err-frame.field-0.0))

pub slice_bounds-r-end : goal.slice_bounds-r-end
slice_bounds-r-end c = sym (opened-length (opened c))

pub count_fault-requires : goal.count_fault-requires
count_fault-requires c = λ e. omega (arith, opened-head (opened c) e)

pub returns-in_err-count_fault-clause-fault : goal.returns-in_err-count_fault-clause-fault
returns-in_err-count_fault-clause-fault c =
    let p = err_from_is_err_and c.from_residual-in_err-count_fault.result c.from_residual-in_err-count_fault.ensures.1 in
    rw (p.1, p.2) (record_fault-count (opened (goal.at.returns-in_err-count_fault-clause-fault c).In_ok-frame) _ _ c.in_err-count_fault.ensures (number_of-not_0 c.in_err-count_fault.field-0.0))

pub own_fault-requires : goal.own_fault-requires
own_fault-requires c = (opened-fits (opened (goal.at.own_fault-requires c).In_ok-frame), λ e. omega (arith, opened-ports (opened (goal.at.own_fault-requires c).In_ok-frame) e))

pub returns-in_err-own_fault-clause-fault : goal.returns-in_err-own_fault-clause-fault
returns-in_err-own_fault-clause-fault c =
    let p = err_from_is_err_and c.from_residual-in_err-own_fault.result c.from_residual-in_err-own_fault.ensures.1 in
    rw (p.1, p.2) (record_fault-own (opened (goal.at.returns-in_err-own_fault-clause-fault c).In_ok-frame) _ 0 c.in_ok-count_fault.ensures _ refl c.in_err-own_fault.ensures)

pub returns-clause-fault : goal.returns-clause-fault
returns-clause-fault c = record_fault-own (opened (goal.at.returns-clause-fault c).In_ok-frame) _ 0 c.in_ok-count_fault.ensures 0 refl c.in_ok-own_fault.ensures
