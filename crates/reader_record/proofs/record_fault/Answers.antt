-- `reader_record::record_fault` meets its contract: by the kind, none before the first record, an end for any other number.
use Prim.Native.Nat.{ℕ}
use mathlib.Core.Path.{ap, ◌∙◌}
use Rattle.reader_record.specs.Parts.{record_fault}
use Rattle.reader_record.proofs.RecordLaws.{follows-unknown}
use Rattle.reader_record.proofs.FaultLaws.{record_fault-last}
use Rattle.reader_record.proofs.record_fault.Goals as goal

pub returns-in-Ok-clause-fault : goal.returns-in-Ok-clause-fault
returns-in-Ok-clause-fault c = c.fault_after.ensures.fault ∙ ap (λ (n : ℕ). record_fault n c.args.c c.args.b.now) c.in-Ok.ensures

pub returns-in-Err-2-clause-fault : goal.returns-in-Err-2-clause-fault
returns-in-Err-2-clause-fault c =
    let e = c.in-Err-2.ensures in
    c.fault_after-in-Err-2.ensures.fault ∙ record_fault-last _ _ _ _ (follows-unknown c.args.last c.if-last-eq0.false e.1)
