-- `reader_segment::statement_fault` meets its contract: its 6, then its 7.
use mathlib.Core.Path.{sym, ap, ◌∙◌}
use Rattle.std.proofs.lemmas.Result.{err_from_is_err_and}
use Rattle.refusal.proofs.NumberLaws.{number_of-not_0}
use Rattle.model.specs.Rules.{op_fault}
use Rattle.model_rules.proofs.FaultLaws.{fault-here, fault-later}
use Rattle.reader.specs.Statement.{op_bytes_fault}
use Rattle.reader_segment.proofs.statement_fault.Goals as goal

pub returns-in_err-op : goal.returns-in_err-op
unfolding op_bytes_fault
returns-in_err-op c =
    let p = err_from_is_err_and c.from_residual.result c.from_residual.ensures.1 in
    rw (p.1, p.2) (fault-here _ _ _ c.in_err-op.ensures.fault (number_of-not_0 c.in_err-op.field-0.0))

pub returns : goal.returns
unfolding op_bytes_fault
returns c = fault-later _ _ _ (sym c.in_ok-op.ensures.fault) (c.op_fault.ensures ∙ ap (op_fault _ _) c.in_ok-op.ensures.op)
