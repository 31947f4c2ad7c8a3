-- `tables_conflict::marked_segments` meets its contract: none, or N.
use mathlib.Core.Path.{refl, sym, ◌∙◌}
use Rattle.tables.proofs.OutcomeLaws.{if_held-yes, if_held-no, conflict-held}
use Rattle.refusal.proofs.NumberLaws.{told-refused, told-held}
use Rattle.tables_conflict.proofs.MarkLaws.{numbered-held}
use Rattle.tables_conflict.proofs.marked_segments.Goals as goal

pub returns-then-is_err : goal.returns-then-is_err
returns-then-is_err c =
    let m = c.args.m in
    sym
    (if_held-no m _ 0
    (λ e. told-refused c.conflict_number.result _ c.conflict_number.ensures (sym c.is_err.ensures.value ∙ c.if-is_err.true) (sym (conflict-held m e).0)))

pub returns : goal.returns
returns c =
    let m = c.args.m in
    c.from.ensures
    ∙ sym
    (if_held-yes m _ 0
    (numbered-held m _ refl (told-held c.conflict_number.result _ c.conflict_number.ensures (sym c.is_err.ensures.value ∙ c.if-is_err.false))))
