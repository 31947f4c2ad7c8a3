-- `tables_conflict::conflict_marks` meets its contract: all unset, or the marks.
use Rattle.tables_conflict.proofs.MarkLaws.{held-few, conflict_marks-made}
use Rattle.tables_conflict.proofs.conflict_marks.Goals as goal

pub all_marks-requires : goal.all_marks-requires
all_marks-requires c = held-few c.args.m _ c.marked_segments-n.ensures

pub returns : goal.returns
returns c = conflict_marks-made c.args.m _ c.marked_segments-n.ensures _ _ c.masks_for.ensures.value c.masks_for.ensures.placed c.all_marks.ensures
