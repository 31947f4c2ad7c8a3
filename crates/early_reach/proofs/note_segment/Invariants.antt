-- `early_reach::note_segment` meets its contract: the statements, one after the other.
use lib.ListN.{take}
use Rattle.model.specs.Statement.{notified_by}
use Rattle.early_reach.specs.Store.{NotesOf}
use Rattle.early_reach.proofs.note_segment.Given as goal

abbrev pub invariant-loop-x : goal.invariant-loop-x
invariant-loop-x l = NotesOf l.s (notified_by (take l.x-index l.fn.g.statements)) l.from l.initial.notes l.x-index l.k l.notes
