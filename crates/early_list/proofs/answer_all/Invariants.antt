-- `early_list::answer_all` meets its contract. The invariant: the calls from i on are still to come.
use mathlib.Core.Path.{◌≡◌}
use lib.ListN.{length}
use Rattle.early_row.specs.Lent.{is_by_steps, lent_of}
use Rattle.early_answer.specs.Shown.{table_by}
use Rattle.early_list.proofs.GoingLaws.{Going}
use Rattle.early_list.proofs.answer_all.Given as goal

abbrev pub invariant-loop-i : goal.invariant-loop-i
invariant-loop-i l =
    (length l.room ≡ length l.initial.room) × Going l.m l.fn.marks (table_by (is_by_steps l.from) l.m (lent_of l.from)) l.initial.s l.initial.ts.at l.initial.held l.calls l.initial.answers l.answers l.s l.ts.at l.held l.granted l.i
